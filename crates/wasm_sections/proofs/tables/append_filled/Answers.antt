use Rattle.std.proofs.Common.{◌≡◌, [], ◌∷◌, ◌++◌, refl}
use Rattle.wasm_externals.specs.formats.Externals.{table_type}
use Rattle.wasm_sections.specs.formats.Entries.{table_entry}
use Rattle.wasm_sections.proofs.EntryLaws.{filled_written}
use Rattle.wasm_codec.proofs.AppendLaws.{appends_after, appends_as, appends_or_not, three}
use Rattle.wasm_sections.proofs.tables.append_filled.Goals as goal

pub returns : goal.returns
unfolding table_entry
returns g c =
    let first : c.push_reserved.new.self.items ≡ c.args.sink.now.items ++ 0x40 ∷ [] = rw (← c.in_ok-reserve.ensures.items) c.push_reserved.ensures.items in
    let before = three c.args.sink.now.items (0x40 ∷ []) (0x00 ∷ []) (table_type.bytes c.args.ty.now) c.push_reserved.new.self.items c.push_reserved-2.new.self.items c.put_table_type.new.bytes.items first c.push_reserved-2.ensures.items c.put_table_type.ensures.items in
    let expr = c.encode_expr.ensures in
    appends_as refl (filled_written c.args.ty.now c.args.init.now c.put_table_type.ensures.written) (appends_after _ (appends_or_not expr.ok expr.can expr.written expr.refused expr.err) before)
