use Rattle.std.proofs.Common.{◌≡◌, [], ◌∷◌, ◌++◌, append_assoc}
use Rattle.wasm_codec.specs.Leb128.{unsigned_leb128}
use Rattle.wasm_codec.proofs.AppendLaws.{appends_after, appends_as, three}
use Rattle.wasm_custom_sections.specs.formats.SymbolParts.{item_parts}
use Rattle.wasm_custom_sections.specs.formats.Symbols.{item_symbol}
use Rattle.wasm_custom_sections.proofs.SymbolLaws.{item_there}
use Rattle.wasm_custom_sections.proofs.symbol_table.append_item.Goals as goal

pub returns : goal.returns
unfolding item_symbol
returns g c =
    let item = item_parts c.args.item.now in
    let first : c.push_reserved.new.self.items ≡ c.args.sink.now.items ++ c.args.kind ∷ [] = rw (← c.in_ok-reserve.ensures.items) c.push_reserved.ensures.items in
    let before = three c.args.sink.now.items (c.args.kind ∷ []) (unsigned_leb128 item.flags) (unsigned_leb128 item.index) c.push_reserved.new.self.items c.put_u32.new.bytes.items c.put_u32-2.new.bytes.items first c.put_u32.ensures.items c.put_u32-2.ensures.items in
    let call = rw c.has_name.ensures at c.append_name_if.ensures in
    appends_as (simp append_assoc) (item_there item c.put_u32.ensures.minimal c.put_u32-2.ensures.minimal) (appends_after _ call before)
