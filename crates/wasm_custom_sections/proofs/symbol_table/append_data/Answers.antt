use Rattle.std.proofs.Common.{◌≡◌, [], ◌∷◌, ◌++◌, append_assoc, rules}
use Rattle.wasm_codec.specs.Leb128.{unsigned_leb128}
use Rattle.wasm_externals.specs.formats.Names.{name}
use Rattle.wasm_codec.proofs.AppendLaws.{appends_after, appends_more, appends_or_not, three}
use Rattle.wasm_custom_sections.specs.formats.SymbolParts.{data_parts}
use Rattle.wasm_custom_sections.specs.formats.Symbols.{data_symbol}
use Rattle.wasm_custom_sections.proofs.SymbolLaws.{data_there}
use Rattle.wasm_custom_sections.proofs.symbol_table.append_data.Goals as goal

pub returns : goal.returns
unfolding data_symbol
returns g c =
    let item = data_parts c.args.item.now in
    let first : c.push_reserved.new.self.items ≡ c.args.sink.now.items ++ 1 ∷ [] = rw (← c.in_ok-reserve.ensures.items) c.push_reserved.ensures.items in
    let text = c.in_ok-append_name.ensures in
    let before = three c.args.sink.now.items (1 ∷ []) (unsigned_leb128 item.flags) (name.bytes item.name) c.push_reserved.new.self.items c.put_u32.new.bytes.items c.append_name.new.sink.items first c.put_u32.ensures.items text.ok in
    let call = rw c.is_defined.ensures at c.append_definition_if.ensures in
    appends_more (simp append_assoc) (λ can. text.can) (λ can. tt) (λ can. data_there item c.put_u32.ensures.minimal text.written) (appends_after _ (appends_or_not {Can = Unit {0}} call.ok (search rules) call.written (search rules) call.err) before)
