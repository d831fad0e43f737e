use Rattle.std.proofs.Common.{◌≡◌, [], ◌∷◌, ◌++◌}
use Rattle.wasm_codec.proofs.AppendLaws.{appended}
use Rattle.wasm_custom_sections.proofs.SymbolLaws.{section_appended, section_there}
use Rattle.wasm_custom_sections.proofs.symbol_table.append_section.Goals as goal

pub returns : goal.returns
returns g c =
    let first : c.push_reserved.new.self.items ≡ c.args.sink.now.items ++ 3 ∷ [] = rw (← c.in_ok-reserve.ensures.items) c.push_reserved.ensures.items in
    let bytes = section_appended c.args.item c.args.sink.now.items c.push_reserved.new.self.items c.put_u32.new.bytes.items c.put_u32-2.new.bytes.items first c.put_u32.ensures.items c.put_u32-2.ensures.items in
    appended bytes tt (section_there c.args.item c.put_u32.ensures.minimal c.put_u32-2.ensures.minimal)
