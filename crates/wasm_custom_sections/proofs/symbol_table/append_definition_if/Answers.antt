use Rattle.std.proofs.Common.{◌≡◌, ◌++◌}
use Rattle.wasm_codec.specs.Leb128.{unsigned_leb128}
use Rattle.wasm_custom_sections.proofs.SymbolLaws.{definition_appended, definition_if_bytes, definition_if_there, definition_there}
use Rattle.wasm_custom_sections.proofs.symbol_table.append_definition_if.Goals as goal

pub returns-clause-ok : goal.returns-clause-ok
returns-clause-ok g c =
    let first : c.put_u32.new.bytes.items ≡ c.args.sink.now.items ++ unsigned_leb128 c.in-Some.place.index = rw (← c.in_ok-reserve.ensures.items) c.put_u32.ensures.items in
    rw (definition_if_bytes c.args.there c.args.definition c.in-Some.place c.if-not-there.false c.in-Some.is)
    (definition_appended c.in-Some.place c.args.sink.now.items c.put_u32.new.bytes.items c.put_u32-2.new.bytes.items c.put_u32-3.new.bytes.items first c.put_u32-2.ensures.items c.put_u32-3.ensures.items)

pub returns-clause-written : goal.returns-clause-written
returns-clause-written g c = definition_if_there c.args.there c.args.definition c.in-Some.place c.in-Some.is (definition_there c.in-Some.place c.put_u32.ensures.minimal c.put_u32-2.ensures.minimal c.put_u32-3.ensures.minimal)
