use Rattle.std.proofs.Common.{◌≡◌, ◌++◌}
use Rattle.wasm_codec.specs.Leb128.{unsigned_leb128}
use Rattle.wasm_custom_sections.proofs.HintLaws.{hint_appended, hint_written}
use Rattle.wasm_custom_sections.proofs.branch_hints.BranchHintEncode.encode.Goals as goal

pub returns-clause-ok : goal.returns-clause-ok
returns-clause-ok g c =
    let first : c.put_u32.new.bytes.items ≡ c.args.sink.now.items ++ unsigned_leb128 c.args.self.now.branch_func_offset = rw (← c.in_ok-reserve.ensures.items) c.put_u32.ensures.items in
    hint_appended c.args.self.now c.value_byte.result c.args.sink.now.items c.put_u32.new.bytes.items c.put_u32-2.new.bytes.items c.push_reserved.new.self.items c.value_byte.ensures first c.put_u32-2.ensures.items c.push_reserved.ensures.items

pub returns-clause-written : goal.returns-clause-written
returns-clause-written g c = hint_written c.args.self.now c.put_u32.ensures.minimal
