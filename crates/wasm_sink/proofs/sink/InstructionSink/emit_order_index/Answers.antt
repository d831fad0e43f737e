use Rattle.std.proofs.Common.{rules, refl}
use Rattle.wasm_instructions.specs.formats.Instructions.{operands_format}
use Rattle.wasm_sink.proofs.WrittenCalls.{emitted, then_put}
use Rattle.wasm_sink.proofs.sink.InstructionSink.emit_order_index.Goals as goal

pub returns : goal.returns
unfolding operands_format
returns g c = (search (rules), record { emits = emitted _ _ _ _ _ _ c.requires.call c.after_fe.ensures c.in_ok-calls.ensures.ok (then_put _ _ _ _ _ c.put_ordering.ensures.items c.put_u32.ensures.items) refl (search (rules)) tt tt tt (search (rules)); unchanged = tt })
