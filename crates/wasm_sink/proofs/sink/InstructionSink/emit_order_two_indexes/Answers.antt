use Rattle.std.proofs.Common.{rules, refl, arith}
use Rattle.std.proofs.lemmas.Grind.{common_steps}
use Rattle.wasm_instructions.specs.formats.Instructions.{operands_format}
use Rattle.wasm_sink.proofs.WrittenCalls.{emitted}
use Rattle.wasm_sink.proofs.sink.InstructionSink.emit_order_two_indexes.Goals as goal

pub returns : goal.returns
unfolding operands_format
returns g c = (search (rules), record { emits = emitted _ _ _ _ _ _ c.requires.call c.after_fe.ensures c.in_ok-calls.ensures.ok (grind (arith, common_steps)) refl (search (rules)) tt tt tt (search (rules)); unchanged = tt })
