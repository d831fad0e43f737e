use Rattle.std.proofs.Common.{rules, refl, arith}
use Rattle.std.proofs.lemmas.Grind.{common_steps}
use Rattle.wasm_instructions.specs.formats.Instructions.{operands_format}
use Rattle.wasm_sink.proofs.WrittenCalls.{emitted_aligned}
use Rattle.wasm_sink.proofs.sink.InstructionSink.emit_mem_lane.Goals as goal

pub returns : goal.returns
unfolding operands_format
returns g c = (search (rules), record { emits = emitted_aligned _ _ _ _ _ _ _ c.requires.call c.after_fd.ensures c.in_ok-calls.ensures.ok (grind (arith, common_steps)) refl (search (rules)) tt (search (rules)) tt (search (rules)) (search (rules)); unchanged = tt })
