use Rattle.std.proofs.Common.{rules, refl}
use Rattle.wasm_instructions.specs.formats.Instructions.{operands_format}
use Rattle.wasm_sink.proofs.WrittenCalls.{emitted}
use Rattle.wasm_sink.proofs.sink.InstructionSink.emit_f32.Goals as goal

pub returns : goal.returns
unfolding operands_format
returns g c = (search (rules), record { emits = emitted _ _ _ _ _ _ c.requires.call c.without_prefix.ensures c.in_ok-calls.ensures.ok (search (rules)) refl (search (rules)) tt tt tt (search (rules)); unchanged = tt })
