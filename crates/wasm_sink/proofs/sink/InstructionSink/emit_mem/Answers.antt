use Rattle.std.proofs.Common.{rules, refl}
use Rattle.wasm_instructions.specs.formats.Instructions.{operands_format}
use Rattle.wasm_sink.proofs.WrittenCalls.{emitted_aligned}
use Rattle.wasm_sink.proofs.sink.InstructionSink.emit_mem.Goals as goal

pub returns : goal.returns
unfolding operands_format
returns g c = (search (rules), record { emits = emitted_aligned _ _ _ _ _ _ _ c.requires.call refl c.in_ok-calls.ensures.ok c.put_mem_arg.ensures.items refl (search (rules)) tt (search (rules)) tt (search (rules)) (search (rules)); unchanged = tt })
