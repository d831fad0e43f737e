use Rattle.wasm_codec.proofs.BodyLaws.{Lawful-to-end}
use Rattle.wasm_codec.proofs.DecodingLaws.{normalises}
use Rattle.wasm_instructions.proofs.InstructionFormatLaws.{Lawful-instruction, instruction_takes, are_minimal}
use Rattle.wasm_instructions.proofs.normaliser.normalise_instructions.Goals as goal

pub returns : goal.returns
returns c = record { normalises = normalises (Lawful-to-end Lawful-instruction instruction_takes) c.args.bytes.now are_minimal c.call_bytes_of.result c.call_bytes_of.ensures.rewrites }
