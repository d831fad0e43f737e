use Rattle.wasm_codec.proofs.BodyLaws.{Lawful-to-end}
use Rattle.wasm_instructions.proofs.InstructionFormatLaws.{Lawful-instruction, instruction_takes, are_minimal}
use Rattle.wasm_code.proofs.PrefixLaws.{joined_prefixes}
use Rattle.wasm_encoder.proofs.decode.InstructionsDecode.is_lawful.Goals as goal

pub returns : goal.returns
returns c = record { lawful = Lawful-to-end Lawful-instruction instruction_takes; minimal = are_minimal; prefixes = joined_prefixes _; minimal_prefixes = joined_prefixes _ }
