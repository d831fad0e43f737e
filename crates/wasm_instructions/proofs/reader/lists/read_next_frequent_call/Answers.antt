use Rattle.wasm_codec.proofs.MinimalIfLaws.{flag, Lawful-minimal_if}
use Rattle.wasm_instructions.proofs.InstructionFormatLaws.{Lawful-instruction}
use Rattle.wasm_instructions.proofs.reader.lists.read_next_frequent_call.Goals as goal

pub returns-then-not-this-clause-lawful : goal.returns-then-not-this-clause-lawful
returns-then-not-this-clause-lawful g c = Lawful-minimal_if (flag g.row.STRICT) Lawful-instruction

pub returns-clause-lawful : goal.returns-clause-lawful
returns-clause-lawful g c = Lawful-minimal_if (flag g.row.STRICT) Lawful-instruction
