use Rattle.wasm_codec.specs.Outcomes.{as_read}
use Rattle.wasm_codec.proofs.BodyLaws.{Lawful-to-end}
use Rattle.wasm_codec.proofs.DecodingLaws.{decodes_minimal}
use Rattle.wasm_codec.proofs.ListReading.{none_within}
use Rattle.wasm_instructions.specs.formats.Instructions.{MinimalInstructions}
use Rattle.wasm_instructions.proofs.InstructionFormatLaws.{Lawful-instruction, instruction_takes, are_minimal}
use Rattle.wasm_instructions.proofs.reader.instructions.read_instructions_strict.Goals as goal

pub returns : goal.returns
returns c =
    let e = c.read_calls_to_end.ensures in
    let none = none_within MinimalInstructions c.args.bytes.now (as_read c.read_calls_to_end.result) e.prefix e.within in
    rw c.without_reason.ensures (record { decodes = decodes_minimal (Lawful-to-end Lawful-instruction instruction_takes) c.args.bytes.now are_minimal (λ calls. calls.items) (as_read c.read_calls_to_end.result) (record { given = e.given; prefix = e.prefix; unencoded = none }) })
