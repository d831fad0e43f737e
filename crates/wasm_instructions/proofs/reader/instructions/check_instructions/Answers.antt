use Rattle.wasm_codec.specs.Outcomes.{as_read}
use Rattle.wasm_codec.proofs.BodyLaws.{Lawful-to-end}
use Rattle.wasm_codec.proofs.DecodingLaws.{checks}
use Rattle.wasm_codec.proofs.ListReading.{none_within}
use Rattle.wasm_instructions.specs.formats.Instructions.{MinimalInstructions}
use Rattle.wasm_instructions.proofs.InstructionFormatLaws.{Lawful-instruction, instruction_takes, are_minimal}
use Rattle.wasm_instructions.proofs.reader.instructions.check_instructions.Goals as goal

pub returns : goal.returns
returns c =
    let e = c.check_items_to_end.ensures in
    let none = none_within MinimalInstructions c.args.bytes.now (as_read c.check_items_to_end.result) e.prefix e.within in
    rw c.without_reason.ensures (record { checks = checks (Lawful-to-end Lawful-instruction instruction_takes) c.args.bytes.now are_minimal (as_read c.check_items_to_end.result) (record { given = e.given; prefix = e.prefix; unencoded = none }) })
