use Rattle.wasm_codec.specs.Outcomes.{as_read}
use Rattle.wasm_codec.proofs.BodyLaws.{Lawful-to-end}
use Rattle.wasm_codec.proofs.DecodingLaws.{normalises_slice}
use Rattle.wasm_codec.proofs.ListReading.{none_within}
use Rattle.wasm_instructions.specs.formats.Instructions.{Instructions}
use Rattle.wasm_instructions.proofs.InstructionFormatLaws.{Lawful-instruction, instruction_takes}
use Rattle.wasm_instructions.proofs.normaliser.rewrite_instructions_in_place.Goals as goal

pub returns-clause-normalises : goal.returns-clause-normalises
returns-clause-normalises c =
    let n = c.rewrite_items_to_end in
    let none = none_within Instructions c.args.bytes.now (as_read n.result) n.ensures.prefix n.ensures.within in
    rw c.without_memory.ensures (normalises_slice (Lawful-to-end Lawful-instruction instruction_takes) c.args.bytes.now n.new.bytes n.result n.ensures.len (record { given = n.ensures.given; prefix = n.ensures.prefix; unencoded = none }) n.ensures.memory)
