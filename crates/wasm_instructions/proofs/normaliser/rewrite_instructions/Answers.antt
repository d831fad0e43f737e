use Rattle.std.proofs.Common.{sym, ◌∙◌, arith}
use Rattle.wasm_codec.specs.Outcomes.{as_read}
use Rattle.wasm_codec.proofs.BodyLaws.{Lawful-to-end}
use Rattle.wasm_codec.proofs.DecodingLaws.{refused_vector, rewritten_vector}
use Rattle.wasm_codec.proofs.ListReading.{none_within}
use Rattle.wasm_instructions.specs.formats.Instructions.{Instructions}
use Rattle.wasm_instructions.proofs.InstructionFormatLaws.{Lawful-instruction, instruction_takes}
use Rattle.wasm_instructions.proofs.normaliser.rewrite_instructions.Goals as goal

pub returns-in-Ok : goal.returns-in-Ok
returns-in-Ok c =
    let n = c.rewrite_items_to_end in
    let none = none_within Instructions c.as_mut_slice.result.now (as_read n.result) n.ensures.prefix n.ensures.within in
    record { normalises = rewritten_vector (Lawful-to-end Lawful-instruction instruction_takes) c.args.bytes.items c.as_mut_slice.result.now n.new.bytes _ c.args.bytes.len c.in-Ok.len (as_read n.result) c.truncate.new.self (sym c.without_reason.ensures ∙ c.in-Ok.is) c.as_mut_slice.ensures.value (omega arith) c.truncate.ensures.items (record { given = n.ensures.given; prefix = n.ensures.prefix; unencoded = none }) }

pub returns-in-Err : goal.returns-in-Err
returns-in-Err c =
    let n = c.rewrite_items_to_end in
    let none = none_within Instructions c.as_mut_slice.result.now (as_read n.result) n.ensures.prefix n.ensures.within in
    record { normalises = refused_vector (Lawful-to-end Lawful-instruction instruction_takes) c.args.bytes.items c.as_mut_slice.result.now n.new.bytes c.in-Err.error (as_read n.result) (sym c.without_reason.ensures ∙ c.in-Err.is) c.as_mut_slice.ensures.value (record { given = n.ensures.given; prefix = n.ensures.prefix; unencoded = none }) n.ensures.memory }
