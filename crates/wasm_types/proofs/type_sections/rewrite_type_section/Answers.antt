use Rattle.std.proofs.Common.{sym, ◌∙◌, arith}
use Rattle.wasm_codec.specs.Outcomes.{as_read}
use Rattle.wasm_codec.proofs.DecodingLaws.{refused_vector, rewritten_vector}
use Rattle.wasm_types.specs.formats.Types.{type_body}
use Rattle.wasm_codec.proofs.BodyLaws.{Lawful-body}
use Rattle.wasm_types.proofs.TypeFormatLaws.{Lawful-type-body}
use Rattle.wasm_types.proofs.type_sections.rewrite_type_section.Goals as goal

pub returns-in-Ok : goal.returns-in-Ok
unfolding type_body
returns-in-Ok c =
    let n = c.rewrite_list_to_end in
    record { normalises = rewritten_vector (Lawful-body Lawful-type-body) c.args.body.items c.as_mut_slice.result.now n.new.bytes _ c.args.body.len c.in-Ok.len (as_read n.result) c.truncate.new.self (sym c.without_reason.ensures ∙ c.in-Ok.is) c.as_mut_slice.ensures.value (omega arith) c.truncate.ensures.items (record { given = n.ensures.given; prefix = n.ensures.prefix; unencoded = n.ensures.unencoded }) }

pub returns-in-Err : goal.returns-in-Err
unfolding type_body
returns-in-Err c =
    let n = c.rewrite_list_to_end in
    record { normalises = refused_vector (Lawful-body Lawful-type-body) c.args.body.items c.as_mut_slice.result.now n.new.bytes c.in-Err.error (as_read n.result) (sym c.without_reason.ensures ∙ c.in-Err.is) c.as_mut_slice.ensures.value (record { given = n.ensures.given; prefix = n.ensures.prefix; unencoded = n.ensures.unencoded }) n.ensures.memory }
