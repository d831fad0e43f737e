use Rattle.wasm_codec.specs.Outcomes.{as_read}
use Rattle.wasm_codec.proofs.BodyLaws.{Lawful-body}
use Rattle.wasm_codec.proofs.DecodingLaws.{decodes_minimal}
use Rattle.wasm_types.proofs.TypeFormatLaws.{Lawful-type-body, is_minimal_body}
use Rattle.wasm_types.proofs.type_sections.read_type_section_strict.Goals as goal

pub returns : goal.returns
returns c =
    let e = c.read_list_to_end.ensures in
    rw c.without_reason.ensures (record { decodes = decodes_minimal (Lawful-body Lawful-type-body) c.args.body.now is_minimal_body (λ entries. entries.items) (as_read c.read_list_to_end.result) (record { given = e.given; prefix = e.prefix; unencoded = e.unencoded }) })
