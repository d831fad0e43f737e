use Rattle.wasm_codec.specs.Outcomes.{as_read}
use Rattle.wasm_codec.proofs.BodyLaws.{Lawful-body}
use Rattle.wasm_codec.proofs.DecodingLaws.{decodes_minimal}
use Rattle.wasm_code.proofs.CodeBodyLaws.{Lawful-code-section-body, is_minimal_code}
use Rattle.wasm_code.proofs.code.reader.read_code_section_strict.Goals as goal

pub returns : goal.returns
returns c =
    let e = c.read_list_to_end.ensures in
    rw c.without_reason.ensures (record { decodes = decodes_minimal (Lawful-body Lawful-code-section-body) c.args.body.now is_minimal_code (λ bodies. bodies.items) (as_read c.read_list_to_end.result) (record { given = e.given; prefix = e.prefix; unencoded = e.unencoded }) })
