use Rattle.wasm_codec.specs.Outcomes.{as_read}
use Rattle.wasm_codec.proofs.BodyLaws.{Lawful-body}
use Rattle.wasm_codec.proofs.DecodingLaws.{decodes}
use Rattle.wasm_codec.proofs.PlaceLists.{prefix_free}
use Rattle.wasm_code.specs.formats.CodeBodies.{code_section_body}
use Rattle.wasm_code.proofs.CodeBodyLaws.{Lawful-code_body, Lawful-code-section-body}
use Rattle.wasm_code.proofs.code.reader.read_code_section.Goals as goal

pub returns : goal.returns
unfolding code_section_body
returns c =
    let e = c.read_list_to_end.ensures in
    rw c.without_reason.ensures (record {
      decodes = decodes (Lawful-body Lawful-code-section-body) c.args.body.now (λ bodies. bodies.items) (as_read c.read_list_to_end.result) (record { given = e.given; prefix = e.prefix; unencoded = e.unencoded });
      prefix_free = record { code_bodies = prefix_free Lawful-code_body };
    })
