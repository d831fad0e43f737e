use Rattle.wasm_codec.proofs.BodyLaws.{Lawful-body}
use Rattle.wasm_codec.proofs.DecodingLaws.{normalises_slice}
use Rattle.wasm_code.specs.formats.CodeBodies.{code_section_body}
use Rattle.wasm_code.proofs.CodeBodyLaws.{Lawful-code-section-body}
use Rattle.wasm_code.proofs.code.normaliser.rewrite_code_section_in_place.Goals as goal

pub returns-clause-normalises : goal.returns-clause-normalises
unfolding code_section_body
returns-clause-normalises c =
    let n = c.rewrite_list_to_end in
    rw c.without_memory.ensures (normalises_slice (Lawful-body Lawful-code-section-body) c.args.body.now n.new.bytes n.result n.ensures.len (record { given = n.ensures.given; prefix = n.ensures.prefix; unencoded = n.ensures.unencoded }) n.ensures.memory)
