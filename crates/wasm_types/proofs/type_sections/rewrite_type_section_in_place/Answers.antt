use Rattle.wasm_codec.proofs.BodyLaws.{Lawful-body}
use Rattle.wasm_codec.proofs.DecodingLaws.{normalises_slice}
use Rattle.wasm_types.specs.formats.Types.{type_body}
use Rattle.wasm_types.proofs.TypeFormatLaws.{Lawful-type-body}
use Rattle.wasm_types.proofs.type_sections.rewrite_type_section_in_place.Goals as goal

pub returns-clause-normalises : goal.returns-clause-normalises
unfolding type_body
returns-clause-normalises c =
    let n = c.rewrite_list_to_end in
    rw c.without_memory.ensures (normalises_slice (Lawful-body Lawful-type-body) c.args.body.now n.new.bytes n.result n.ensures.len (record { given = n.ensures.given; prefix = n.ensures.prefix; unencoded = n.ensures.unencoded }) n.ensures.memory)
