use Rattle.wasm_codec.proofs.BodyLaws.{Lawful-body}
use Rattle.wasm_types.proofs.TypeFormatLaws.{Lawful-type-body, is_minimal_body}
use Rattle.wasm_types.proofs.type_sections.normalise_type_section.Goals as goal
use Rattle.wasm_codec.proofs.DecodingLaws.{normalises}

pub returns : goal.returns
returns c = record { normalises = normalises (Lawful-body Lawful-type-body) c.args.body.now is_minimal_body c.body_bytes_of.result c.body_bytes_of.ensures.rewrites }
