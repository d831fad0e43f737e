use Rattle.wasm_codec.proofs.BodyLaws.{Lawful-body}
use Rattle.wasm_codec.proofs.DecodingLaws.{normalises}
use Rattle.wasm_code.proofs.CodeBodyLaws.{Lawful-code-section-body, is_minimal_code}
use Rattle.wasm_code.proofs.code.normaliser.normalise_code_section.Goals as goal

pub returns : goal.returns
returns c = record { normalises = normalises (Lawful-body Lawful-code-section-body) c.args.body.now is_minimal_code c.bodies_bytes_of.result c.bodies_bytes_of.ensures.rewrites }
