use Rattle.wasm_codec.proofs.BodyLaws.{Lawful-body}
use Rattle.wasm_code.proofs.CodeBodyLaws.{Lawful-code-section-body, is_minimal_code}
use Rattle.wasm_code.proofs.PrefixLaws.{counted_prefixes}
use Rattle.wasm_code.specs.formats.CodeBodies.{code_section_body}
use Rattle.wasm_encoder.proofs.decode.CodeSectionDecode.is_lawful.Goals as goal

pub returns : goal.returns
unfolding code_section_body
returns c = record { lawful = Lawful-body Lawful-code-section-body; minimal = is_minimal_code; prefixes = counted_prefixes _ _; minimal_prefixes = counted_prefixes _ _ }
