use Rattle.wasm_codec.proofs.BodyLaws.{Lawful-body}
use Rattle.wasm_types.proofs.TypeFormatLaws.{Lawful-type-body, is_minimal_body}
use Rattle.wasm_code.proofs.PrefixLaws.{counted_prefixes}
use Rattle.wasm_types.specs.formats.Types.{type_body}
use Rattle.wasm_encoder.proofs.decode.TypeSectionDecode.is_lawful.Goals as goal

pub returns : goal.returns
unfolding type_body
returns c = record { lawful = Lawful-body Lawful-type-body; minimal = is_minimal_body; prefixes = counted_prefixes _ _; minimal_prefixes = counted_prefixes _ _ }
