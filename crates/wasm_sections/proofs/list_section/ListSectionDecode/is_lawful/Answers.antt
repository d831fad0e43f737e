use Rattle.wasm_codec.proofs.MinimalIfLaws.{list_minimal_only}
use Rattle.wasm_codec.proofs.BodyLaws.{Lawful-body}
use Rattle.wasm_codec.proofs.FormatLaws.{Lawful-items}
use Rattle.wasm_code.proofs.PrefixLaws.{counted_prefixes}
use Rattle.wasm_sections.proofs.list_section.ListSectionDecode.is_lawful.Goals as goal

pub returns : goal.returns
returns g c = record { lawful = Lawful-body (Lawful-items c.is_lawful.ensures.lawful); minimal = list_minimal_only c.is_lawful.ensures.lawful; prefixes = counted_prefixes _ _; minimal_prefixes = counted_prefixes _ _ }
