use Rattle.wasm_codec.proofs.MinimalIfLaws.{list_minimal_only}
use Rattle.wasm_codec.proofs.BodyLaws.{Lawful-body}
use Rattle.wasm_codec.proofs.FormatLaws.{Lawful-items}
use Rattle.example_sections.proofs.ExportLaws.{Lawful-export}
use Rattle.wasm_encoder.proofs.PrefixLaws.{counted_prefixes}
use Rattle.example_sections.proofs.read.ExportSectionDecode.is_lawful.Goals as goal

pub returns : goal.returns
returns c = record { lawful = Lawful-body (Lawful-items Lawful-export); minimal = list_minimal_only Lawful-export; prefixes = counted_prefixes _ _; minimal_prefixes = counted_prefixes _ _ }
