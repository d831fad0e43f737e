use Rattle.wasm_codec.proofs.MinimalIfLaws.{list_minimal_only}
use Rattle.wasm_sections.proofs.ModuleSectionLaws.{list_body_is_lawful}
use Rattle.wasm_code.proofs.PrefixLaws.{counted_prefixes}
use Rattle.wasm_custom_sections.proofs.custom_list.CustomListDecode.is_lawful.Goals as goal

pub returns : goal.returns
returns g c = record { lawful = list_body_is_lawful c.is_lawful.ensures.lawful; minimal = list_minimal_only c.is_lawful.ensures.lawful; prefixes = counted_prefixes _ _; minimal_prefixes = counted_prefixes _ _ }
