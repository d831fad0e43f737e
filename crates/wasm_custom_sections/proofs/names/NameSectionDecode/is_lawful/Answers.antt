use Rattle.wasm_code.proofs.PrefixLaws.{joined_prefixes}
use Rattle.wasm_custom_sections.proofs.names.NameSectionDecode.is_lawful.Goals as goal

pub returns-clause-prefixes : goal.returns-clause-prefixes
returns-clause-prefixes c = joined_prefixes _

pub returns-clause-minimal_prefixes : goal.returns-clause-minimal_prefixes
returns-clause-minimal_prefixes c = joined_prefixes _
