use Rattle.wasm_custom_sections.proofs.LinkingLaws.{data_is_minimal}
use Rattle.wasm_code.proofs.PrefixLaws.{nothing_or}
use Rattle.wasm_custom_sections.proofs.linking.LinkingSectionDecode.is_lawful.Goals as goal

pub returns-clause-minimal : goal.returns-clause-minimal
returns-clause-minimal c = data_is_minimal

pub returns-clause-prefixes : goal.returns-clause-prefixes
returns-clause-prefixes c = nothing_or _

pub returns-clause-minimal_prefixes : goal.returns-clause-minimal_prefixes
returns-clause-minimal_prefixes c = nothing_or _
