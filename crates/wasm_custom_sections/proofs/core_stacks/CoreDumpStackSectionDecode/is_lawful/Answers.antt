use Rattle.wasm_code.proofs.PrefixLaws.{nothing_or}
use Rattle.wasm_custom_sections.proofs.core_stacks.CoreDumpStackSectionDecode.is_lawful.Goals as goal

pub returns-clause-prefixes : goal.returns-clause-prefixes
returns-clause-prefixes c = nothing_or _

pub returns-clause-minimal_prefixes : goal.returns-clause-minimal_prefixes
returns-clause-minimal_prefixes c = nothing_or _
