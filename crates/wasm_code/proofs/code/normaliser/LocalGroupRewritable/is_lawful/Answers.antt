use Rattle.wasm_code.proofs.CodeBodyLaws.{Lawful-local-group, local_group_takes}
use Rattle.wasm_code.proofs.code.normaliser.LocalGroupRewritable.is_lawful.Goals as goal

pub returns-clause-lawful : goal.returns-clause-lawful
returns-clause-lawful c = Lawful-local-group

pub returns-clause-some : goal.returns-clause-some
returns-clause-some c = local_group_takes
