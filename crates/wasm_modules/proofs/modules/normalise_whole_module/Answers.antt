use Rattle.wasm_sections.proofs.ModuleSectionLaws.{whole_module_encoded}
use Rattle.wasm_modules.proofs.modules.normalise_whole_module.Goals as goal

pub returns-clause-encodes : goal.returns-clause-encodes
returns-clause-encodes c = whole_module_encoded c.args.bytes.now

pub returns-clause-normalises : goal.returns-clause-normalises
returns-clause-normalises c = rw c.without_reason.ensures c.normalise.ensures.normalises
