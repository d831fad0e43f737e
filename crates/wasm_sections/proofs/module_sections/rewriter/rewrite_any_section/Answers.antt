use Rattle.wasm_sections.proofs.ModuleSectionLaws.{broken_rewritten}
use Rattle.wasm_sections.proofs.module_sections.rewriter.rewrite_any_section.Goals as goal

pub returns-clause-names : goal.returns-clause-names
returns-clause-names c = broken_rewritten c.args.rewriter.now c.byte_of.new.self c.visit_section.new.visitor c.visit_section.result c.in-Ok.ensures c.visit_section.ensures.visits
