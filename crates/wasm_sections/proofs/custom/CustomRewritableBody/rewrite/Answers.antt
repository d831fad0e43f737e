use Rattle.wasm_sections.proofs.CustomLaws.{custom_rewritten}
use Rattle.wasm_sections.proofs.custom.CustomRewritableBody.rewrite.Goals as goal

pub returns-clause-rewrites : goal.returns-clause-rewrites
returns-clause-rewrites c = custom_rewritten c.args.rewriter.now c.rewrite_name.new.rewriter c.rest.new.self c.in_ok-rewrite_name.ensures.rewrites c.rest.ensures
