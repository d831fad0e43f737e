use Rattle.wasm_externals.proofs.NameLaws.{text_stays}
use Rattle.wasm_externals.proofs.names.TextRewritableBody.rewrite.Goals as goal

pub returns-in-Ok-clause-rewrites : goal.returns-in-Ok-clause-rewrites
returns-in-Ok-clause-rewrites c = text_stays c.args.rewriter.now c.rest.new.self c.left.result.now c.left.ensures c.in-Ok.ensures.cases.1 c.rest.ensures
