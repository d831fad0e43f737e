use Rattle.wasm_codec.proofs.Shortening.{scanned_rewritten}
use Rattle.wasm_code.proofs.CodeBodyLaws.{Lawful-code_body}
use Rattle.wasm_code.proofs.code.normaliser.CodeBodyRewritable.rewrite.Goals as goal

pub returns-in-Some-clause-rewrites : goal.returns-in-Some-clause-rewrites
returns-in-Some-clause-rewrites c = scanned_rewritten Lawful-code_body c.args.rewriter.now c.rewrite_scanned.new.self c.left.result.now c.left.ensures c.are_bytes.ensures c.in-Some.scanned c.in-Some.ensures c.rewrite_scanned.ensures
