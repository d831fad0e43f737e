use Rattle.wasm_codec.specs.declared.rewriter.scan.Scanned.TheVariants.{Minimal}
use Rattle.wasm_codec.proofs.Shortening.{scanned_rewritten}
use Rattle.wasm_code.proofs.CodeBodyLaws.{Lawful-local-group}
use Rattle.wasm_code.proofs.code.normaliser.LocalGroupRewritable.rewrite.Goals as goal

pub returns-in-Some-clause-rewrites : goal.returns-in-Some-clause-rewrites
returns-in-Some-clause-rewrites c = scanned_rewritten Lawful-local-group c.args.rewriter.now c.rewrite_scanned.new.self c.left.result.now c.left.ensures c.are_bytes.ensures (Minimal c.in-Some.count) c.in-Some.ensures c.rewrite_scanned.ensures
