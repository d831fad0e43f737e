use Rattle.std.proofs.Common.{◌+◌, ◌≤◌, length}
use Rattle.wasm_codec.proofs.RefusalNumbers.{Counted}
use Rattle.wasm_codec.proofs.RewriterLaws.{Going}
use Rattle.wasm_lists.proofs.rewriting.rewrite_joined.Given as goal

abbrev pub invariant-loop-rewriter : goal.invariant-loop-rewriter
invariant-loop-rewriter g l = record {
  going : Going g.T.Rewritable.format l.fn.rewriter l.rewriter;
  few : l.passed + length l.rewriter.place.left ≤ length l.fn.rewriter.place.left;
  counted : g.T.Joinable.NeverScans → Counted g.T.Rewritable.format l.fn.rewriter.place.left l.rewriter.place.left l.passed;
}

abbrev pub decreases-loop-rewriter : goal.decreases-loop-rewriter
decreases-loop-rewriter g l = length l.rewriter.place.left
