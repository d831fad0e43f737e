use Rattle.std.proofs.Common.{◌+◌, ◌≤◌, length}
use Rattle.wasm_lists.proofs.LongerLaws.{CheckedModule, CheckedCount}
use Rattle.wasm_lists.proofs.longer.rewrite_and_check_items.Given as goal

abbrev pub invariant-loop-rewriter : goal.invariant-loop-rewriter
invariant-loop-rewriter g l = record {
  checked : CheckedModule g.T.Rewritable.format l.fn.rewriter l.rewriter l.first;
  count : CheckedCount g.T.Rewritable.format l.fn.rewriter l.rewriter l.first l.passed;
  few : l.passed + length l.rewriter.place.left ≤ length l.fn.rewriter.place.left;
}

abbrev pub decreases-loop-rewriter : goal.decreases-loop-rewriter
decreases-loop-rewriter g l = length l.rewriter.place.left
