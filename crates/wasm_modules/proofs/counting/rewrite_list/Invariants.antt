use Rattle.std.proofs.Common.{◌-◌, ◌≤◌}
use Rattle.wasm_modules.proofs.CountingLaws.{Counted}
use Rattle.wasm_modules.proofs.counting.rewrite_list.Given as goal

abbrev pub invariant-loop-index : goal.invariant-loop-index
invariant-loop-index g l = record {
  few : l.index ≤ l.count;
  counted : Counted g.T.Rewritable.format l.fn.rewriter l.rewriter l.count l.index l.longer;
}

abbrev pub decreases-loop-index : goal.decreases-loop-index
decreases-loop-index g l = l.count - l.index
