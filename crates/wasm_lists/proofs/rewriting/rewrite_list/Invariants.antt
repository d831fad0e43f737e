use Rattle.std.proofs.Common.{◌-◌, ◌≤◌}
use Rattle.wasm_codec.proofs.RefusalNumbers.{ListPassed}
use Rattle.wasm_codec.proofs.RewriterLaws.{ItemsRewritten}
use Rattle.wasm_lists.proofs.rewriting.rewrite_list.Given as goal

abbrev pub invariant-loop-index : goal.invariant-loop-index
invariant-loop-index g l = record {
  few : l.index ≤ l.count;
  rewritten : ItemsRewritten g.T.Rewritable.format l.fn.rewriter l.rewriter l.count l.index;
  passed : ListPassed g.T.Rewritable.format l.fn.rewriter.place.left l.rewriter.place.left l.count l.index;
}

abbrev pub decreases-loop-index : goal.decreases-loop-index
decreases-loop-index g l = l.count - l.index
