use Rattle.std.proofs.Common.{◌≤◌}
use Rattle.wasm_externals.proofs.ExpressionLaws.{ExprGoing}
use Rattle.wasm_externals.proofs.expressions.rewrite_expr.Given as goal

abbrev pub invariant-loop : goal.invariant-loop
invariant-loop l = record {
  depth : l.depth ≤ l.counter;
  going : ExprGoing l.fn.rewriter l.rewriter l.most l.counter l.depth;
}
