use Rattle.std.proofs.Common.{◌≤◌, drop}
use Rattle.wasm_externals.specs.ClosedExpressions.{IsClosed}
use Rattle.wasm_externals.proofs.ExpressionLaws.{IsClosedFrom}
use Rattle.wasm_externals.proofs.expressions.is_closed.Given as goal

abbrev pub invariant-loop-call : goal.invariant-loop-call
invariant-loop-call l = record {
  all : IsClosedFrom l.depth (drop l.call-index l.calls) → IsClosed l.calls;
  left : IsClosed l.calls → IsClosedFrom l.depth (drop l.call-index l.calls);
  few : l.depth ≤ l.call-index;
}
