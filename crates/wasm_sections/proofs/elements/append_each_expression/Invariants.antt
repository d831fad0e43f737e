use Rattle.std.proofs.Common.{◌≡◌, ◌++◌, take}
use Rattle.std.specs.List.{All, flat_map}
use Rattle.wasm_externals.specs.ClosedExpressions.{IsCountedExpr, IsWrittenExpr}
use Rattle.wasm_externals.specs.formats.Expressions.{expr}
use Rattle.wasm_sections.proofs.elements.append_each_expression.Given as goal

abbrev pub invariant-loop-expression : goal.invariant-loop-expression
invariant-loop-expression g l = record {
  bytes : l.sink.items ≡ l.fn.sink.items ++ flat_map expr.bytes (take l.expression-index l.expressions);
  can : All IsCountedExpr (take l.expression-index l.expressions);
  written : All IsWrittenExpr (take l.expression-index l.expressions);
}
