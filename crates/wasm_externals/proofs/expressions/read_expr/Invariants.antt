use Rattle.std.proofs.Common.{◌≤◌}
use Rattle.wasm_instructions.specs.formats.Instructions.{instruction}
use Rattle.wasm_externals.specs.formats.Expressions.{expr}
use Rattle.wasm_externals.proofs.ExpressionLaws.{Gone, by_opcode}
use Rattle.wasm_externals.proofs.expressions.read_expr.Given as goal

abbrev pub invariant-loop : goal.invariant-loop
invariant-loop l = record {
  depth : l.depth ≤ l.counter;
  gone : Gone by_opcode instruction.at (expr.at l.fn.cursor) l.most l.counter l.depth l.cursor l.calls.items;
}
