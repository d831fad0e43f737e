use Rattle.std.proofs.Common.{◌≤◌, ◌-◌}
use Rattle.wasm_codec.specs.Scanning.{BeginsItems}
use Rattle.wasm_instructions.specs.formats.Operands.{catch_clause}
use Rattle.wasm_instructions.proofs.normaliser.scan.parts.scan_clauses.Given as goal

abbrev pub invariant-loop-index : goal.invariant-loop-index
invariant-loop-index l = record {
  few : l.index ≤ l.count;
  begins : BeginsItems catch_clause l.clauses l.index l.size;
}

abbrev pub decreases-loop-index : goal.decreases-loop-index
decreases-loop-index l = l.count - l.index
