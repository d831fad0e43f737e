use Rattle.std.proofs.Common.{ℕ, ◌<◌}
use Rattle.wasm_instructions.specs.Names.{HasName}
use Rattle.wasm_instructions.proofs.names.first_after.Given as goal

abbrev pub invariant-loop-number : goal.invariant-loop-number
invariant-loop-number l = record {
  none : (n : ℕ) → n < l.number → HasName l.name l.kind (record { prefix = l.prefix; number = n }) → ⊥;
}
