use Rattle.std.proofs.Common.{◌≡◌, ℕ, ◌<◌, get_or}
use Rattle.wasm_instructions.specs.Names.{HasNoneAfter}
use Rattle.wasm_instructions.specs.declared.table.opcode.Prefix.TheVariants as prefixes
use Rattle.wasm_instructions.proofs.names.first_named.Given as goal

abbrev pub invariant-loop-prefix : goal.invariant-loop-prefix
invariant-loop-prefix l = record {
  same : l.prefix-items ≡ l.initial.prefix-items;
  none : (k : ℕ) → k < l.prefix-index → HasNoneAfter (get_or l.prefix-items k prefixes.None) l.name l.kind;
}
