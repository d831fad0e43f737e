use Rattle.std.proofs.Common.{◌-◌, ◌≤◌}
use Rattle.wasm_codec.specs.Scanning.{BeginsItems}
use Rattle.wasm_codec.specs.formats.Combinators.{u32}
use Rattle.wasm_lists.proofs.rewriting.numbers.number_run.Given as goal

abbrev pub invariant-loop-items : goal.invariant-loop-items
invariant-loop-items l = record {
  few : l.items ≤ l.most;
  begins : BeginsItems u32 l.bytes l.items l.size;
}

abbrev pub decreases-loop-items : goal.decreases-loop-items
decreases-loop-items l = l.most - l.items
