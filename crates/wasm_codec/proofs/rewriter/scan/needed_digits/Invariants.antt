use Rattle.std.proofs.Common.{◌≡◌, ℕ, ◌-◌, ◌<◌, ◌≤◌, ◌%◌, true, get_or}
use Rattle.wasm_codec.specs.Scanning.{repeats}
use Rattle.wasm_codec.proofs.rewriter.scan.needed_digits.Given as goal

abbrev pub invariant-loop-kept : goal.invariant-loop-kept
invariant-loop-kept l = (0 < l.kept) × (l.kept ≤ l.count) × ((k : ℕ) → l.kept ≤ k → k < l.count → repeats l.signed (get_or l.bytes (k - 1) 0) (get_or l.bytes k 0 % 128) ≡ true)

abbrev pub decreases-loop-kept : goal.decreases-loop-kept
decreases-loop-kept l = l.kept - 1
