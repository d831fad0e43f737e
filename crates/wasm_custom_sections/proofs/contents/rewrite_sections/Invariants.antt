use Rattle.std.proofs.Common.{◌≡◌, ℕ, List, length}
use Rattle.wasm_custom_sections.specs.MinimalContents.{MinimisesSoFar}
use Rattle.wasm_custom_sections.proofs.contents.rewrite_sections.Given as goal

abbrev pub invariant-loop-alloc : goal.invariant-loop-alloc
invariant-loop-alloc l = (l.rewriter.rest ≡ l.fn.rewriter.rest) × ((bytes : List ℕ) → MinimisesSoFar bytes l.fn.rewriter → MinimisesSoFar bytes l.rewriter)

abbrev pub decreases-loop-alloc : goal.decreases-loop-alloc
decreases-loop-alloc l = length l.rewriter.place.left
