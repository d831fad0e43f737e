use Rattle.std.proofs.Common.{◌≡◌, ℕ, List, length}
use Rattle.wasm_modules.specs.Selections.{Selects}
use Rattle.wasm_modules.proofs.selection.keep_selected.Given as goal

abbrev pub invariant-loop-rewriter : goal.invariant-loop-rewriter
invariant-loop-rewriter l = (l.rewriter.rest ≡ l.fn.rewriter.rest) × ((bytes : List ℕ) → Selects l.selection bytes l.fn.rewriter → Selects l.selection bytes l.rewriter)

abbrev pub decreases-loop-rewriter : goal.decreases-loop-rewriter
decreases-loop-rewriter l = length l.rewriter.place.left
