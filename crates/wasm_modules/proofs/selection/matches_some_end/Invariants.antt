use Rattle.std.proofs.Common.{◌∷◌, length}
use denote.Text.{Utf8}
use denote.Shadow.{shadow}
use Rattle.wasm_modules.specs.Selections.{IsMatch, star}
use Rattle.wasm_modules.proofs.selection.matches_some_end.Given as goal

abbrev pub invariant-loop-piece : goal.invariant-loop-piece
invariant-loop-piece l = record {
  back : IsMatch (star ∷ l.pattern) l.name → IsMatch (star ∷ l.fn.pattern) l.fn.name;
  only : IsMatch (star ∷ l.fn.pattern) l.fn.name → IsMatch (star ∷ l.pattern) l.name;
  pattern_is_text : shadow (Utf8 l.pattern);
  name_is_text : shadow (Utf8 l.name);
}

abbrev pub decreases-loop-piece : goal.decreases-loop-piece
decreases-loop-piece l = length l.pattern
