-- For callers: what iterators of the standard library give until they end.
use Rattle.std.proofs.Common.{◌≡◌, List, [], ◌∷◌, length, Some, None, refl, sym, ap, ◌∙◌, arith, Iter}
use Rattle.std.specs.Iterator.{Drains, Yields}
use Rattle.std.specs.Iterator.Adapters.{copied_steps, copied_source}
use Rattle.std.specs.Slice.Iter.{iter_steps, iter_rest}
use Rattle.std.specs.declared.iter.Copied.{Copied}

module _ {A : Type 0} where
  copied_end : (s t : Copied (Iter A)) → copied_steps iter_steps s None t → length (iter_rest (copied_source s)) ≡ 0
  copied_end s t (Some y, step, same) = absurd cc
  copied_end s t (None, step, same) = step.0

  nothing : (xs : List A) → length xs ≡ 0 → xs ≡ []
  nothing [] e = refl
  nothing (x ∷ xs) e = absurd (omega arith)

  copied_head : (s : Copied (Iter A)) (x : A) (t : Copied (Iter A)) → copied_steps iter_steps s (Some x) t → iter_rest (copied_source s) ≡ x ∷ iter_rest (copied_source t)
  copied_head s x t (Some y, step, same) = cc
  copied_head s x t (None, step, same) = absurd cc

  copied_all : (s : Copied (Iter A)) (xs : List A) (t u : Copied (Iter A)) → Yields (copied_steps iter_steps) s xs t → copied_steps iter_steps t None u → xs ≡ iter_rest (copied_source s)
  copied_all s [] t u same none = sym (ap (λ (k : Copied (Iter A)). iter_rest (copied_source k)) same ∙ nothing (iter_rest (copied_source t)) (copied_end t u none))
  copied_all s (x ∷ xs) t u run none = ap (λ (k : List A). x ∷ k) (copied_all run.0 xs t u run.2 none) ∙ sym (copied_head s x run.0 run.1)

  -- `slice.iter().copied()` gives the items of the slice
  pub drains_copied : (s : Copied (Iter A)) (xs : List A) → Drains (copied_steps iter_steps) s xs → xs ≡ iter_rest (copied_source s)
  drains_copied s xs run = copied_all s xs run.1.0 run.0 run.1.1 run.1.2
