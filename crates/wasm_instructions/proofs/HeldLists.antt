-- Lists that are held, given by `slice.iter().copied()`.
use Rattle.std.proofs.Common.{◌≡◌, ℕ, ◌^◌, ◌<◌, List, ◌++◌, length, Result, Ok, Err, OnOk, Iter, ap, subst, ◌∙◌}
use Rattle.std.specs.List.{AllByRecursion}
use Rattle.std.specs.Iterator.Adapters.{copied_steps, copied_source}
use Rattle.std.specs.Slice.Iter.{iter_steps, iter_rest}
use Rattle.std.specs.declared.iter.Copied.{Copied}
use Rattle.wasm_instructions.proofs.DrainLaws.{drains_copied}
use Rattle.wasm_instructions.specs.Appending.{AppendsAll}

-- what was appended for a list that is held
pub record Held {A T E : Type 0} (InRange : A → Type 0) (encoding : List A → List ℕ) (old new : List ℕ) (xs : List A) (r : Result T E) : Type 0 where
  pub ok : OnOk r (new ≡ old ++ encoding xs)
  pub counted : OnOk r (length xs < 2 ^ 32)
  pub fits : OnOk r (AllByRecursion InRange xs)

pub held : {A T E : Type 0} (InRange : A → Type 0) (encoding : List A → List ℕ) (s : Copied (Iter A)) (xs : List A) (old new : List ℕ) (r : Result T E) → iter_rest (copied_source s) ≡ xs → OnOk r (AppendsAll (copied_steps iter_steps) InRange s encoding old new) → Held InRange encoding old new xs r
unfolding AppendsAll
held {A} InRange encoding s xs old new (Ok v) same (ys, drains, wrote, counted, fits) =
    let e : ys ≡ xs = drains_copied s ys drains ∙ same in
    record {
      ok = wrote ∙ ap (λ (k : List A). old ++ encoding k) e;
      counted = subst (λ (k : List A). length k < 2 ^ 32) e counted;
      fits = subst (AllByRecursion InRange) e fits;
    }
held InRange encoding s xs old new (Err e) same run = record { ok = tt; counted = tt; fits = tt }
