-- The effects of reads one after another.
use Rattle.std.proofs.Common.{◌≡◌, ℕ, ◌+◌, List, ◌++◌, take, drop, sym, ap, ◌∙◌, subst}
use Rattle.std.proofs.Math.Seq.{take-add}
use Rattle.std.specs.Prelude.{Option}
use Rattle.std.specs.Io.KnownBytes.{Consumes}
use Rattle.std.proofs.KnownBytes.{Consumes-trans}

-- a read behind a prefix makes the prefix longer
pub more_read : (a b c : Option (List ℕ)) (old new : List ℕ) (n m : ℕ) → take n new ≡ take n old → Consumes a b (take n old)
    → Consumes b c (take m (drop n new)) → Consumes a c (take (n + m) new)
more_read a b c old new n m front before read =
    let joined = take-add n m new ∙ ap (λ prefix. prefix ++ take m (drop n new)) front in
    subst (Consumes a c) (sym joined) (Consumes-trans a b c _ _ before read)
