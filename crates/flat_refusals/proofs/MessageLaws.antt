-- The laws of texts in buffers.
use Rattle.std.proofs.Common.{◌≡◌, ℕ, ◌-◌, ◌<◌, ◌≤◌, List, length, subst, sym, arith}
use Rattle.flat_refusals.specs.Messages.{ends_at, HoldsText, HoldsTextOf}

pub holds : (text old new : List ℕ) (count : ℕ) → (length text < length old → count ≡ length text) → (length old ≤ length text → count ≡ length old - 1) → 0 < length old → new ≡ ends_at count text old → HoldsText text old new
holds text old new count whole cut some is = record {
  whole = λ lt. subst (λ (n : ℕ). new ≡ ends_at n text old) (whole lt) is;
  cut = λ le more. subst (λ (n : ℕ). new ≡ ends_at n text old) (cut le) is;
  none = λ e. absurd (omega (arith, some, e));
}

-- an empty buffer stays as it is
pub holds_none : (text old new : List ℕ) → length old ≡ 0 → new ≡ old → HoldsText text old new
holds_none text old new e same = record {
  whole = λ lt. absurd (omega (arith, lt, e));
  cut = λ le more. absurd (omega (arith, more, e));
  none = λ none. same;
}

pub holds_text_of : (text old new : List ℕ) (count : ℕ) → count ≡ length text → HoldsText text old new → HoldsTextOf count old new
holds_text_of text old new count is held = record { text = text; len = sym is; held = held }
