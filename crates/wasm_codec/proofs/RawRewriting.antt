-- Numbers in so many bytes, which stay as they are.
use Rattle.std.proofs.Common.{◌≡◌, ℕ, Bool, zero, suc, ◌<◌, ◌≤◌, List, [], ◌∷◌, ◌++◌, length, take, drop, Some, None, refl, sym, ap, ◌∙◌, arith}
use Rattle.wasm_codec.specs.formats.Grammar.{IsBytes}
use Rattle.wasm_codec.specs.Places.{Place, place, byte_at}
use Rattle.wasm_codec.specs.Rewriter.{Rewriting, rewriting_after, skipped}
use Rattle.wasm_codec.specs.formats.Combinators.{little_endian, with_low}
use Rattle.wasm_codec.proofs.RawFormatLaws.{low_and_high_are}
use Rattle.wasm_codec.proofs.RewriterLaws.{after_is}

-- the number in the next bytes
pub record Number (count : ℕ) (p : Place) : Type 0 where
  pub value : ℕ
  pub is_read : (little_endian count).at p ≡ Some (value, place p.minimal (drop count p.left))
  pub bytes : (little_endian count).bytes value ≡ take count p.left

pub number_at : (count : ℕ) (s : Bool) (left : List ℕ) → IsBytes left → count ≤ length left → Number count (place s left)
unfolding little_endian byte_at
number_at zero s left fits le = record { value = 0; is_read = refl; bytes = refl }
number_at (suc more) s [] fits le = absurd (omega arith)
number_at (suc more) s (b ∷ left) fits le =
    let n = number_at more s left fits.1 (omega arith) in
    let parts = low_and_high_are b n.value fits.0 in
    record {
      value = with_low (b, n.value);
      is_read = rw n.is_read refl;
      bytes = ap (λ (q : ℕ × ℕ). q.0 ∷ (little_endian more).bytes q.1) parts ∙ ap (λ (t : List ℕ). b ∷ t) n.bytes;
    }

pub number_stays : (count : ℕ) (r : Rewriting) → IsBytes r.place.left → count ≤ length r.place.left → rewriting_after (little_endian count) r ≡ Some (skipped count r)
number_stays count r fits le =
    let n = number_at count r.place.minimal r.place.left fits le in
    after_is (little_endian count) r (skipped count r) n.value n.is_read (ap (λ (t : List ℕ). r.done ++ t) (sym n.bytes)) refl

none_left : (count : ℕ) (s : Bool) (left : List ℕ) → length left < count → (little_endian count).at (place s left) ≡ None
unfolding little_endian byte_at
none_left zero s left lt = absurd (omega arith)
none_left (suc more) s [] lt = refl
none_left (suc more) s (b ∷ left) lt = rw (none_left more s left (omega arith)) refl

pub no_number : (count : ℕ) (p : Place) → length p.left < count → (little_endian count).at p ≡ None
no_number count p lt = none_left count p.minimal p.left lt
