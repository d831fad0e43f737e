-- Steps of the loops that read the digits of numbers, whatever the most of them is.
use Rattle.std.proofs.Common.{◌≡◌, ℕ, ◌+◌, ◌*◌, ◌%◌, ◌^◌, ◌<◌, ◌≤◌, ◌-◌, ◌-ℤ◌, ◌&&◌, Bool, pos, List, ◌∷◌, length, take, drop, Some, None, refl, sym, ap, subst, ◌∙◌, add-one, arith}
use Rattle.std.proofs.Math.Nat.{pow-suc}
use Rattle.wasm_codec.specs.Reading.{plain_byte_at}
use Rattle.wasm_codec.specs.Leb128.{digits_at}
use Rattle.wasm_codec.specs.formats.Numbers.{unsigned}
use Rattle.wasm_codec.specs.Places.{Place, place, byte_at, u32_at, s32_at}
use Rattle.wasm_codec.specs.ReadDigits.{Read, fewest}
use Rattle.wasm_codec.proofs.DigitLoop.{reads_on, at_start, byte_is, full, value_more, digits_more}
use Rattle.wasm_codec.proofs.NumberReading.{list_byte, byte_took, few_bounds, read_end, u32_one, u32_is, low_within, high_within}

-- i digits were read: sum is that of their low seven bits, and power is 128 to their number
abbrev pub DigitsSoFar : ℕ → Place → Place → ℕ → ℕ → ℕ → Type 0
DigitsSoFar most old here i sum power = record {
  within : i ≤ length old.left;
  rest : here.left ≡ drop i old.left;
  keeps : here.minimal ≡ old.minimal;
  so_far : reads_on most old.left i ≡ digits_at most old.left;
  value : sum ≡ unsigned (take i old.left);
  unit : power ≡ 128 ^ i;
  below : sum < power;
}

-- another digit was read, after which more come
pub digits_kept : (most : ℕ) (old here new : Place) (i b sum power : ℕ) → DigitsSoFar most old here i sum power → i < most → 128 ≤ b → byte_at here ≡ Some (b, new)
    → DigitsSoFar most old new (i + 1) (sum + (b % 128) * power) (power * 128)
digits_kept most old here new i b sum power w less high e =
    let byte = byte_is old.left i b new.left (sym (ap plain_byte_at w.rest) ∙ list_byte here new b e) in
    let r = few_bounds i i sum power (b % 128) (omega arith) w.unit w.below (omega arith) in
    record {
      within = omega (arith, byte.within);
      rest = byte.after;
      keeps = (byte_took here new b e).keeps ∙ w.keeps;
      so_far = digits_more most old.left i b new.left less high byte w.so_far;
      value = value_more old.left i b sum power byte.within byte.byte w.value w.unit;
      unit = rw (w.unit, add-one) (omega (arith, pow-suc));
      below = r.below;
    }

-- the last digit was read
pub last_read : (most : ℕ) (old here new : Place) (i b sum power : ℕ) → DigitsSoFar most old here i sum power → i < most → b < 128 → byte_at here ≡ Some (b, new)
    → Read most old new (sum + (b % 128) * power) (power * 128) b
last_read most old here new i b sum power w less small e = read_end most old here new i b sum power less small w.below w.rest w.keeps w.so_far w.value w.unit e

-- there are more digits than that
pub too_many : (most : ℕ) (old here : Place) (i sum power : ℕ) → DigitsSoFar most old here i sum power → i ≡ most → digits_at most old.left ≡ None
too_many most old here i sum power w end = sym w.so_far ∙ ap (reads_on most old.left) end ∙ full most old.left

-- ---- numbers of one or two bytes

two_digits : (old here new : Place) (first last : ℕ) → 128 ≤ first → last < 128 → byte_at old ≡ Some (first, here) → byte_at here ≡ Some (last, new) → Read 5 old new (first % 128 + last * 128) 16384 last
two_digits old here new first last high small e f =
    let none : DigitsSoFar 5 old old 0 0 1 = record { within = omega arith; rest = refl; keeps = refl; so_far = at_start 5 old.left; value = refl; unit = refl; below = omega arith } in
    let one = digits_kept 5 old old here 0 first 0 1 none (omega arith) high e in
    let two = last_read 5 old here new 1 last (0 + (first % 128) * 1) 128 one (omega arith) small f in
    let n : 0 + (first % 128) * 1 + (last % 128) * 128 ≡ first % 128 + last * 128 = omega arith in
    subst (λ (k : ℕ). Read 5 old new k 16384 last) n two

pub short_one : (old new : Place) (b : ℕ) → b < 128 → byte_at old ≡ Some (b, new) → u32_at old ≡ Some (b, new)
short_one old new b small e =
    let t = byte_took old new b e in
    u32_one old new b small (ap (λ (l : List ℕ). place old.minimal l) t.bytes ∙ ap (λ (s : Bool). place s (b ∷ new.left)) (sym t.keeps))

pub short_two : (old here new : Place) (first last : ℕ) → 128 ≤ first → last < 128 → byte_at old ≡ Some (first, here) → byte_at here ≡ Some (last, new)
    → u32_at old ≡ Some (first % 128 + last * 128, place (new.minimal && fewest 128 16384 (first % 128 + last * 128)) new.left)
short_two old here new first last high small e f =
    u32_is old new (first % 128 + last * 128) 16384 last (two_digits old here new first last high small e f) (omega arith)

pub short_low : (old here new : Place) (first last : ℕ) → 128 ≤ first → last < 64 → byte_at old ≡ Some (first, here) → byte_at here ≡ Some (last, new)
    → s32_at old ≡ Some (pos (first % 128 + last * 128), place (new.minimal && fewest 64 16384 (first % 128 + last * 128)) new.left)
unfolding s32_at
short_low old here new first last high low e f =
    low_within (2 ^ 31) 5 old new (first % 128 + last * 128) 16384 last (two_digits old here new first last high (omega (arith, low)) e f) (omega arith) low (omega (arith, low))

pub short_high : (old here new : Place) (first last : ℕ) → 128 ≤ first → 64 ≤ last → last < 128 → byte_at old ≡ Some (first, here) → byte_at here ≡ Some (last, new)
    → s32_at old ≡ Some (pos (first % 128 + last * 128) -ℤ pos 16384, place (new.minimal && fewest 64 16384 (16384 - 1 - (first % 128 + last * 128))) new.left)
unfolding s32_at
short_high old here new first last high le small e f =
    high_within (2 ^ 31) 5 old new (first % 128 + last * 128) 16384 last (two_digits old here new first last high small e f) (omega arith) le (omega (arith, le))
