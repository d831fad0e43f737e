-- Numbers that are scanned.
use Rattle.std.proofs.Common.{◌≡◌, ◌⊎◌, ℕ, zero, suc, ◌+◌, ◌-◌, ◌*◌, ◌%◌, ◌^◌, ◌<◌, ◌≤◌, Bool, true, false, cond, ◌&&◌, eqb, leb, List, [], ◌∷◌, ◌++◌, length, get_or, take, drop, Option, Some, None, refl, sym, ap, subst, ◌∙◌, take-append-drop, length-append, length-take-le, inl, inr, arith, lit≤, ℤ, pos, negsuc}
use Rattle.std.proofs.lemmas.Bool.{leb-true, leb-false, eqb-true, eq-eqb, ne_eqb, cases_lt}
use Rattle.std.proofs.lemmas.List.{take_more}
use Rattle.std.proofs.Math.Nat.{pow-le-pow_right, mul-le-mul, mul_left_comm}
use Rattle.wasm_codec.specs.formats.Numbers.{IsDigits, EncodesU32, EncodesU64, EncodesS32, EncodesS64, SignedWithin, Number, Below, Within, unsigned, signed, last}
use Rattle.wasm_codec.specs.Leb128.{complemented, digits_of, unsigned_leb128, signed_leb128}
use Rattle.wasm_codec.specs.Rewriter.{cut}
use Rattle.wasm_codec.specs.Scanning.{AreMore, AreFewest, repeats, KeepsDigits, IsShortNumber, IsPaddedNumber, ScansDigits, Scans, IsPadded}
use Rattle.wasm_codec.specs.Lawful.{IsLawful}
use Rattle.wasm_codec.specs.formats.Grammar.{Grammar}
use Rattle.wasm_codec.specs.declared.rewriter.scan.Scanned.{Scanned}
use Rattle.wasm_codec.specs.declared.rewriter.scan.Scanned.TheVariants as scanned
use Rattle.wasm_codec.specs.Places.{place}
use Rattle.wasm_codec.specs.formats.Combinators.{Format, u32, u64, s32, s64}
use Rattle.wasm_codec.proofs.NumberLaws.{magnitude-unsigned, signed_low, signed_high}
use Rattle.wasm_codec.proofs.FormatLaws.{Lawful-u32, Lawful-u64, Lawful-s32}
use Rattle.wasm_codec.proofs.RawFormatLaws.{Lawful-s64}
use Rattle.wasm_codec.proofs.Digits.{magnitude, Stands, digits_least, some_digits}
use Rattle.wasm_codec.proofs.NumberReading.{longer_digits}

-- ---- what the loops looked at

pub not_zero : (n : ℕ) → (n ≡ 0 → ⊥) → 0 < n
not_zero zero wrong = absurd (wrong refl)
not_zero (suc n) wrong = omega arith

eqb_not : (n m : ℕ) → eqb n m ≡ false → n ≡ m → ⊥
eqb_not n m e same = let yes = eq-eqb n m same in absurd cc

not_full : (n : ℕ) → n < 128 → (n ≡ 127 → ⊥) → n < 127
not_full n lt wrong = elim (cases_lt n 127) [
  | inl less ↦ less
  | inr le ↦ absurd (wrong (omega arith))
]

more_also : (front : List ℕ) (b : ℕ) → AreMore front → 128 ≤ b → b < 256 → AreMore (front ++ b ∷ [])
more_also [] b m high lt = ((high, lt), tt)
more_also (a ∷ front) b m high lt = (m.0, more_also front b m.1 high lt)

pub more_taken : (bytes : List ℕ) (i : ℕ) → i < length bytes → AreMore (take i bytes) → 128 ≤ get_or bytes i 0 → get_or bytes i 0 < 256 → AreMore (take (i + 1) bytes)
more_taken bytes i within m high lt = rw (take_more bytes i 0 within) (more_also (take i bytes) (get_or bytes i 0) m high lt)

last-is : (front : List ℕ) (b : ℕ) → last (front ++ b ∷ []) ≡ b
last-is [] b = refl
last-is (a ∷ []) b = refl
last-is (a ∷ c ∷ front) b = last-is (c ∷ front) b

pub last_taken : (bytes : List ℕ) (i : ℕ) → i < length bytes → get_or bytes i 0 ≡ last (take (i + 1) bytes)
last_taken bytes i within = rw (take_more bytes i 0 within) (sym (last-is (take i bytes) (get_or bytes i 0)))

-- ---- digits

digits_are : (front : List ℕ) (b : ℕ) → AreMore front → b < 128 → IsDigits (front ++ b ∷ [])
digits_are [] b m lt = lt
digits_are (a ∷ []) b m lt = (m.0.0, m.0.1, lt)
digits_are (a ∷ c ∷ front) b m lt = (m.0.0, m.0.1, digits_are (c ∷ front) b m.1 lt)

low_digit : (turn : Bool) (b : ℕ) → complemented turn (b % 128) < 128
low_digit true b = omega arith
low_digit false b = omega arith

magnitude_below : (turn : Bool) (digits : List ℕ) → magnitude turn digits < 128 ^ length digits
unfolding magnitude
magnitude_below turn [] = omega arith
magnitude_below turn (b ∷ digits) =
    let low = low_digit turn b in
    let again = magnitude_below turn digits in
    let p : 128 ^ suc (length digits) ≡ 128 * 128 ^ length digits = omega arith in
    rw p (omega arith)

magnitude_last : (turn : Bool) (front : List ℕ) (b : ℕ) → magnitude turn (front ++ b ∷ []) < (complemented turn (b % 128) + 1) * 128 ^ length front
unfolding magnitude
magnitude_last turn [] b = omega arith
magnitude_last turn (a ∷ front) b =
    let d = low_digit turn a in
    let again = magnitude_last turn front b in
    let p : 128 ^ suc (length front) ≡ 128 * 128 ^ length front = omega arith in
    let times = (complemented turn (b % 128) + 1) * 128 ^ length front in
    let q : (complemented turn (b % 128) + 1) * (128 * 128 ^ length front) ≡ 128 * times = mul_left_comm (complemented turn (b % 128) + 1) 128 (128 ^ length front) in
    rw (p, q) (omega (arith, d, again))

-- if the last digit, complemented or not, isn't zero, the number is at least 128 to the number of digits before
magnitude_from : (turn : Bool) (front : List ℕ) (b : ℕ) → 0 < complemented turn (b % 128) → 128 ^ length front ≤ magnitude turn (front ++ b ∷ [])
unfolding magnitude
magnitude_from turn [] b some = omega arith
magnitude_from turn (a ∷ front) b some =
    let again = magnitude_from turn front b some in
    let p : 128 ^ suc (length front) ≡ 128 * 128 ^ length front = omega arith in
    rw p (omega arith)

-- the last two digits stand for 64 or more
magnitude_from_two : (turn : Bool) (front : List ℕ) (b : ℕ) → 0 < length front → 64 ≤ complemented turn (last front % 128) + 128 * complemented turn (b % 128) → 64 * 128 ^ length front ≤ 128 * magnitude turn (front ++ b ∷ [])
unfolding magnitude
magnitude_from_two turn [] b some le = absurd (omega arith)
magnitude_from_two turn (a ∷ []) b some le = omega arith
magnitude_from_two turn (a ∷ c ∷ front) b some le =
    let again = magnitude_from_two turn (c ∷ front) b (omega arith) le in
    let p : 128 ^ suc (length (c ∷ front)) ≡ 128 * 128 ^ length (c ∷ front) = omega arith in
    rw p (omega arith)

-- ---- as few digits as there can be

-- digits that stand for a number are the fewest if one less can't
pub fewest_stand : (turn : Bool) (top k n : ℕ) (digits : List ℕ) → top ≤ 128 → n < top * 128 ^ 9 → k < 10 → Stands turn top digits n → (k ≡ 0 ⊎ (0 < k × (top * 128 ^ (k - 1) ≤ n))) → length digits ≡ suc k → digits ≡ digits_of turn top 9 n
fewest_stand turn top k n digits wide room few h at_least len = elim (digits_least turn top 9 digits n wide room h) [
  | inl same ↦ same
  | inr less ↦ elim at_least [
    | inl none ↦ absurd (omega (arith, none, some_digits turn top 9 n))
    | inr p ↦ absurd (omega (arith, longer_digits turn top 9 (k - 1) n p.1 (omega arith), p.0))
  ]
]

-- ---- digits that are kept

-- whether digits with this last one stand for a negative number
abbrev turns : Bool → ℕ → Bool
turns signed end = signed && leb 64 end

-- two lists of digits stand for the same number
record SameNumber (signed : Bool) (front : List ℕ) (end : ℕ) (begin : List ℕ) (last : ℕ) : Type 0 where
  turn : turns signed end ≡ turns signed last
  value : magnitude (turns signed end) (front ++ end ∷ []) ≡ magnitude (turns signed last) (begin ++ last ∷ [])

magnitude_kept : (turn : Bool) (front : List ℕ) (b e : ℕ) → complemented turn (e % 128) ≡ 0 → magnitude turn ((front ++ b ∷ []) ++ e ∷ []) ≡ magnitude turn (front ++ (b % 128) ∷ [])
unfolding magnitude
magnitude_kept turn [] b e none =
    let low : b % 128 % 128 ≡ b % 128 = omega arith in
    rw (none, low) refl
magnitude_kept turn (a ∷ front) b e none = ap (λ (n : ℕ). complemented turn (a % 128) + 128 * n) (magnitude_kept turn front b e none)

-- a last digit that repeats the sign is left out
one_less : (signed : Bool) (front : List ℕ) (b e : ℕ) → repeats signed b e ≡ true → SameNumber signed (front ++ b ∷ []) e front (b % 128)
one_less false front b e is =
    let zero_is : e ≡ 0 = eqb-true e 0 is in
    record { turn = refl; value = rw zero_is (magnitude_kept false front b 0 refl) }
one_less true front b e is = by (leb 64 (b % 128)) refl is where
  by : (t : Bool) → leb 64 (b % 128) ≡ t → cond t (eqb e 127) (eqb e 0) ≡ true → SameNumber true (front ++ b ∷ []) e front (b % 128)
  by true test is =
      let full : e ≡ 127 = eqb-true e 127 is in
      record { turn = rw (full, test) refl; value = rw (full, test) (magnitude_kept true front b 127 refl) }
  by false test is =
      let zero_is : e ≡ 0 = eqb-true e 0 is in
      record { turn = rw (zero_is, test) refl; value = rw (zero_is, test) (magnitude_kept false front b 0 refl) }

same_again : (signed : Bool) (front : List ℕ) (end : ℕ) → SameNumber signed front end front end
same_again signed front end = record { turn = refl; value = refl }

same_then : (signed : Bool) (a : List ℕ) (x : ℕ) (b : List ℕ) (y : ℕ) (c : List ℕ) (z : ℕ) → SameNumber signed a x b y → SameNumber signed b y c z → SameNumber signed a x c z
same_then signed a x b y c z first next = record { turn = first.turn ∙ next.turn; value = first.value ∙ next.value }

-- the digits up to the one at a place, the last of them without its high bit
abbrev low : List ℕ → ℕ → ℕ
low bytes i = get_or bytes i 0 % 128

-- the digits that are left out say nothing
same_kept : (signed : Bool) (bytes : List ℕ) (count end kept : ℕ) → count ≤ length bytes → repeats signed (last (take count bytes)) end ≡ true → KeepsDigits signed bytes count kept
    → SameNumber signed (take count bytes) end (take (kept - 1) bytes) (low bytes (kept - 1))
same_kept signed bytes count end kept within is k = down (count - kept) (kept - 1) (omega (arith, k.some, k.fewer)) (omega (arith, k.some)) where
  one : (i e : ℕ) → i < length bytes → repeats signed (get_or bytes i 0) e ≡ true → SameNumber signed (take (i + 1) bytes) e (take i bytes) (low bytes i)
  one i e lt is = rw (take_more bytes i 0 lt) (one_less signed (take i bytes) (get_or bytes i 0) e is)

  down : (j i : ℕ) → i + 1 + j ≡ count → kept ≤ i + 1 → SameNumber signed (take count bytes) end (take i bytes) (low bytes i)
  down zero i is_all from =
      let all : count ≡ i + 1 = omega (arith, is_all) in
      let at : get_or bytes i 0 ≡ last (take count bytes) = rw all (last_taken bytes i (omega (arith, within, is_all))) in
      subst (λ (n : ℕ). SameNumber signed (take n bytes) end (take i bytes) (low bytes i)) (sym all) (one i end (omega (arith, within, is_all)) (ap (λ (b : ℕ). repeats signed b end) at ∙ is))
  down (suc j) i is_all from =
      let before : i + 1 - 1 ≡ i = omega arith in
      let again = down j (i + 1) (omega (arith, is_all)) (omega (arith, from)) in
      same_then signed (take count bytes) end (take (i + 1) bytes) (low bytes (i + 1)) (take i bytes) (low bytes i) again
      (one i (low bytes (i + 1)) (omega (arith, within, is_all)) (ap (λ (n : ℕ). repeats signed (get_or bytes n 0) (low bytes (i + 1))) (sym before) ∙ k.repeated (i + 1) from (omega (arith, is_all))))

-- ---- a number and its minimal encoding

-- These digits stand for a number, of which those are the minimal encoding.
record Found {V : Type 0} (G : Grammar V) (encoding : V → List ℕ) (digits minimal : List ℕ) : Type 0 where
  v : V
  encodes : G digits v
  same : minimal ≡ encoding v

-- digits, and the fewest for the same number
record Cutting (signed : Bool) (most limit : ℕ) (front : List ℕ) (end : ℕ) (begin : List ℕ) (last : ℕ) : Type 0 where
  more : AreMore front
  small : end < 128
  few : length front ≤ most
  more_kept : AreMore begin
  small_kept : last < 128
  few_kept : length begin < 10
  below : magnitude (turns signed last) (begin ++ last ∷ []) < limit
  fewest : AreFewest signed begin last
  is_same : SameNumber signed front end begin last

digits-length : (front : List ℕ) (end : ℕ) → length (front ++ end ∷ []) ≡ suc (length front)
digits-length front end = omega (arith, length-append front (end ∷ []))

few_below : (turn : Bool) (most : ℕ) (front : List ℕ) (end : ℕ) → length front < most → magnitude turn (front ++ end ∷ []) < 128 ^ most
few_below turn most front end few =
    let below = magnitude_below turn (front ++ end ∷ []) in
    let wide : 128 ^ length (front ++ end ∷ []) ≤ 128 ^ most = pow-le-pow_right (omega arith) (omega (arith, digits-length front end, few)) in
    omega arith

-- ---- unsigned numbers

unsigned_at_least : (front : List ℕ) (end : ℕ) → end < 128 → AreFewest false front end → (length front ≡ 0) ⊎ (0 < length front × (128 * 128 ^ (length front - 1) ≤ magnitude false (front ++ end ∷ [])))
unsigned_at_least front end lt (inl none) = inl (ap (length {A = ℕ}) none)
unsigned_at_least [] end lt (inr is) = inl refl
unsigned_at_least (b ∷ front) end lt (inr is) =
    let some : 0 < end = not_zero end (eqb_not end 0 is) in
    let k : suc (length front) - 1 ≡ length front = omega arith in
    let p : 128 ^ suc (length front) ≡ 128 * 128 ^ length front = omega arith in
    let least = magnitude_from false (b ∷ front) end (omega arith) in
    inr (omega arith, rw k (omega (arith, p, least)))

unsigned_found : (most limit : ℕ) → limit ≤ 64 * 128 ^ 9 → (front : List ℕ) (end : ℕ) (begin : List ℕ) (last : ℕ) → Cutting false most limit front end begin last → Found (Number (suc most) (Below limit)) unsigned_leb128 (front ++ end ∷ []) (begin ++ last ∷ [])
unfolding unsigned_leb128
unsigned_found most limit room front end begin last c =
    let digits = front ++ end ∷ [] in
    let kept = begin ++ last ∷ [] in
    let n = magnitude false kept in
    let value : unsigned digits ≡ n = sym (magnitude-unsigned digits) ∙ c.is_same.value in
    let below : n < limit = c.below in
    let ends = last-is begin last in
    record {
      v = n;
      encodes = (digits_are front end c.more c.small, omega (arith, digits-length front end, c.few), (value, below));
      same = fewest_stand false 128 (length begin) n kept (omega arith) (omega (arith, below, room)) c.few_kept (record { are = digits_are begin last c.more_kept c.small_kept; ends = rw ends c.small_kept; value = refl }) (unsigned_at_least begin last c.small_kept c.fewest) (digits-length begin last);
    }

-- ---- signed numbers

-- if the last digit doesn't repeat the sign, it and the one before it stand for 64 or more
two_digits : (turn : Bool) (before end : ℕ) → end < 128 → leb 64 end ≡ turn → repeats true before end ≡ false → 64 ≤ complemented turn (before % 128) + 128 * complemented turn (end % 128)
two_digits turn before end lt turns e = by (leb 64 (before % 128)) refl turn turns e where
  by : (t : Bool) → leb 64 (before % 128) ≡ t → (turn : Bool) → leb 64 end ≡ turn → cond t (eqb end 127) (eqb end 0) ≡ false → 64 ≤ complemented turn (before % 128) + 128 * complemented turn (end % 128)
  by true test true high e = omega (arith, leb-true _ _ test, not_full end lt (eqb_not end 127 e), leb-true _ _ high)
  by true test false below e = omega (arith, leb-true _ _ test)
  by false test true high e = omega (arith, leb-false _ _ test)
  by false test false below e = omega (arith, leb-false _ _ test, not_zero end (eqb_not end 0 e), leb-false _ _ below)

signed_at_least : (turn : Bool) (front : List ℕ) (end : ℕ) → end < 128 → leb 64 end ≡ turn → AreFewest true front end → (length front ≡ 0) ⊎ (0 < length front × (64 * 128 ^ (length front - 1) ≤ magnitude turn (front ++ end ∷ [])))
signed_at_least turn front end lt turns (inl none) = inl (ap (length {A = ℕ}) none)
signed_at_least turn [] end lt turns (inr is) = inl refl
signed_at_least turn (b ∷ front) end lt turns (inr is) =
    let k : suc (length front) - 1 ≡ length front = omega arith in
    let p : 128 ^ suc (length front) ≡ 128 * 128 ^ length front = omega arith in
    let least = magnitude_from_two turn (b ∷ front) end (omega arith) (two_digits turn (last (b ∷ front)) end lt turns is) in
    inr (omega arith, rw k (omega (arith, p, least)))

-- the number that magnitudes stand for
abbrev signed_by : Bool → ℕ → ℤ
signed_by true n = negsuc n
signed_by false n = pos n

signed_is : (turn : Bool) (front : List ℕ) (end : ℕ) → leb 64 end ≡ turn → signed (front ++ end ∷ []) ≡ signed_by turn (magnitude turn (front ++ end ∷ []))
signed_is true front end is = signed_high (front ++ end ∷ []) (rw (last-is front end) (leb-true _ _ is))
signed_is false front end is = signed_low (front ++ end ∷ []) (rw (last-is front end) (leb-false _ _ is))

signed_least : (turn : Bool) (front : List ℕ) (end : ℕ) → end < 128 → leb 64 end ≡ turn → AreFewest true front end → AreMore front → length front < 10 → magnitude turn (front ++ end ∷ []) < 64 * 128 ^ 9 → front ++ end ∷ [] ≡ signed_leb128 (signed_by turn (magnitude turn (front ++ end ∷ [])))
unfolding signed_leb128
signed_least true front end lt is fewest more few room =
    fewest_stand true 64 (length front) (magnitude true (front ++ end ∷ [])) (front ++ end ∷ []) (omega arith) room few (record { are = digits_are front end more lt; ends = rw (last-is front end) (omega (arith, leb-true _ _ is)); value = refl }) (signed_at_least true front end lt is fewest) (digits-length front end)
signed_least false front end lt is fewest more few room =
    fewest_stand false 64 (length front) (magnitude false (front ++ end ∷ [])) (front ++ end ∷ []) (omega arith) room few (record { are = digits_are front end more lt; ends = rw (last-is front end) (leb-false _ _ is); value = refl }) (signed_at_least false front end lt is fewest) (digits-length front end)

within_by : (turn : Bool) (limit n : ℕ) → n < limit → Within limit (signed_by turn n)
within_by true limit n lt = lt
within_by false limit n lt = lt

signed_found : (most limit : ℕ) → limit ≤ 64 * 128 ^ 9 → (front : List ℕ) (end : ℕ) (begin : List ℕ) (last : ℕ) → Cutting true most limit front end begin last → Found (Number (suc most) (SignedWithin limit)) signed_leb128 (front ++ end ∷ []) (begin ++ last ∷ [])
signed_found most limit room front end begin last c =
    let turn = leb 64 last in
    let n = magnitude turn (begin ++ last ∷ []) in
    let below : n < limit = c.below in
    let value : signed (front ++ end ∷ []) ≡ signed_by turn n = signed_is turn front end c.is_same.turn ∙ ap (signed_by turn) (ap (λ (t : Bool). magnitude t (front ++ end ∷ [])) (sym c.is_same.turn) ∙ c.is_same.value) in
    record {
      v = signed_by turn n;
      encodes = (digits_are front end c.more c.small, omega (arith, digits-length front end, c.few), (value, within_by turn limit n below));
      same = signed_least turn begin last c.small_kept refl c.fewest c.more_kept c.few_kept (omega (arith, below, room));
    }

-- ---- what was scanned

cut_is : (k : ℕ) (bytes : List ℕ) → k < length bytes → cut (suc k) bytes ≡ take k bytes ++ low bytes k ∷ []
cut_is k [] lt = absurd (omega arith)
cut_is zero (b ∷ bytes) lt = refl
cut_is (suc k) (b ∷ bytes) lt = ap (λ (t : List ℕ). b ∷ t) (cut_is k bytes (omega arith))

more_before : (k n : ℕ) (bytes : List ℕ) → k ≤ n → AreMore (take n bytes) → AreMore (take k bytes)
more_before zero n bytes le m = tt
more_before (suc k) zero bytes le m = absurd (omega arith)
more_before (suc k) (suc n) [] le m = tt
more_before (suc k) (suc n) (b ∷ bytes) le m = (m.0, more_before k n bytes (omega arith) m.1)

low_is : (b : ℕ) → b % 128 < 128
low_is b = omega arith

-- bounds on the most digits, and on the numbers that the last of these may stand for
record Bounds (most top limit : ℕ) : Type 0 where
  wide : 128 ^ most ≤ limit
  tops : top * 128 ^ most ≤ limit
  few : most ≤ 9

-- the last of the most digits is below top
top_below : (turn : Bool) (most top limit : ℕ) (front : List ℕ) (end : ℕ) → Bounds most top limit → length front ≤ most → end < 128 → complemented turn end < top → magnitude turn (front ++ end ∷ []) < limit
top_below turn most top limit front end b few lt low =
    let same : end % 128 ≡ end = omega (arith, lt) in
    let below = magnitude_last turn front end in
    let wide : 128 ^ length front ≤ 128 ^ most = pow-le-pow_right (omega arith) few in
    let digit : complemented turn (end % 128) + 1 ≤ top = rw same (omega (arith, low)) in
    let product : (complemented turn (end % 128) + 1) * 128 ^ length front ≤ top * 128 ^ most = mul-le-mul digit wide in
    omega (arith, below, product, b.tops)

-- what the digits of a number are found to be
abbrev Finds : {V : Type 0} → Bool → ℕ → ℕ → Format V → Type 0
Finds signed most limit F = (front : List ℕ) (end : ℕ) (begin : List ℕ) (last : ℕ) → Cutting signed most limit front end begin last → Found F.Encodes F.bytes (front ++ end ∷ []) (begin ++ last ∷ [])

split : (bytes : List ℕ) (i : ℕ) → i < length bytes → bytes ≡ (take i bytes ++ get_or bytes i 0 ∷ []) ++ drop (i + 1) bytes
split bytes i within = sym (take-append-drop (i + 1) bytes) ∙ ap (λ (t : List ℕ). t ++ drop (i + 1) bytes) (take_more bytes i 0 within)

-- a number is read where its digits are
read_there : {V : Type 0} {F : Format V} → IsLawful F → (bytes : List ℕ) (i : ℕ) → i < length bytes → (v : V) → F.Encodes (take i bytes ++ get_or bytes i 0 ∷ []) v → (minimal : Bool) → eqb (i + 1) (length (F.bytes v)) ≡ minimal → F.at (place true bytes) ≡ Some (v, place minimal (drop (i + 1) bytes))
read_there {V} {F} law bytes i within v g minimal is =
    let digits = take i bytes ++ get_or bytes i 0 ∷ [] in
    let len : length digits ≡ i + 1 = omega (arith, digits-length (take i bytes) (get_or bytes i 0), length-take-le i bytes (omega arith)) in
    ap (λ (t : List ℕ). F.at (place true t)) (split bytes i within) ∙ law.reads.complete digits v (drop (i + 1) bytes) true g ∙ ap (λ (s : Bool). Some (v, place s (drop (i + 1) bytes))) (rw len is)

short_scanned : {V : Type 0} {F : Format V} → IsLawful F → (signed : Bool) (most top limit : ℕ) → Bounds most top limit → Finds signed most limit F → (bytes : List ℕ) (count : ℕ) → IsShortNumber signed (suc most) top bytes count → Scans F bytes (Some (scanned.Minimal count))
short_scanned {V} {F} law signed most top limit b finds bytes count s =
    let i = s.before in
    let d = s.digits in
    let len = length-take-le i bytes (omega (arith, d.within)) in
    let f = finds (take i bytes) (get_or bytes i 0) (take i bytes) (get_or bytes i 0) (record {
      more = d.more;
      small = d.small;
      few = omega (arith, len, d.few, d.count_is);
      more_kept = d.more;
      small_kept = d.small;
      few_kept = omega (arith, s.digits.few, s.digits.count_is, b.few, len_there);
      below = below_there s.fewer;
      fewest = s.fewest;
      is_same = same_again signed (take i bytes) (get_or bytes i 0);
    }) in
    let long : i + 1 ≡ length (F.bytes f.v) = omega (arith, ap (length {A = ℕ}) f.same, digits-length (take i bytes) (get_or bytes i 0), len) in
    rw d.count_is (omega (arith, d.within), (f.v, read_there law bytes i d.within f.v f.encodes true (eq-eqb _ _ long)))
  where
    end : ℕ
    end = get_or bytes s.before 0

    len_there : length (take s.before bytes) ≡ s.before
    len_there = length-take-le s.before bytes (omega (arith, s.digits.within))

    below_there : (count < suc most) ⊎ (complemented (turns signed end) end < top) → magnitude (turns signed end) (take s.before bytes ++ end ∷ []) < limit
    below_there (inl lt) = omega (arith, few_below (turns signed end) most (take s.before bytes) end (omega (arith, lt, s.digits.count_is, len_there)), b.wide)
    below_there (inr low) = top_below (turns signed end) most top limit (take s.before bytes) end b (omega (arith, s.digits.few, s.digits.count_is, len_there)) s.digits.small low

fewest_kept : (signed : Bool) (bytes : List ℕ) (count kept : ℕ) → count ≤ length bytes → KeepsDigits signed bytes count kept → AreFewest signed (take (kept - 1) bytes) (low bytes (kept - 1))
fewest_kept signed bytes count kept within k = elim k.fewest [
  | inl one ↦ inl (ap (λ (n : ℕ). take n bytes) (zero_is one))
  | inr is ↦ by (cases_lt 1 kept) is
] where
  zero_is : kept ≤ 1 → kept - 1 ≡ 0
  zero_is one = omega (arith, one, k.some)

  by : (1 < kept) ⊎ (kept ≤ 1) → repeats signed (get_or bytes (kept - 2) 0) (low bytes (kept - 1)) ≡ false → AreFewest signed (take (kept - 1) bytes) (low bytes (kept - 1))
  by (inr one) is = inl (ap (λ (n : ℕ). take n bytes) (zero_is one))
  by (inl two) is =
      let i : kept - 1 ≡ kept - 2 + 1 = omega (arith, two) in
      let at : get_or bytes (kept - 2) 0 ≡ last (take (kept - 1) bytes) = rw i (last_taken bytes (kept - 2) (omega (arith, within, k.fewer, two))) in
      inr (ap (λ (b : ℕ). repeats signed b (low bytes (kept - 1))) (sym at) ∙ is)

padded_scanned : {V : Type 0} {F : Format V} → IsLawful F → (signed : Bool) (most top limit : ℕ) → Bounds most top limit → Finds signed most limit F → (bytes : List ℕ) (i : ℕ) → IsPaddedNumber signed (suc most) bytes i → (kept : ℕ) → KeepsDigits signed bytes i kept → IsPadded F bytes kept (i + 1)
padded_scanned {V} {F} law signed most top limit b finds bytes i s kept k =
    let d = s.digits in
    let len = length-take-le i bytes (omega (arith, d.within)) in
    let kept_len = length-take-le (kept - 1) bytes (omega (arith, d.within, k.fewer)) in
    let f = finds (take i bytes) (get_or bytes i 0) (take (kept - 1) bytes) (low bytes (kept - 1)) (record {
      more = d.more;
      small = d.small;
      few = omega (arith, len, d.few);
      more_kept = more_before (kept - 1) i bytes (omega (arith, k.fewer)) d.more;
      small_kept = low_is (get_or bytes (kept - 1) 0);
      few_kept = omega (arith, kept_len, k.fewer, k.some, d.few, b.few);
      below = omega (arith, few_below (turns signed (low bytes (kept - 1))) most (take (kept - 1) bytes) (low bytes (kept - 1)) (omega (arith, kept_len, k.fewer, k.some, d.few)), b.wide);
      fewest = fewest_kept signed bytes i kept (omega (arith, d.within)) k;
      is_same = same_kept signed bytes i (get_or bytes i 0) kept (omega (arith, d.within)) s.last_repeats k;
    }) in
    let long : kept ≡ length (F.bytes f.v) = omega (arith, ap (length {A = ℕ}) f.same, digits-length (take (kept - 1) bytes) (low bytes (kept - 1)), kept_len, k.some) in
    let other : eqb (i + 1) (length (F.bytes f.v)) ≡ false = ne_eqb (i + 1) (length (F.bytes f.v)) (λ e. omega (arith, e, long, k.fewer)) in
    let at : kept ≡ suc (kept - 1) = omega (arith, k.some) in
    let minimal : cut kept bytes ≡ F.bytes f.v = ap (λ (n : ℕ). cut n bytes) at ∙ cut_is (kept - 1) bytes (omega (arith, d.within, k.fewer, k.some)) ∙ f.same in
    record { value = f.v; read = read_there law bytes i d.within f.v f.encodes false other; minimal = minimal }

digits_scanned : {V : Type 0} {F : Format V} → IsLawful F → (signed : Bool) (most top limit : ℕ) → Bounds most top limit → Finds signed most limit F → (bytes : List ℕ) (r : Option Scanned) → ScansDigits signed (suc most) top bytes r → Scans F bytes r
digits_scanned law signed most top limit b finds bytes None s = tt
digits_scanned law signed most top limit b finds bytes (Some (scanned.Minimal count)) s = short_scanned law signed most top limit b finds bytes count s
digits_scanned {V} {F} law signed most top limit b finds bytes (Some (scanned.Padded sign start more)) (is, none, s) =
    ((s.some, omega (arith, none, s.digits.within)), λ kept k. whole kept (subst (λ (t : Bool). KeepsDigits t bytes more kept) is (rw none at k)))
  where
    whole : (kept : ℕ) → KeepsDigits signed bytes more kept → IsPadded F bytes (start + kept) (start + more + 1)
    whole kept k =
        let begins : start + kept ≡ kept = omega (arith, none) in
        let ends : start + more + 1 ≡ more + 1 = omega (arith, none) in
        rw (begins, ends) (padded_scanned law signed most top limit b finds bytes more s kept k)

pub u32_scanned : (bytes : List ℕ) (r : Option Scanned) → ScansDigits false 5 16 bytes r → Scans u32 bytes r
unfolding EncodesU32
u32_scanned = digits_scanned Lawful-u32 false 4 16 (2 ^ 32) (record { wide = lit≤ tt; tops = lit≤ tt; few = omega arith }) (unsigned_found 4 (2 ^ 32) (lit≤ tt))

pub short_u32_scanned : (bytes : List ℕ) (count : ℕ) → IsShortNumber false 2 128 bytes count → Scans u32 bytes (Some (scanned.Minimal count))
short_u32_scanned bytes count s =
    let d = s.digits in
    u32_scanned bytes (Some (scanned.Minimal count)) (record {
      before = s.before;
      digits = record { count_is = d.count_is; few = omega (arith, d.few); within = d.within; more = d.more; small = d.small };
      fewer = inl (omega (arith, d.few));
      fewest = s.fewest;
    })

pub u64_scanned : (bytes : List ℕ) (r : Option Scanned) → ScansDigits false 10 2 bytes r → Scans u64 bytes r
unfolding EncodesU64
u64_scanned = digits_scanned Lawful-u64 false 9 2 (2 ^ 64) (record { wide = lit≤ tt; tops = lit≤ tt; few = omega arith }) (unsigned_found 9 (2 ^ 64) (lit≤ tt))

pub s32_scanned : (bytes : List ℕ) (r : Option Scanned) → ScansDigits true 5 8 bytes r → Scans s32 bytes r
unfolding EncodesS32
s32_scanned = digits_scanned Lawful-s32 true 4 8 (2 ^ 31) (record { wide = lit≤ tt; tops = lit≤ tt; few = omega arith }) (signed_found 4 (2 ^ 31) (lit≤ tt))

pub s64_scanned : (bytes : List ℕ) (r : Option Scanned) → ScansDigits true 10 1 bytes r → Scans s64 bytes r
unfolding EncodesS64
s64_scanned = digits_scanned Lawful-s64 true 9 1 (2 ^ 63) (record { wide = lit≤ tt; tops = lit≤ tt; few = omega arith }) (signed_found 9 (2 ^ 63) (lit≤ tt))
