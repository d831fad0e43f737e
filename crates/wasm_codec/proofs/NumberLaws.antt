-- The laws of the five widths of numbers.
use Rattle.std.proofs.Common.{◌≡◌, ℕ, suc, ◌+◌, ◌*◌, ◌%◌, ◌^◌, ◌<◌, ◌≤◌, Bool, true, false, cond, ltb, List, [], ◌∷◌, length, Some, None, refl, sym, ap, subst, ◌∙◌, inl, inr, arith, lit≤, ℤ, pos, negsuc, SFits, w32, w64}
use Rattle.std.proofs.lemmas.Bool.{ltb-true, lt-ltb, le-ltb, cases_lt}
use Rattle.std.proofs.lemmas.Int.{ints}
use Rattle.wasm_codec.specs.formats.Numbers.{IsDigits, unsigned, last, signed, Number, Below, Within, SignedWithin, IndexBelow, EncodesU32, EncodesU64, EncodesS32, EncodesS64, EncodesIndex}
use Rattle.wasm_codec.specs.Leb128.{digits_of, unsigned_leb128, signed_leb128, plain_number_at, below, is_within, signed_within, index_from, index_below, plain_u32_at, plain_u64_at, plain_s32_at, plain_s64_at, plain_index_at}
use Rattle.wasm_codec.specs.formats.Grammar.{Grammar}
use Rattle.wasm_codec.specs.Encoding.{IsMinimalOrLonger, IsMinimal}
use Rattle.wasm_codec.specs.Reading.{IsReadBy}
use Rattle.wasm_codec.proofs.Laws.{some_is}
use Rattle.wasm_codec.proofs.Digits.{IsReadBy-number, magnitude, Stands, digits_stand, digits_least, digits_cut, length-digits_of}
use Rattle.wasm_codec.specs.Lawful.{WritesMinimally}
use Rattle.wasm_codec.specs.Rewriter.{cut}

-- ---- reading

below_means : (limit : ℕ) (digits : List ℕ) (n : ℕ) → below limit digits ≡ Some n → Below limit digits n
below_means limit digits n e = by (ltb (unsigned digits) limit) refl e where
  by : (t : Bool) → ltb (unsigned digits) limit ≡ t → cond t (Some (unsigned digits)) None ≡ Some n → Below limit digits n
  by true test e = let same : unsigned digits ≡ n = some_is (unsigned digits) n e in (same, rw (← same) (ltb-true _ _ test))
  by false test e = absurd cc

below_finds : (limit : ℕ) (digits : List ℕ) (n : ℕ) → IsDigits digits → Below limit digits n → below limit digits ≡ Some n
below_finds limit digits n d m = rw (m.0, lt-ltb n limit m.1) refl

IsReadBy-unsigned : (most limit : ℕ) → IsReadBy (Number most (Below limit)) (plain_number_at most (below limit))
IsReadBy-unsigned most limit = IsReadBy-number most (Below limit) (below limit) (below_means limit) (below_finds limit)

within_is : (limit : ℕ) (z : ℤ) → is_within limit z ≡ true → Within limit z
within_is limit (pos n) test = ltb-true _ _ test
within_is limit (negsuc n) test = ltb-true _ _ test

is_within_is : (limit : ℕ) (z : ℤ) → Within limit z → is_within limit z ≡ true
is_within_is limit (pos n) lt = lt-ltb n limit lt
is_within_is limit (negsuc n) lt = lt-ltb n limit lt

signed_means : (limit : ℕ) (digits : List ℕ) (z : ℤ) → signed_within limit digits ≡ Some z → SignedWithin limit digits z
signed_means limit digits z e = by (is_within limit (signed digits)) refl e where
  by : (t : Bool) → is_within limit (signed digits) ≡ t → cond t (Some (signed digits)) None ≡ Some z → SignedWithin limit digits z
  by true test e = let same : signed digits ≡ z = some_is (signed digits) z e in (same, subst (Within limit) same (within_is limit (signed digits) test))
  by false test e = absurd cc

signed_finds : (limit : ℕ) (digits : List ℕ) (z : ℤ) → IsDigits digits → SignedWithin limit digits z → signed_within limit digits ≡ Some z
signed_finds limit digits z d m = rw (m.0, is_within_is limit z m.1) refl

IsReadBy-signed : (most limit : ℕ) → IsReadBy (Number most (SignedWithin limit)) (plain_number_at most (signed_within limit))
IsReadBy-signed most limit = IsReadBy-number most (SignedWithin limit) (signed_within limit) (signed_means limit) (signed_finds limit)

index_means : (limit : ℕ) (digits : List ℕ) (n : ℕ) → index_below limit digits ≡ Some n → IndexBelow limit digits n
index_means limit digits n e = by (signed digits) refl e where
  by : (z : ℤ) → signed digits ≡ z → index_from limit z ≡ Some n → IndexBelow limit digits n
  by (pos k) is e = test (ltb k limit) refl e where
    test : (t : Bool) → ltb k limit ≡ t → cond t (Some k) None ≡ Some n → IndexBelow limit digits n
    test true lt e = let same : k ≡ n = some_is k n e in (is ∙ ap pos same, rw (← same) (ltb-true _ _ lt))
    test false lt e = absurd cc
  by (negsuc k) is e = absurd cc

index_finds : (limit : ℕ) (digits : List ℕ) (n : ℕ) → IsDigits digits → IndexBelow limit digits n → index_below limit digits ≡ Some n
index_finds limit digits n d m = rw (m.0, lt-ltb n limit m.1) refl

IsReadBy-index-below : (most limit : ℕ) → IsReadBy (Number most (IndexBelow limit)) (plain_number_at most (index_below limit))
IsReadBy-index-below most limit = IsReadBy-number most (IndexBelow limit) (index_below limit) (index_means limit) (index_finds limit)

-- ---- minimal encodings of unsigned numbers

pub magnitude-unsigned : (digits : List ℕ) → magnitude false digits ≡ unsigned digits
unfolding magnitude
magnitude-unsigned [] = refl
magnitude-unsigned (b ∷ digits) = ap (λ (k : ℕ). b % 128 + 128 * k) (magnitude-unsigned digits)

last_below : (digits : List ℕ) → IsDigits digits → last digits < 128
last_below [] d = absurd d
last_below (b ∷ []) d = d
last_below (b ∷ c ∷ digits) d = last_below (c ∷ digits) d.2

WritesMinimally-unsigned : (more limit : ℕ) → limit ≤ 128 * 128 ^ more → limit ≤ 128 * 128 ^ 9 → WritesMinimally (Number (suc more) (Below limit)) (λ n. n < limit) unsigned_leb128
unfolding unsigned_leb128
WritesMinimally-unsigned more limit wide room = record {
  encodes = encodes;
  again = λ bytes n g. encodes n g.2.1;
  least = λ bytes n g.
      digits_least false 128 9 bytes n (omega arith) (omega (arith, g.2.1)) (record { are = g.0; ends = last_below bytes g.0; value = magnitude-unsigned bytes ∙ g.2.0 });
} where
  encodes : (n : ℕ) → n < limit → Number (suc more) (Below limit) (digits_of false 128 9 n) n
  encodes n lt =
      let p = digits_stand false 128 (omega arith) 9 n (omega arith) in
      (p.are, length-digits_of false 128 9 more n (omega arith), (sym (magnitude-unsigned _) ∙ p.value, lt))

-- ---- minimal encodings of signed numbers

-- a digit and the same digit complemented are 127
both : (digits : List ℕ) → magnitude true digits + unsigned digits + 1 ≡ 128 ^ length digits
unfolding magnitude
both [] = refl
both (b ∷ digits) =
    let h = both digits in
    let p : 128 ^ suc (length digits) ≡ 128 * 128 ^ length digits = omega arith in
    rw p (omega arith)

pub signed_low : (digits : List ℕ) → last digits < 64 → signed digits ≡ pos (magnitude false digits)
signed_low digits lt = rw (lt-ltb (last digits) 64 lt) (ap pos (sym (magnitude-unsigned digits)))

pub signed_high : (digits : List ℕ) → 64 ≤ last digits → signed digits ≡ negsuc (magnitude true digits)
signed_high digits le = rw (le-ltb (last digits) 64 le) (omega (arith, ints, both digits))

SignedStands : List ℕ → ℤ → Type 0
SignedStands digits (pos n) = Stands false 64 digits n
SignedStands digits (negsuc n) = Stands true 64 digits n

signed_from : (digits : List ℕ) (z : ℤ) → SignedStands digits z → signed digits ≡ z
unfolding SignedStands
signed_from digits (pos n) h = signed_low digits h.ends ∙ ap pos h.value
signed_from digits (negsuc n) h = signed_high digits (omega (arith, h.ends)) ∙ ap negsuc h.value

signed_to : (digits : List ℕ) → IsDigits digits → (z : ℤ) → signed digits ≡ z → SignedStands digits z
unfolding SignedStands
signed_to digits d (pos n) e = elim (cases_lt (last digits) 64) [
  | inl lt ↦ let p = signed_low digits lt in record { are = d; ends = lt; value = cc }
  | inr le ↦ let p = signed_high digits le in absurd cc
]
signed_to digits d (negsuc n) e = elim (cases_lt (last digits) 64) [
  | inl lt ↦ let p = signed_low digits lt in absurd cc
  | inr le ↦ let p = signed_high digits le in record { are = d; ends = omega arith; value = cc }
]

signed_leb128_stands : (limit : ℕ) → limit ≤ 64 * 128 ^ 9 → (z : ℤ) → Within limit z → IsDigits (signed_leb128 z) × SignedStands (signed_leb128 z) z
unfolding signed_leb128 SignedStands
signed_leb128_stands limit room (pos n) lt = let p = digits_stand false 64 (omega arith) 9 n (omega arith) in (p.are, p)
signed_leb128_stands limit room (negsuc n) lt = let p = digits_stand true 64 (omega arith) 9 n (omega arith) in (p.are, p)

length-signed_leb128 : (more limit : ℕ) → limit ≤ 64 * 128 ^ more → (z : ℤ) → Within limit z → length (signed_leb128 z) ≤ suc more
unfolding signed_leb128
length-signed_leb128 more limit wide (pos n) lt = length-digits_of false 64 9 more n (omega arith)
length-signed_leb128 more limit wide (negsuc n) lt = length-digits_of true 64 9 more n (omega arith)

signed_leb128-least : (limit : ℕ) → limit ≤ 64 * 128 ^ 9 → (bytes : List ℕ) (z : ℤ) → Within limit z → SignedStands bytes z → IsMinimalOrLonger bytes (signed_leb128 z)
unfolding signed_leb128 SignedStands
signed_leb128-least limit room bytes (pos n) lt h = digits_least false 64 9 bytes n (omega arith) (omega arith) h
signed_leb128-least limit room bytes (negsuc n) lt h = digits_least true 64 9 bytes n (omega arith) (omega arith) h

WritesMinimally-signed : (more limit : ℕ) → limit ≤ 64 * 128 ^ more → limit ≤ 64 * 128 ^ 9 → WritesMinimally (Number (suc more) (SignedWithin limit)) (Within limit) signed_leb128
WritesMinimally-signed more limit wide room = record {
  encodes = encodes;
  again = λ bytes z g. encodes z g.2.1;
  least = λ bytes z g. signed_leb128-least limit room bytes z g.2.1 (signed_to bytes g.0 z g.2.0);
} where
  encodes : (z : ℤ) → Within limit z → Number (suc more) (SignedWithin limit) (signed_leb128 z) z
  encodes z lt = let p = signed_leb128_stands limit room z lt in (p.0, length-signed_leb128 more limit wide z lt, (signed_from (signed_leb128 z) z p.1, lt))

WritesMinimally-index-below : (more limit : ℕ) → limit ≤ 64 * 128 ^ more → limit ≤ 64 * 128 ^ 9 → WritesMinimally (Number (suc more) (IndexBelow limit)) (λ n. n < limit) (λ n. signed_leb128 (pos n))
WritesMinimally-index-below more limit wide room = record {
  encodes = encodes;
  again = λ bytes n g. encodes n g.2.1;
  least = λ bytes n g. signed_leb128-least limit room bytes (pos n) g.2.1 (signed_to bytes g.0 (pos n) g.2.0);
} where
  encodes : (n : ℕ) → n < limit → Number (suc more) (IndexBelow limit) (signed_leb128 (pos n)) n
  encodes n lt = let p = signed_leb128_stands limit room (pos n) lt in (p.0, length-signed_leb128 more limit wide (pos n) lt, (signed_from (signed_leb128 (pos n)) (pos n) p.1, lt))

-- ---- longer encodings are cut

cut_unsigned : (most limit : ℕ) → limit ≤ 128 * 128 ^ 9 → (bytes : List ℕ) (n : ℕ) → Number most (Below limit) bytes n → cut (length (unsigned_leb128 n)) bytes ≡ unsigned_leb128 n
unfolding unsigned_leb128
cut_unsigned most limit room bytes n g =
    digits_cut false 128 9 bytes n (omega arith) (omega (arith, g.2.1)) (record { are = g.0; ends = last_below bytes g.0; value = magnitude-unsigned bytes ∙ g.2.0 })

cut_stands : (limit : ℕ) → limit ≤ 64 * 128 ^ 9 → (bytes : List ℕ) (z : ℤ) → Within limit z → SignedStands bytes z → cut (length (signed_leb128 z)) bytes ≡ signed_leb128 z
unfolding signed_leb128 SignedStands
cut_stands limit room bytes (pos n) lt h = digits_cut false 64 9 bytes n (omega arith) (omega arith) h
cut_stands limit room bytes (negsuc n) lt h = digits_cut true 64 9 bytes n (omega arith) (omega arith) h

cut_signed : (most limit : ℕ) → limit ≤ 64 * 128 ^ 9 → (bytes : List ℕ) (z : ℤ) → Number most (SignedWithin limit) bytes z → cut (length (signed_leb128 z)) bytes ≡ signed_leb128 z
cut_signed most limit room bytes z g = cut_stands limit room bytes z g.2.1 (signed_to bytes g.0 z g.2.0)

-- each longer encoding is cut to the minimal
abbrev pub IsCut : {V : Type 0} → Grammar V → (V → List ℕ) → Type 0
IsCut {V} G encoding = (bytes : List ℕ) (v : V) → G bytes v → cut (length (encoding v)) bytes ≡ encoding v

pub cut_u32 : IsCut EncodesU32 unsigned_leb128
unfolding EncodesU32
cut_u32 = cut_unsigned 5 (2 ^ 32) (lit≤ tt)

pub cut_u64 : IsCut EncodesU64 unsigned_leb128
unfolding EncodesU64
cut_u64 = cut_unsigned 10 (2 ^ 64) (lit≤ tt)

pub cut_s32 : IsCut EncodesS32 signed_leb128
unfolding EncodesS32
cut_s32 = cut_signed 5 (2 ^ 31) (lit≤ tt)

pub cut_s64 : IsCut EncodesS64 signed_leb128
unfolding EncodesS64
cut_s64 = cut_signed 10 (2 ^ 63) (lit≤ tt)

pub cut_index : IsCut EncodesIndex (λ n. signed_leb128 (pos n))
unfolding EncodesIndex
cut_index bytes n g = cut_stands (2 ^ 32) (lit≤ tt) bytes (pos n) g.2.1 (signed_to bytes g.0 (pos n) g.2.0)

-- ---- the five widths

pub IsReadBy-u32 : IsReadBy EncodesU32 plain_u32_at
unfolding EncodesU32 plain_u32_at
IsReadBy-u32 = IsReadBy-unsigned 5 (2 ^ 32)

pub WritesMinimally-u32 : WritesMinimally EncodesU32 (λ n. n < 2 ^ 32) unsigned_leb128
unfolding EncodesU32
WritesMinimally-u32 = WritesMinimally-unsigned 4 (2 ^ 32) (lit≤ tt) (lit≤ tt)

pub IsReadBy-u64 : IsReadBy EncodesU64 plain_u64_at
unfolding EncodesU64 plain_u64_at
IsReadBy-u64 = IsReadBy-unsigned 10 (2 ^ 64)

pub WritesMinimally-u64 : WritesMinimally EncodesU64 (λ n. n < 2 ^ 64) unsigned_leb128
unfolding EncodesU64
WritesMinimally-u64 = WritesMinimally-unsigned 9 (2 ^ 64) (lit≤ tt) (lit≤ tt)

pub IsReadBy-s32 : IsReadBy EncodesS32 plain_s32_at
unfolding EncodesS32 plain_s32_at
IsReadBy-s32 = IsReadBy-signed 5 (2 ^ 31)

pub WritesMinimally-s32 : WritesMinimally EncodesS32 (Within (2 ^ 31)) signed_leb128
unfolding EncodesS32
WritesMinimally-s32 = WritesMinimally-signed 4 (2 ^ 31) (lit≤ tt) (lit≤ tt)

pub IsReadBy-s64 : IsReadBy EncodesS64 plain_s64_at
unfolding EncodesS64 plain_s64_at
IsReadBy-s64 = IsReadBy-signed 10 (2 ^ 63)

pub WritesMinimally-s64 : WritesMinimally EncodesS64 (Within (2 ^ 63)) signed_leb128
unfolding EncodesS64
WritesMinimally-s64 = WritesMinimally-signed 9 (2 ^ 63) (lit≤ tt) (lit≤ tt)

pub IsReadBy-index : IsReadBy EncodesIndex plain_index_at
unfolding EncodesIndex plain_index_at
IsReadBy-index = IsReadBy-index-below 5 (2 ^ 32)

pub WritesMinimally-index : WritesMinimally EncodesIndex (λ n. n < 2 ^ 32) (λ n. signed_leb128 (pos n))
unfolding EncodesIndex
WritesMinimally-index = WritesMinimally-index-below 4 (2 ^ 32) (lit≤ tt) (lit≤ tt)

-- ---- what is written

pub written : {V : Type 0} {G : Grammar V} {Fits : V → Type 0} {encoding : V → List ℕ} → WritesMinimally G Fits encoding → (v : V) → Fits v → IsMinimal G encoding v
written law v fits = record { encodes = law.encodes v fits; least = λ bytes g. law.least bytes v g }

pub u32_written : (n : ℕ) → n < 2 ^ 32 → IsMinimal EncodesU32 unsigned_leb128 n
u32_written n lt = written WritesMinimally-u32 n lt

pub u64_written : (n : ℕ) → n < 2 ^ 64 → IsMinimal EncodesU64 unsigned_leb128 n
u64_written n lt = written WritesMinimally-u64 n lt

pub s32_written : (z : ℤ) → SFits w32 z → IsMinimal EncodesS32 signed_leb128 z
s32_written (pos n) fits = written WritesMinimally-s32 (pos n) fits.sfits
s32_written (negsuc n) fits = written WritesMinimally-s32 (negsuc n) fits.sfits

pub s64_written : (z : ℤ) → SFits w64 z → IsMinimal EncodesS64 signed_leb128 z
s64_written (pos n) fits = written WritesMinimally-s64 (pos n) fits.sfits
s64_written (negsuc n) fits = written WritesMinimally-s64 (negsuc n) fits.sfits

pub index_written : (n : ℕ) → n < 2 ^ 32 → IsMinimal EncodesIndex (λ index. signed_leb128 (pos index)) n
index_written n lt = written WritesMinimally-index n lt
