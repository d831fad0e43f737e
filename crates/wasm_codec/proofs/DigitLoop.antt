-- Steps of the loop that reads digits.
use Rattle.std.proofs.Common.{◌≡◌, ℕ, zero, suc, ◌+◌, ◌-◌, ◌*◌, ◌%◌, ◌^◌, ◌<◌, ◌≤◌, List, [], ◌∷◌, ◌++◌, length, get_or, take, drop, Option, Some, None, refl, sym, ap, ◌∙◌, append_assoc, add-one, inl, inr, arith}
use Rattle.std.proofs.lemmas.Bool.{lt-ltb, le-ltb, cases_lt}
use Rattle.std.proofs.lemmas.List.{take_more, drop_more, drop_all, length-take}
use Rattle.std.proofs.Math.Nat.{pow-suc}
use Rattle.wasm_codec.specs.Reading.{◌>>=◌, plain_byte_at}
use Rattle.wasm_codec.specs.Leb128.{digits_at}
use Rattle.wasm_codec.specs.formats.Numbers.{unsigned, last}
use Rattle.wasm_codec.proofs.Laws.{some, some_is}

-- digits that were passed, and those that are still read
abbrev ahead : List ℕ → Option (List ℕ × List ℕ) → Option (List ℕ × List ℕ)
ahead prefix read = read >>= λ more. Some (prefix ++ more.0, more.1)

-- what is read in all, after i digits
abbrev pub reads_on : ℕ → List ℕ → ℕ → Option (List ℕ × List ℕ)
reads_on most bytes i = ahead (take i bytes) (digits_at (most - i) (drop i bytes))

none_ahead : (read : Option (List ℕ × List ℕ)) → ahead [] read ≡ read
none_ahead (Some x) = refl
none_ahead None = refl

pub at_start : (most : ℕ) (bytes : List ℕ) → reads_on most bytes 0 ≡ digits_at most bytes
at_start most bytes = let n : most - 0 ≡ most = omega arith in rw n (none_ahead (digits_at most bytes))

regroup : (prefix : List ℕ) (b : ℕ) (read : Option (List ℕ × List ℕ)) → ahead prefix (read >>= λ more. Some (b ∷ more.0, more.1)) ≡ ahead (prefix ++ b ∷ []) read
regroup prefix b (Some x) = ap (λ (ds : List ℕ). Some (ds, x.1)) (simp append_assoc)
regroup prefix b None = refl

-- the byte at a place
pub record ByteAt (bytes : List ℕ) (i b : ℕ) (rest : List ℕ) : Type 0 where
  pub within : i < length bytes
  pub byte : get_or bytes i 0 ≡ b
  pub after : rest ≡ drop (i + 1) bytes

pub byte_is : (bytes : List ℕ) (i b : ℕ) (rest : List ℕ) → plain_byte_at (drop i bytes) ≡ Some (b, rest) → ByteAt bytes i b rest
byte_is bytes i b rest e = elim (cases_lt i (length bytes)) [
  | inl lt ↦
      let same : some (get_or bytes i 0, drop (i + 1) bytes) ≡ some (b, rest) = sym (ap plain_byte_at (drop_more bytes i 0 lt)) ∙ e in
      let pair = some_is (get_or bytes i 0, drop (i + 1) bytes) (b, rest) same in
      record { within = lt; byte = ap (λ (x : ℕ × List ℕ). x.0) pair; after = sym (ap (λ (x : ℕ × List ℕ). x.1) pair) }
  | inr le ↦
      let none : plain_byte_at (drop i bytes) ≡ None = ap plain_byte_at (drop_all i bytes le) in
      absurd cc
]

pub goes_on : (most : ℕ) (bytes : List ℕ) (i : ℕ) → i < length bytes → i < most → 128 ≤ get_or bytes i 0 → reads_on most bytes i ≡ reads_on most bytes (i + 1)
unfolding digits_at
goes_on most bytes i lt less high =
    let k : most - i ≡ suc (most - (i + 1)) = omega arith in
    rw (k, drop_more bytes i 0 lt, le-ltb (get_or bytes i 0) 128 high, take_more bytes i 0 lt)
    (regroup (take i bytes) (get_or bytes i 0) (digits_at (most - (i + 1)) (drop (i + 1) bytes)))

pub ends : (most : ℕ) (bytes : List ℕ) (i : ℕ) → i < length bytes → i < most → get_or bytes i 0 < 128 → reads_on most bytes i ≡ Some (take (i + 1) bytes, drop (i + 1) bytes)
unfolding digits_at
ends most bytes i lt less low =
    let k : most - i ≡ suc (most - (i + 1)) = omega arith in
    rw (k, drop_more bytes i 0 lt, lt-ltb (get_or bytes i 0) 128 low, take_more bytes i 0 lt) refl

pub full : (most : ℕ) (bytes : List ℕ) → reads_on most bytes most ≡ None
unfolding digits_at
full most bytes = let k : most - most ≡ 0 = omega arith in rw k refl

none_left : (n : ℕ) → digits_at n [] ≡ None
unfolding digits_at
none_left zero = refl
none_left (suc n) = refl

no_byte : (bytes : List ℕ) → plain_byte_at bytes ≡ None → bytes ≡ []
no_byte [] e = refl
no_byte (b ∷ bytes) e = absurd cc

pub runs_out : (most : ℕ) (bytes : List ℕ) (i : ℕ) → plain_byte_at (drop i bytes) ≡ None → reads_on most bytes i ≡ None
runs_out most bytes i e = rw (no_byte (drop i bytes) e, none_left (most - i)) refl

-- a byte was missing
unsigned-append : (prefix : List ℕ) (b : ℕ) → unsigned (prefix ++ b ∷ []) ≡ unsigned prefix + (b % 128) * 128 ^ length prefix
unsigned-append [] b = omega arith
unsigned-append (c ∷ prefix) b =
    let p : 128 ^ suc (length prefix) ≡ 128 * 128 ^ length prefix = omega arith in
    rw (unsigned-append prefix b, p) (omega arith)

last-append : (prefix : List ℕ) (b : ℕ) → last (prefix ++ b ∷ []) ≡ b
last-append [] b = refl
last-append (c ∷ []) b = refl
last-append (c ∷ d ∷ prefix) b = last-append (d ∷ prefix) b

pub value_more : (bytes : List ℕ) (i b value place : ℕ) → i < length bytes → get_or bytes i 0 ≡ b → value ≡ unsigned (take i bytes) → place ≡ 128 ^ i → value + (b % 128) * place ≡ unsigned (take (i + 1) bytes)
value_more bytes i b value place lt e v p =
    let len : length (take i bytes) ≡ i = omega (arith, length-take i bytes) in
    rw (take_more bytes i 0 lt, e, unsigned-append (take i bytes) b, len, v, p) refl

last_is : (bytes : List ℕ) (i b : ℕ) → i < length bytes → get_or bytes i 0 ≡ b → b ≡ last (take (i + 1) bytes)
last_is bytes i b lt e = rw (take_more bytes i 0 lt, e) (sym (last-append (take i bytes) b))

-- the sum of the low seven bits of digits, 128 to their number, and the last of them
abbrev pub Describes : ℕ → ℕ → ℕ → List ℕ → Type 0
Describes n unit end digits = (n ≡ unsigned digits) × (unit ≡ 128 ^ length digits) × (end ≡ last digits)

-- the last digit was read
pub digits_end : (most : ℕ) (bytes : List ℕ) (i b value place : ℕ) (rest : List ℕ) → i < most → b < 128 → ByteAt bytes i b rest → reads_on most bytes i ≡ digits_at most bytes → value ≡ unsigned (take i bytes) → place ≡ 128 ^ i
    → (digits : List ℕ) × (digits_at most bytes ≡ Some (digits, rest)) × Describes (value + (b % 128) * place) (place * 128) b digits
digits_end most bytes i b value place rest less low byte so_far v p =
    let lt = byte.within in
    let len : length (take (i + 1) bytes) ≡ i + 1 = omega (arith, length-take (i + 1) bytes) in
    let read : digits_at most bytes ≡ Some (take (i + 1) bytes, rest) = sym so_far ∙ ends most bytes i lt less (rw byte.byte low) ∙ ap (λ (t : List ℕ). Some (take (i + 1) bytes, t)) (sym byte.after) in
    let pow : place * 128 ≡ 128 ^ (i + 1) = rw (p, add-one) (omega (arith, pow-suc)) in
    (take (i + 1) bytes, read, (value_more bytes i b value place lt byte.byte v p, pow ∙ ap (λ (k : ℕ). 128 ^ k) (sym len), last_is bytes i b lt byte.byte))

-- another digit follows
pub digits_more : (most : ℕ) (bytes : List ℕ) (i b : ℕ) (rest : List ℕ) → i < most → 128 ≤ b → ByteAt bytes i b rest → reads_on most bytes i ≡ digits_at most bytes → reads_on most bytes (i + 1) ≡ digits_at most bytes
digits_more most bytes i b rest less high byte so_far = sym (goes_on most bytes i byte.within less (rw byte.byte high)) ∙ so_far
