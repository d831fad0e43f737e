-- Numbers: bytes at a place, and digits that are the fewest.
use Rattle.std.proofs.Math.Nat.{one-le-pow, pow-le-pow_right}
use Rattle.std.proofs.Math.Bool.{and-true}
use Rattle.std.proofs.lemmas.Nat.{mul-le}
use Rattle.std.proofs.lemmas.Int.{ints}
use Rattle.std.proofs.Common.{◌≡◌, ℕ, zero, suc, ◌+◌, ◌-◌, ◌*◌, ◌%◌, ◌/◌, ◌^◌, ◌<◌, ◌≤◌, ◌&&◌, Bool, true, false, cond, eqb, ltb, List, [], ◌∷◌, ◌++◌, length, take, drop, leb, Option, Some, None, Err, refl, sym, ap, subst, ◌∙◌, inl, inr, arith, lit≤, ℤ, pos, negsuc, ◌-ℤ◌}
use Rattle.std.proofs.lemmas.Bool.{lt-ltb, le-ltb, le-leb, lt-leb, eq-eqb, ne_eqb, cases_lt}
use Rattle.wasm_codec.specs.Reading.{plain_byte_at, ◌>>=◌}
use Rattle.wasm_codec.specs.Leb128.{digits_at, below, signed_within, index_below, digits_of, unsigned_leb128, signed_leb128}
use Rattle.wasm_codec.specs.formats.Numbers.{unsigned, last, signed}
use Rattle.wasm_codec.proofs.Laws.{bind_some, some_is}
use Rattle.wasm_codec.proofs.Digits.{length-digits_of, some_digits}
use Rattle.wasm_codec.proofs.DigitLoop.{reads_on, byte_is, digits_end, runs_out}
use Rattle.wasm_codec.specs.declared.reader.cursor.Fault.{Fault}
use Rattle.wasm_codec.specs.declared.reader.cursor.Fault.TheVariants as faults
use Rattle.wasm_codec.specs.Places.{Place, place, Reads, byte_from, byte_at, number_at, u32_at, u64_at, s32_at, s64_at, index_at}
use Rattle.wasm_codec.specs.ReadDigits.{Read, ReadsDigits, ReadsManyDigits, fewest}

-- the first byte was taken
pub record Taken (p q : Place) (b : ℕ) : Type 0 where
  pub bytes : p.left ≡ b ∷ q.left
  pub keeps : q.minimal ≡ p.minimal

pub byte_took : (p q : Place) (b : ℕ) → byte_at p ≡ Some (b, q) → Taken p q b
unfolding byte_at
byte_took p q b e = by p.left refl e where
  by : (l : List ℕ) → p.left ≡ l → byte_from p.minimal l ≡ Some (b, q) → Taken p q b
  by [] is e = absurd cc
  by (c ∷ bytes) is e =
      let same : (c, place p.minimal bytes) ≡ (b, q) = some_is (c, place p.minimal bytes) (b, q) e in
      record {
        bytes = is ∙ ap (λ (x : ℕ × Place). x.0 ∷ x.1.left) same;
        keeps = sym (ap (λ (x : ℕ × Place). x.1.minimal) same);
      }

pub list_byte : (p q : Place) (b : ℕ) → byte_at p ≡ Some (b, q) → plain_byte_at p.left ≡ Some (b, q.left)
list_byte p q b e = ap plain_byte_at (byte_took p q b e).bytes

pub no_list_byte : (p : Place) → byte_at p ≡ None → plain_byte_at p.left ≡ None
unfolding byte_at
no_list_byte p e = by p.left refl e where
  by : (l : List ℕ) → p.left ≡ l → byte_from p.minimal l ≡ None → plain_byte_at l ≡ None
  by [] is e = refl
  by (c ∷ bytes) is e = absurd cc

-- ---- how many digits are written

pub longer_digits : (turn : Bool) (top room more n : ℕ) → top * 128 ^ more ≤ n → more < room → suc more < length (digits_of turn top room n)
unfolding digits_of
longer_digits turn top zero more n le lt = absurd (omega arith)
longer_digits turn top (suc room) zero n le lt =
    let no : top ≤ n = omega arith in
    let some = some_digits turn top room (n / 128) in
    rw (le-ltb n top no) (omega arith)
longer_digits turn top (suc room) (suc more) n le lt =
    let p : 128 ^ suc more ≡ 128 * 128 ^ more = omega arith in
    let q : top * (128 * 128 ^ more) ≤ n = rw p at le in
    let one : 1 ≤ 128 ^ more = one-le-pow more 128 (omega arith) in
    let wide : top * 1 ≤ top * (128 * 128 ^ more) = mul-le top 1 top (128 * 128 ^ more) (omega arith) (omega arith) in
    let no : top ≤ n = omega arith in
    let again = longer_digits turn top room more (n / 128) (omega arith) (omega arith) in
    rw (le-ltb n top no) (omega arith)

-- the number decides whether the digits are the fewest
pub fewest_is : (turn : Bool) (top k n : ℕ) → n < top * 128 ^ k → k < 10 → eqb (suc k) (length (digits_of turn top 9 n)) ≡ fewest top (128 ^ suc k) n
fewest_is turn top zero n lt few =
    let some = some_digits turn top 9 n in
    let one = length-digits_of turn top 9 0 n lt in
    eq-eqb 1 (length (digits_of turn top 9 n)) (omega arith)
fewest_is turn top (suc k) n lt few =
    let p : 128 ^ suc (suc k) ≡ 128 * (128 * 128 ^ k) = omega arith in
    let pos : 1 ≤ 128 ^ k = one-le-pow k 128 (omega arith) in
    let wide : eqb (128 ^ suc (suc k)) 128 ≡ false = ne_eqb (128 ^ suc (suc k)) 128 (λ e. omega (arith, e)) in
    elim (cases_lt n (top * 128 ^ k)) [
      | inl less ↦
          let short = length-digits_of turn top 9 k n less in
          let l : eqb (suc (suc k)) (length (digits_of turn top 9 n)) ≡ false = ne_eqb (suc (suc k)) (length (digits_of turn top 9 n)) (λ e. omega (arith, e)) in
          let r : leb (top * 128 ^ suc (suc k)) (n * 16384) ≡ false = lt-leb (top * 128 ^ suc (suc k)) (n * 16384) (rw p (omega arith)) in
          l ∙ sym (rw (wide, r) refl)
      | inr le ↦
          let long = longer_digits turn top 9 k n le (omega arith) in
          let short = length-digits_of turn top 9 (suc k) n lt in
          let l : eqb (suc (suc k)) (length (digits_of turn top 9 n)) ≡ true = eq-eqb (suc (suc k)) (length (digits_of turn top 9 n)) (omega arith) in
          let r : leb (top * 128 ^ suc (suc k)) (n * 16384) ≡ true = le-leb (top * 128 ^ suc (suc k)) (n * 16384) (rw p (omega arith)) in
          l ∙ sym (rw (wide, r) refl)
    ]

one_or_more : (digits : List ℕ) → 128 ≤ 128 ^ length digits → (k : ℕ) × (length digits ≡ suc k)
one_or_more [] le = absurd (omega arith)
one_or_more (b ∷ digits) le = (length digits, refl)

told : (turn : Bool) (top n most : ℕ) (old new : Place) (value unit end : ℕ) (d : Read most old new value unit end) → most ≤ 10 → n * 128 < top * unit → eqb (length d.digits) (length (digits_of turn top 9 n)) ≡ fewest top unit n
told turn top n most old new value unit end d few lt =
    let some : 128 ≤ unit = d.some in
    let k = one_or_more d.digits (rw d.unit_is at some) in
    let p : unit ≡ 128 ^ suc k.0 = d.unit_is ∙ ap (λ (l : ℕ). 128 ^ l) k.1 in
    let q : unit ≡ 128 * 128 ^ k.0 = p ∙ omega arith in
    let less : n * 128 < top * (128 * 128 ^ k.0) = rw q at lt in
    rw (k.1, p) (fewest_is turn top k.0 n (omega arith) (omega (arith, d.short, k.1)))

-- a number of digits that were read
number_is : {V : Type 0} (value : List ℕ → Option V) (bytes : V → List ℕ) (most : ℕ) (old new : Place) (n unit end : ℕ) (d : Read most old new n unit end) (v : V) (t : Bool) → value d.digits ≡ Some v → eqb (length d.digits) (length (bytes v)) ≡ t → number_at most value bytes old ≡ Some (v, place (new.minimal && t) new.left)
number_is value bytes most old new n unit end d v t is test = rw (d.reads, is, test, d.keeps) refl

pub no_digits : {V : Type 0} (value : List ℕ → Option V) (bytes : V → List ℕ) (most : ℕ) (old : Place) → digits_at most old.left ≡ None → number_at most value bytes old ≡ None
no_digits value bytes most old none = rw none refl

pub unsigned_is : (limit most : ℕ) (old new : Place) (n unit end : ℕ) → Read most old new n unit end → most ≤ 10 → n < limit → number_at most (below limit) unsigned_leb128 old ≡ Some (n, place (new.minimal && fewest 128 unit n) new.left)
unfolding unsigned_leb128
unsigned_is limit most old new n unit end d few lt =
    let same : unsigned d.digits ≡ n = sym d.value_is in
    let value : below limit d.digits ≡ Some n = rw (same, lt-ltb n limit lt) refl in
    let small : n < unit = d.below in
    number_is (below limit) unsigned_leb128 most old new n unit end d n (fewest 128 unit n) value (told false 128 n most old new n unit end d few (omega arith))

pub unsigned_none : (limit most : ℕ) (old new : Place) (n unit end : ℕ) → Read most old new n unit end → limit ≤ n → number_at most (below limit) unsigned_leb128 old ≡ None
unsigned_none limit most old new n unit end d le =
    let same : unsigned d.digits ≡ n = sym d.value_is in
    let value : below limit d.digits ≡ None = rw (same, le-ltb n limit le) refl in
    rw (d.reads, value) refl

abbrev pub any_signed : List ℕ → Option ℤ
any_signed digits = Some (signed digits)

below_zero : (n unit : ℕ) → n < unit → pos n -ℤ pos unit ≡ negsuc (unit - 1 - n)
below_zero n unit lt = omega (arith, ints, lt)

-- a signed number whose last digit is low
low_is : (value : List ℕ → Option ℤ) (most : ℕ) (old new : Place) (n unit end : ℕ) (d : Read most old new n unit end) → most ≤ 10 → end < 64 → value d.digits ≡ Some (pos n) → number_at most value signed_leb128 old ≡ Some (pos n, place (new.minimal && fewest 64 unit n) new.left)
unfolding signed_leb128
low_is value most old new n unit end d few lt is =
    let small : n * 2 < unit = d.low lt in
    number_is value signed_leb128 most old new n unit end d (pos n) (fewest 64 unit n) is (told false 64 n most old new n unit end d few (omega arith))

-- one whose last digit is high
high_is : (value : List ℕ → Option ℤ) (most : ℕ) (old new : Place) (n unit end : ℕ) (d : Read most old new n unit end) → most ≤ 10 → 64 ≤ end → value d.digits ≡ Some (negsuc (unit - 1 - n)) → number_at most value signed_leb128 old ≡ Some (pos n -ℤ pos unit, place (new.minimal && fewest 64 unit (unit - 1 - n)) new.left)
unfolding signed_leb128
high_is value most old new n unit end d few le is =
    let m = unit - 1 - n in
    let high : unit ≤ n * 2 = d.high le in
    let small : n < unit = d.below in
    rw (below_zero n unit small) (number_is value signed_leb128 most old new n unit end d (negsuc m) (fewest 64 unit m) is (told true 64 m most old new n unit end d few (omega arith)))

pub signed_low : (most : ℕ) (old new : Place) (n unit end : ℕ) → Read most old new n unit end → most ≤ 10 → end < 64 → number_at most any_signed signed_leb128 old ≡ Some (pos n, place (new.minimal && fewest 64 unit n) new.left)
signed_low most old new n unit end d few lt =
    let same : unsigned d.digits ≡ n = sym d.value_is in
    low_is any_signed most old new n unit end d few lt (rw (← d.end_is, lt-ltb end 64 lt, same) refl)

pub signed_high : (most : ℕ) (old new : Place) (n unit end : ℕ) → Read most old new n unit end → most ≤ 10 → 64 ≤ end → number_at most any_signed signed_leb128 old ≡ Some (pos n -ℤ pos unit, place (new.minimal && fewest 64 unit (unit - 1 - n)) new.left)
signed_high most old new n unit end d few le =
    let same : unsigned d.digits ≡ n = sym d.value_is in
    high_is any_signed most old new n unit end d few le (rw (← d.end_is, le-ltb end 64 le, same, ← d.unit_is, below_zero n unit d.below) refl)

-- the same within a limit
pub low_within : (limit most : ℕ) (old new : Place) (n unit end : ℕ) → Read most old new n unit end → most ≤ 10 → end < 64 → n < limit → number_at most (signed_within limit) signed_leb128 old ≡ Some (pos n, place (new.minimal && fewest 64 unit n) new.left)
low_within limit most old new n unit end d few lt within =
    let same : unsigned d.digits ≡ n = sym d.value_is in
    low_is (signed_within limit) most old new n unit end d few lt (rw (← d.end_is, lt-ltb end 64 lt, same, lt-ltb n limit within) refl)

pub high_within : (limit most : ℕ) (old new : Place) (n unit end : ℕ) → Read most old new n unit end → most ≤ 10 → 64 ≤ end → unit - 1 - n < limit → number_at most (signed_within limit) signed_leb128 old ≡ Some (pos n -ℤ pos unit, place (new.minimal && fewest 64 unit (unit - 1 - n)) new.left)
high_within limit most old new n unit end d few le within =
    let same : unsigned d.digits ≡ n = sym d.value_is in
    high_is (signed_within limit) most old new n unit end d few le (rw (← d.end_is, le-ltb end 64 le, same, ← d.unit_is, below_zero n unit d.below, lt-ltb (unit - 1 - n) limit within) refl)

-- ---- numbers of one byte

digit_at : (most : ℕ) (p q : Place) (b : ℕ) → b < 128 → p ≡ place q.minimal (b ∷ q.left) → digits_at (suc most) p.left ≡ Some (b ∷ [], q.left)
unfolding digits_at
digit_at most p q b lt e = rw (e, lt-ltb b 128 lt) refl

one_read : {V : Type 0} (value : List ℕ → Option V) (bytes : V → List ℕ) (most : ℕ) (p q : Place) (b : ℕ) (v : V) → b < 128 → p ≡ place q.minimal (b ∷ q.left) → value (b ∷ []) ≡ Some v → length (bytes v) ≡ 1 → number_at (suc most) value bytes p ≡ Some (v, q)
one_read value bytes most p q b v lt e is one =
    let s : p.minimal ≡ q.minimal = ap (λ (x : Place). x.minimal) e in
    rw (digit_at most p q b lt e, is, one, s, and-true q.minimal) refl

one_digit : (turn : Bool) (top n : ℕ) → n < top → length (digits_of turn top 9 n) ≡ 1
unfolding digits_of
one_digit turn top n lt = rw (lt-ltb n top lt) refl

one_unsigned : (limit most : ℕ) (p q : Place) (b : ℕ) → 128 ≤ limit → b < 128 → p ≡ place q.minimal (b ∷ q.left) → number_at (suc most) (below limit) unsigned_leb128 p ≡ Some (b, q)
unfolding unsigned_leb128
one_unsigned limit most p q b wide lt e =
    let same : b % 128 + 128 * 0 ≡ b = omega arith in
    one_read (below limit) unsigned_leb128 most p q b b lt e (rw (same, lt-ltb b limit (omega arith)) refl) (one_digit false 128 b lt)

pub u32_one : (p q : Place) (b : ℕ) → b < 128 → p ≡ place q.minimal (b ∷ q.left) → u32_at p ≡ Some (b, q)
unfolding u32_at
u32_one p q b lt e = one_unsigned (2 ^ 32) 4 p q b (lit≤ tt) lt e

pub u64_one : (p q : Place) (b : ℕ) → b < 128 → p ≡ place q.minimal (b ∷ q.left) → u64_at p ≡ Some (b, q)
unfolding u64_at
u64_one p q b lt e = one_unsigned (2 ^ 64) 9 p q b (lit≤ tt) lt e

one_low : (limit most : ℕ) (p q : Place) (b : ℕ) → 64 ≤ limit → b < 64 → p ≡ place q.minimal (b ∷ q.left) → number_at (suc most) (signed_within limit) signed_leb128 p ≡ Some (pos b, q)
unfolding signed_leb128
one_low limit most p q b wide lt e =
    let same : b % 128 + 128 * 0 ≡ b = omega arith in
    one_read (signed_within limit) signed_leb128 most p q b (pos b) (omega arith) e (rw (lt-ltb b 64 lt, same, lt-ltb b limit (omega arith)) refl) (one_digit false 64 b lt)

one_high : (limit most : ℕ) (p q : Place) (b : ℕ) → 64 ≤ limit → 64 ≤ b → b < 128 → p ≡ place q.minimal (b ∷ q.left) → number_at (suc most) (signed_within limit) signed_leb128 p ≡ Some (pos b -ℤ pos 128, q)
unfolding signed_leb128
one_high limit most p q b wide le lt e =
    let same : b % 128 + 128 * 0 ≡ b = omega arith in
    let negative : pos b -ℤ pos (128 ^ 1) ≡ negsuc (127 - b) = omega (arith, ints) in
    let value : signed_within limit (b ∷ []) ≡ Some (negsuc (127 - b)) = rw (le-ltb b 64 le, same, negative, lt-ltb (127 - b) limit (omega arith)) refl in
    one_read (signed_within limit) signed_leb128 most p q b (negsuc (127 - b)) lt e value (one_digit true 64 (127 - b) (omega arith)) ∙ ap (λ (z : ℤ). Some (z, q)) (sym negative)

pub s32_low : (p q : Place) (b : ℕ) → b < 64 → p ≡ place q.minimal (b ∷ q.left) → s32_at p ≡ Some (pos b, q)
unfolding s32_at
s32_low p q b lt e = one_low (2 ^ 31) 4 p q b (lit≤ tt) lt e

pub s32_high : (p q : Place) (b : ℕ) → 64 ≤ b → b < 128 → p ≡ place q.minimal (b ∷ q.left) → s32_at p ≡ Some (pos b -ℤ pos 128, q)
unfolding s32_at
s32_high p q b le lt e = one_high (2 ^ 31) 4 p q b (lit≤ tt) le lt e

pub s64_low : (p q : Place) (b : ℕ) → b < 64 → p ≡ place q.minimal (b ∷ q.left) → s64_at p ≡ Some (pos b, q)
unfolding s64_at
s64_low p q b lt e = one_low (2 ^ 63) 9 p q b (lit≤ tt) lt e

pub s64_high : (p q : Place) (b : ℕ) → 64 ≤ b → b < 128 → p ≡ place q.minimal (b ∷ q.left) → s64_at p ≡ Some (pos b -ℤ pos 128, q)
unfolding s64_at
s64_high p q b le lt e = one_high (2 ^ 63) 9 p q b (lit≤ tt) le lt e

pub index_low : (p q : Place) (b : ℕ) → b < 64 → p ≡ place q.minimal (b ∷ q.left) → index_at p ≡ Some (b, q)
unfolding index_at signed_leb128
index_low p q b lt e =
    let same : b % 128 + 128 * 0 ≡ b = omega arith in
    one_read (index_below (2 ^ 32)) (λ n. signed_leb128 (pos n)) 4 p q b b (omega arith) e (rw (lt-ltb b 64 lt, same, lt-ltb b (2 ^ 32) (omega arith)) refl) (one_digit false 64 b lt)

pub index_high : (p q : Place) (b : ℕ) → 64 ≤ b → b < 128 → p ≡ place q.minimal (b ∷ q.left) → index_at p ≡ None
unfolding index_at
index_high p q b le lt e =
    let same : b % 128 + 128 * 0 ≡ b = omega arith in
    let negative : pos b -ℤ pos (128 ^ 1) ≡ negsuc (127 - b) = omega (arith, ints) in
    rw (digit_at 4 p q b lt e, le-ltb b 64 le, same, negative) refl

-- ---- the loop

pub record Bounds (n unit digit b : ℕ) : Type 0 where
  pub part : digit * unit ≤ 127 * unit
  pub below : n + digit * unit < unit * 128
  pub low : b < 64 → (n + digit * unit) * 2 < unit * 128
  pub high : 64 ≤ b → unit * 128 ≤ (n + digit * unit) * 2

pub bounds : (n unit digit b : ℕ) → n < unit → digit < 128 → (b < 128 → digit ≡ b) → b < 128 → Bounds n unit digit b
bounds n unit digit b lt small same last =
    let e : digit ≡ b = same last in
    let part : digit * unit ≤ 127 * unit = mul-le digit unit 127 unit (omega arith) (omega arith) in
    record {
      part = part;
      below = omega arith;
      low = λ less. let p : digit * unit ≤ 63 * unit = mul-le digit unit 63 unit (omega arith) (omega arith) in omega arith;
      high = λ more. let p : 64 * unit ≤ digit * unit = mul-le 64 unit digit unit (omega arith) (omega arith) in omega arith;
    }

pub record NumberParts (most : ℕ) (bytes digits rest : List ℕ) : Type 0 where
  pub parts : bytes ≡ digits ++ rest
  pub short : length digits ≤ most

pub digits_parts : (most : ℕ) (bytes digits rest : List ℕ) → digits_at most bytes ≡ Some (digits, rest) → NumberParts most bytes digits rest
unfolding digits_at
digits_parts zero bytes digits rest e = absurd cc
digits_parts (suc most) [] digits rest e = absurd cc
digits_parts (suc most) (b ∷ bytes) digits rest e = by (λ ds more. digits_parts most bytes ds more) (ltb b 128) e where
  by : ((ds more : List ℕ) → digits_at most bytes ≡ Some (ds, more) → NumberParts most bytes ds more) → (t : Bool) → cond {A = Option (List ℕ × List ℕ)} t (Some (b ∷ [], bytes)) (digits_at most bytes >>= λ more. Some (b ∷ more.0, more.1)) ≡ Some (digits, rest) → NumberParts (suc most) (b ∷ bytes) digits rest
  by again true e =
      subst (λ (x : List ℕ × List ℕ). NumberParts (suc most) (b ∷ bytes) x.0 x.1) (some_is (b ∷ [], bytes) (digits, rest) e) (record { parts = refl; short = omega arith })
  by again false e =
      let p = bind_some (digits_at most bytes) (λ more. Some (b ∷ more.0, more.1)) (digits, rest) e in
      let t = again p.0.0 p.0.1 p.1 in
      subst (λ (x : List ℕ × List ℕ). NumberParts (suc most) (b ∷ bytes) x.0 x.1) (some_is (b ∷ p.0.0, p.0.1) (digits, rest) p.2) (record { parts = ap (λ (t : List ℕ). b ∷ t) t.parts; short = omega (arith, t.short) })

-- the last digit was read
pub read_end : (most : ℕ) (old here new : Place) (i b n unit : ℕ) → i < most → b < 128 → n < unit → here.left ≡ drop i old.left → here.minimal ≡ old.minimal → reads_on most old.left i ≡ digits_at most old.left → n ≡ unsigned (take i old.left) → unit ≡ 128 ^ i → byte_at here ≡ Some (b, new)
    → Read most old new (n + (b % 128) * unit) (unit * 128) b
read_end most old here new i b n unit less small lt rest keeps so_far value pow e =
    let byte = byte_is old.left i b new.left (sym (ap plain_byte_at rest) ∙ list_byte here new b e) in
    let d = digits_end most old.left i b n unit new.left less small byte so_far value pow in
    let r = bounds n unit (b % 128) b lt (omega arith) (λ l. omega arith) small in
    record {
      digits = d.0;
      reads = d.1;
      keeps = (byte_took here new b e).keeps ∙ keeps;
      short = (digits_parts most old.left d.0 new.left d.1).short;
      value_is = d.2.0;
      unit_is = d.2.1;
      end_is = d.2.2;
      some = omega arith;
      below = r.below;
      low = r.low;
      high = r.high;
    }

-- a byte was missing
pub fail : (fault : Fault) (most : ℕ) (old here new : Place) (i : ℕ) → here.left ≡ drop i old.left → reads_on most old.left i ≡ digits_at most old.left → Reads byte_at here new (Err fault) → ReadsDigits most old new (Err fault)
fail faults.Memory most old here new i rest so_far e = tt
fail (faults.Malformed m) most old here new i rest so_far e = sym so_far ∙ runs_out most old.left i (sym (ap plain_byte_at rest) ∙ no_list_byte here e)

pub many_fail : (fault : Fault) (most : ℕ) (old here new : Place) (i : ℕ) → here.left ≡ drop i old.left → reads_on most old.left i ≡ digits_at most old.left → Reads byte_at here new (Err fault) → ReadsManyDigits most old new (Err fault)
many_fail faults.Memory most old here new i rest so_far e = tt
many_fail (faults.Malformed m) most old here new i rest so_far e = sym so_far ∙ runs_out most old.left i (sym (ap plain_byte_at rest) ∙ no_list_byte here e)

pub record FewBounds (more n unit digit : ℕ) : Type 0 where
  pub part : digit * unit ≤ 127 * unit
  pub unit_fits : unit ≤ 128 ^ more
  pub below : n + digit * unit < unit * 128

pub few_bounds : (more i n unit digit : ℕ) → i ≤ more → unit ≡ 128 ^ i → n < unit → digit < 128 → FewBounds more n unit digit
few_bounds more i n unit digit le e lt small =
    let part : digit * unit ≤ 127 * unit = mul-le digit unit 127 unit (omega arith) (omega arith) in
    record { part = part; unit_fits = rw e (pow-le-pow_right (omega arith) le); below = omega arith }

-- ---- the widths

pub u32_is : (old new : Place) (n unit end : ℕ) → Read 5 old new n unit end → n < 2 ^ 32 → u32_at old ≡ Some (n, place (new.minimal && fewest 128 unit n) new.left)
unfolding u32_at
u32_is old new n unit end d lt = unsigned_is (2 ^ 32) 5 old new n unit end d (lit≤ tt) lt

pub u32_wide : (old new : Place) (n unit end : ℕ) → Read 5 old new n unit end → 2 ^ 32 ≤ n → u32_at old ≡ None
unfolding u32_at
u32_wide old new n unit end d le = unsigned_none (2 ^ 32) 5 old new n unit end d le

pub u32_none : (old : Place) → digits_at 5 old.left ≡ None → u32_at old ≡ None
unfolding u32_at
u32_none old none = no_digits (below (2 ^ 32)) unsigned_leb128 5 old none

pub u64_is : (old new : Place) (n unit end : ℕ) → Read 10 old new n unit end → n < 2 ^ 64 → u64_at old ≡ Some (n, place (new.minimal && fewest 128 unit n) new.left)
unfolding u64_at
u64_is old new n unit end d lt = unsigned_is (2 ^ 64) 10 old new n unit end d (lit≤ tt) lt

pub u64_wide : (old new : Place) (n unit end : ℕ) → Read 10 old new n unit end → 2 ^ 64 ≤ n → u64_at old ≡ None
unfolding u64_at
u64_wide old new n unit end d le = unsigned_none (2 ^ 64) 10 old new n unit end d le

pub u64_none : (old : Place) → digits_at 10 old.left ≡ None → u64_at old ≡ None
unfolding u64_at
u64_none old none = no_digits (below (2 ^ 64)) unsigned_leb128 10 old none
