-- How long minimal encodings are at the most.
use Rattle.std.proofs.Common.{◌≡◌, ℕ, zero, suc, ◌+◌, ◌*◌, ◌/◌, ◌^◌, ◌<◌, ◌≤◌, Bool, true, false, cond, List, [], ◌∷◌, length, Option, Some, None, refl, length-append, arith}
use Rattle.std.specs.Prelude.{IsSomeAnd}
use Rattle.wasm_codec.specs.formats.Numbers.{EncodesU32, EncodesU64, EncodesS32, EncodesS64, EncodesIndex}
use Rattle.wasm_codec.specs.Leb128.{unsigned_leb128}
use Rattle.wasm_codec.proofs.Digits.{length-digits_of}
use Rattle.wasm_codec.specs.formats.Combinators.{Format, a_byte, nothing, ◌⊗◌, bytes_of, made, either_range, Choice, any_of, or_else, either, after, after_long, one_byte, u32, u64, s32, s64, index, raw, little_endian}
use Rattle.wasm_codec.proofs.NumberLaws.{WritesMinimally-u32, WritesMinimally-u64, WritesMinimally-s32, WritesMinimally-s64, WritesMinimally-index}

-- the minimal encoding of a value in range has at most so many bytes
pub record AtMost {V : Type 0} (most : ℕ) (F : Format V) : Type 0 where
  pub bound : (v : V) → F.InRange v → length (F.bytes v) ≤ most

pub record ChoiceAtMost {V : Type 0} (most : ℕ) (C : Choice V) : Type 0 where
  pub bound : (v : V) → C.InRange v → length (C.bytes v) ≤ most

pub AtMost-more : {V : Type 0} {m n : ℕ} {F : Format V} → m ≤ n → AtMost m F → AtMost n F
AtMost-more le p = record { bound = λ v fits. omega (arith, p.bound v fits) }

pub AtMost-byte : AtMost 1 a_byte
AtMost-byte = record { bound = λ v fits. omega arith }

pub AtMost-nothing : {A : Type 0} (a : A) → AtMost 0 (nothing a)
AtMost-nothing a = record { bound = λ v fits. omega arith }

pub AtMost-one-byte : {A : Type 0} (byte_of : A → Option ℕ) (values : List A) → AtMost 1 (one_byte byte_of values)
AtMost-one-byte {A} byte_of values = record { bound = λ v fits. by (byte_of v) } where
  by : (o : Option ℕ) → length (bytes_of (λ b. b ∷ []) o) ≤ 1
  by (Some b) = omega arith
  by None = omega arith

pub AtMost-raw : (count : ℕ) → AtMost count (raw count)
AtMost-raw count = record { bound = λ v fits. omega (arith, fits.0) }

pub AtMost-u32 : AtMost 5 u32
unfolding EncodesU32
AtMost-u32 = record { bound = λ n lt. (WritesMinimally-u32.encodes n lt).1 }

pub AtMost-u64 : AtMost 10 u64
unfolding EncodesU64
AtMost-u64 = record { bound = λ n lt. (WritesMinimally-u64.encodes n lt).1 }

pub AtMost-s32 : AtMost 5 s32
unfolding EncodesS32
AtMost-s32 = record { bound = λ z within. (WritesMinimally-s32.encodes z within).1 }

pub AtMost-s64 : AtMost 10 s64
unfolding EncodesS64
AtMost-s64 = record { bound = λ z within. (WritesMinimally-s64.encodes z within).1 }

pub AtMost-index : AtMost 5 index
unfolding EncodesIndex
AtMost-index = record { bound = λ n lt. (WritesMinimally-index.encodes n lt).1 }

-- a number of 7 bits, or 14, ..
pub length-number : (more n : ℕ) → n < 128 * 128 ^ more → length (unsigned_leb128 n) ≤ suc more
unfolding unsigned_leb128
length-number more n lt = length-digits_of false 128 9 more n lt

pub AtMost-both : {A B : Type 0} {m n : ℕ} {F : Format A} {G : Format B} → AtMost m F → AtMost n G → AtMost (m + n) (F ⊗ G)
AtMost-both {F = F} {G = G} p q = record { bound = λ v fits. omega (arith, length-append (F.bytes v.0) (G.bytes v.1), p.bound v.0 fits.0, q.bound v.1 fits.1) }

pub AtMost-made : {A B : Type 0} {most : ℕ} {F : Format A} (make : A → B) (parts : B → Option A) → AtMost most F → AtMost most (made make parts F)
AtMost-made {A} {B} {most} {F} make parts p = record { bound = λ b. by b (parts b) } where
  by : (b : B) (o : Option A) → IsSomeAnd o (λ a. F.InRange a × (make a ≡ b)) → length (bytes_of F.bytes o) ≤ most
  by b (Some a) fits = p.bound a fits.0
  by b None fits = absurd fits

length-little-endian : (count n : ℕ) → length ((little_endian count).bytes n) ≡ count
unfolding little_endian
length-little-endian zero n = refl
length-little-endian (suc more) n = omega (arith, length-little-endian more (n / 256))

pub AtMost-little-endian : (count : ℕ) → AtMost count (little_endian count)
AtMost-little-endian count = record { bound = λ n fits. omega (arith, length-little-endian count n) }

-- ---- alternatives

at_most_either : (most : ℕ) (t : Bool) (R S : Type 0) (a b : List ℕ) → (R → length a ≤ most) → (S → length b ≤ most) → either_range t R S → length (cond t a b) ≤ most
at_most_either most true R S a b p q fits = p fits
at_most_either most false R S a b p q fits = q fits

pub AtMost-any : {V : Type 0} {most : ℕ} {C : Choice V} → ChoiceAtMost most C → AtMost most (any_of C)
AtMost-any p = record { bound = p.bound }

pub AtMost-or-else : {V : Type 0} {most : ℕ} {F : Format V} → AtMost most F → ChoiceAtMost most (or_else F)
AtMost-or-else p = record { bound = p.bound }

pub AtMost-either : {V : Type 0} {most : ℕ} (wins : V → Bool) {F : Format V} {C : Choice V} → AtMost most F → ChoiceAtMost most C → ChoiceAtMost most (either wins F C)
AtMost-either {V} {most} wins {F} {C} p q = record { bound = λ v. at_most_either most (wins v) (F.InRange v) (C.InRange v) (F.bytes v) (C.bytes v) (p.bound v) (q.bound v) }

-- also the other ways to put a byte before
pub AtMost-after : {V : Type 0} {most : ℕ} (wins : V → Bool) (n : ℕ) {F : Format V} {C : Choice V} → AtMost most F → ChoiceAtMost (suc most) C → ChoiceAtMost (suc most) (after wins n F C)
AtMost-after {V} {most} wins n {F} {C} p q = record { bound = λ v. at_most_either (suc most) (wins v) (F.InRange v) (C.InRange v) (n ∷ F.bytes v) (C.bytes v) (λ fits. omega (arith, p.bound v fits)) (q.bound v) }

pub AtMost-after-long : {V : Type 0} {most : ℕ} (wins : V → Bool) (n : ℕ) {F : Format V} {C : Choice V} → AtMost most F → ChoiceAtMost (suc most) C → ChoiceAtMost (suc most) (after_long wins n F C)
AtMost-after-long {V} {most} wins n {F} {C} p q = record { bound = λ v. at_most_either (suc most) (wins v) (F.InRange v) (C.InRange v) (n ∷ F.bytes v) (C.bytes v) (λ fits. omega (arith, p.bound v fits)) (q.bound v) }
