-- A number in eight bytes, the least first, is read as its low half and its high half.
use Rattle.std.proofs.Common.{◌≡◌, ℕ, zero, suc, ◌+◌, ◌*◌, ◌^◌, Option, Some, None, refl, ap, arith}
use Rattle.wasm_codec.specs.Reading.{◌>>=◌}
use Rattle.wasm_codec.specs.Places.{Place, Reader, byte_at}
use Rattle.wasm_codec.specs.formats.Combinators.{with_low, little_endian}

abbrev behind : ℕ → ℕ × Place → Option ((ℕ × ℕ) × Place)
behind b high = Some ((b, high.0), high.1)

abbrev paired : ℕ → Option (ℕ × Place) → Option ((ℕ × ℕ) × Place)
paired b read = read >>= behind b

abbrev number_of : Option ((ℕ × ℕ) × Place) → Option (ℕ × Place)
number_of read = read >>= λ p. Some (with_low p.0, p.1)

-- a byte was read or none, and then the others are read
abbrev with_more : Reader ℕ → Option (ℕ × Place) → Option (ℕ × Place)
with_more more first = number_of (first >>= λ b. paired b.0 (more b.1))

-- the low bytes were read or not, and then the high ones are read
abbrev with_high : ℕ → Reader ℕ → Option (ℕ × Place) → Option (ℕ × Place)
with_high m more read = read >>= λ low. more low.1 >>= λ high. Some (low.0 + 256 ^ m * high.0, high.1)

no_low_bytes : (read : Option (ℕ × Place)) → read ≡ (read >>= λ high. Some (0 + 1 * high.0, high.1))
no_low_bytes None = refl
no_low_bytes (Some high) = let e : high.0 ≡ 0 + 1 * high.0 = omega arith in ap (λ (k : ℕ). Some (k, high.1)) e

regrouped : (m b low : ℕ) (read : Option (ℕ × Place)) → number_of (paired b (read >>= λ high. Some (low + 256 ^ m * high.0, high.1))) ≡ (read >>= λ high. Some (with_low (b, low) + 256 ^ suc m * high.0, high.1))
regrouped m b low None = refl
regrouped m b low (Some high) =
    let p : 256 ^ suc m ≡ 256 * 256 ^ m = omega arith in
    let e : b + 256 * (low + 256 ^ m * high.0) ≡ (b + 256 * low) + 256 ^ suc m * high.0 = rw p (omega arith) in
    ap (λ (k : ℕ). Some (k, high.1)) e

one_more : (m b : ℕ) (more : Reader ℕ) (read : Option (ℕ × Place)) → number_of (paired b (with_high m more read)) ≡ with_high (suc m) more (number_of (paired b read))
one_more m b more None = refl
one_more m b more (Some low) = regrouped m b low.0 (more low.1)

behind_byte : (m : ℕ) (all low high : Reader ℕ) → ((p : Place) → all p ≡ with_high m high (low p)) → (first : Option (ℕ × Place)) → with_more all first ≡ with_high (suc m) high (with_more low first)
behind_byte m all low high e None = refl
behind_byte m all low high e (Some b) = rw (e b.1) (one_more m b.0 high (low b.1))

abbrev more_by : ℕ → ℕ → ℕ
more_by zero n = n
more_by (suc m) n = suc (more_by m n)

read_in_parts : (m n : ℕ) (p : Place) → (little_endian (more_by m n)).at p ≡ with_high m (little_endian n).at ((little_endian m).at p)
unfolding little_endian
read_in_parts zero n p = no_low_bytes ((little_endian n).at p)
read_in_parts (suc m) n p = behind_byte m (little_endian (more_by m n)).at (little_endian m).at (little_endian n).at (λ q. read_in_parts m n q) (byte_at p)

pub both_halves : (p q r : Place) (low high : ℕ) → (little_endian 4).at p ≡ Some (low, q) → (little_endian 4).at q ≡ Some (high, r) → (little_endian 8).at p ≡ Some (low + 2 ^ 32 * high, r)
both_halves p q r low high e f = rw (read_in_parts 4 4 p, e, f) refl

pub no_low_half : (p : Place) → (little_endian 4).at p ≡ None → (little_endian 8).at p ≡ None
no_low_half p e = rw (read_in_parts 4 4 p, e) refl

pub no_high_half : (p q : Place) (low : ℕ) → (little_endian 4).at p ≡ Some (low, q) → (little_endian 4).at q ≡ None → (little_endian 8).at p ≡ None
no_high_half p q low e f = rw (read_in_parts 4 4 p, e, f) refl
