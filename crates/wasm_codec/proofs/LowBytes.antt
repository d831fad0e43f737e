-- Bytes below 128, which are tested eight at a time.
use Rattle.std.proofs.Common.{◌≡◌, ℕ, ◌+◌, ◌*◌, ◌^◌, ◌<◌, ◌≤◌, List, [], ◌∷◌, length, get_or, take, bit_and, ap, ◌∙◌, arith}
use Rattle.std.proofs.lemmas.Nat.{and_block}
use Rattle.std.proofs.lemmas.Nat.Bits.{and_pow}
use Rattle.wasm_codec.specs.formats.Grammar.{IsBytes}
use Rattle.wasm_codec.specs.Scanning.{AreLow}
use Rattle.wasm_codec.proofs.RawFormatLaws.{IsBytes-take}

-- the number that these bytes are, the least first
abbrev number_of : List ℕ → ℕ
number_of [] = 0
number_of (b ∷ bytes) = number_of bytes * 2 ^ 8 + b

-- the high bit of each of as many bytes
abbrev high_bits : List ℕ → ℕ
high_bits [] = 0
high_bits (b ∷ bytes) = high_bits bytes * 2 ^ 8 + 128

low_byte : (b : ℕ) → b < 256 → bit_and b 128 ≡ 0 → b < 128
low_byte b lt none = omega (arith, and_pow b 7, none)

-- where no high bit is set, each byte is below 128
pub low_without_bits : (bytes : List ℕ) → IsBytes bytes → bit_and (number_of bytes) (high_bits bytes) ≡ 0 → AreLow bytes
low_without_bits [] fits none = tt
low_without_bits (b ∷ bytes) fits none =
    let split = and_block 8 (number_of bytes) (high_bits bytes) b 128 fits.0 (omega arith) in
    let low : bit_and b 128 ≡ 0 = omega (arith, split, none) in
    let high : bit_and (number_of bytes) (high_bits bytes) ≡ 0 = omega (arith, split, none) in
    (low_byte b fits.0 low, low_without_bits bytes fits.1 high)

-- so where eight of them are one number
pub low_word : (bytes : List ℕ) (word : ℕ) → IsBytes bytes → 8 ≤ length bytes
    → word ≡ get_or bytes 0 0 + get_or bytes 1 0 * 256 + get_or bytes 2 0 * 65536 + get_or bytes 3 0 * 16777216 + get_or bytes 4 0 * 4294967296 + get_or bytes 5 0 * 1099511627776 + get_or bytes 6 0 * 281474976710656 + get_or bytes 7 0 * 72057594037927936
    → bit_and word 0x8080808080808080 ≡ 0 → AreLow (take 8 bytes)
low_word (a ∷ b ∷ c ∷ d ∷ e ∷ f ∷ g ∷ h ∷ bytes) word fits some is none =
    let eight = a ∷ b ∷ c ∷ d ∷ e ∷ f ∷ g ∷ h ∷ [] in
    let same : number_of eight ≡ word = omega (arith, is) in
    low_without_bits eight (IsBytes-take (a ∷ b ∷ c ∷ d ∷ e ∷ f ∷ g ∷ h ∷ bytes) 8 fits) (ap (λ (n : ℕ). bit_and n 0x8080808080808080) same ∙ none)
low_word bytes word fits some is none = absurd (omega arith)
