-- Numbers in LEB128: their minimal encodings, and the functions that read them.
use Rattle.std.specs.Prelude.{ℕ, zero, suc, ◌+◌, ◌-◌, ◌%◌, ◌/◌, ◌^◌, Bool, true, false, List, [], ◌∷◌, Option, Some, None, nat_lt, if◌then◌else◌, ℤ, pos, negsuc}
use Rattle.wasm_codec.specs.Reading.{PlainReader, ◌>>=◌}
use Rattle.wasm_codec.specs.formats.Numbers.{unsigned, signed}

-- A digit as it is, or taken from 127: the digits of -1 - n are those of n, each taken from 127.
abbrev pub complemented : Bool → ℕ → ℕ
complemented true digit = 127 - digit
complemented false digit = digit

-- The fewest digits of a number, at most `more + 1`; the last stands for a number below `top`.
unfoldable pub digits_of : Bool → ℕ → ℕ → ℕ → List ℕ
digits_of turn top zero n = complemented turn n ∷ []
digits_of turn top (suc more) n = if nat_lt n top then complemented turn n ∷ [] else (128 + complemented turn (n % 128)) ∷ digits_of turn top more (n / 128)

-- The minimal encoding of an unsigned number in LEB128.
unfoldable pub unsigned_leb128 : ℕ → List ℕ
unsigned_leb128 n = digits_of false 128 9 n

-- The minimal encoding of a signed number in LEB128.
unfoldable pub signed_leb128 : ℤ → List ℕ
signed_leb128 (pos n) = digits_of false 64 9 n
signed_leb128 (negsuc n) = digits_of true 64 9 n

-- ---- reading functions

-- Reads the digits that the bytes begin with.
unfoldable pub digits_at : ℕ → PlainReader (List ℕ)
digits_at zero bytes = None
digits_at (suc most) [] = None
digits_at (suc most) (b ∷ bytes) = if nat_lt b 128 then Some (b ∷ [], bytes) else (do
  more ← digits_at most bytes
  Some (b ∷ more.0, more.1))

-- Reads a number of at most `most` digits.
abbrev pub plain_number_at : {V : Type 0} → ℕ → (List ℕ → Option V) → PlainReader V
plain_number_at most value bytes = do
  digits ← digits_at most bytes
  v ← value digits.0
  Some (v, digits.1)

-- The unsigned value of the digits, if it is below the limit.
abbrev pub below : ℕ → List ℕ → Option ℕ
below limit digits = if nat_lt (unsigned digits) limit then Some (unsigned digits) else None

-- The number is at least -limit and below limit.
abbrev pub is_within : ℕ → ℤ → Bool
is_within limit (pos n) = nat_lt n limit
is_within limit (negsuc n) = nat_lt n limit

-- The signed value of the digits, if it is within the limit.
abbrev pub signed_within : ℕ → List ℕ → Option ℤ
signed_within limit digits = if is_within limit (signed digits) then Some (signed digits) else None

-- The number, if it isn't negative and is below the limit.
abbrev pub index_from : ℕ → ℤ → Option ℕ
index_from limit (pos n) = if nat_lt n limit then Some n else None
index_from limit (negsuc n) = None

-- The signed value of the digits, if it isn't negative and is below the limit.
abbrev pub index_below : ℕ → List ℕ → Option ℕ
index_below limit digits = index_from limit (signed digits)

-- Reads a u32, minimally encoded or not.
unfoldable pub plain_u32_at : PlainReader ℕ
plain_u32_at = plain_number_at 5 (below (2 ^ 32))

-- Reads a u64, minimally encoded or not.
unfoldable pub plain_u64_at : PlainReader ℕ
plain_u64_at = plain_number_at 10 (below (2 ^ 64))

-- Reads an s32, minimally encoded or not.
unfoldable pub plain_s32_at : PlainReader ℤ
plain_s32_at = plain_number_at 5 (signed_within (2 ^ 31))

-- Reads an s64, minimally encoded or not.
unfoldable pub plain_s64_at : PlainReader ℤ
plain_s64_at = plain_number_at 10 (signed_within (2 ^ 63))

-- Reads an index in the place of a negative type code, minimally encoded or not.
unfoldable pub plain_index_at : PlainReader ℕ
plain_index_at = plain_number_at 5 (index_below (2 ^ 32))
