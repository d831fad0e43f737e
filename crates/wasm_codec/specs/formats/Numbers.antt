-- Numbers in LEB128: digits of seven bits, the least first (WebAssembly Core 3.0, Integers).
use Rattle.std.specs.Prelude.{◌≡◌, ℕ, ◌+◌, ◌*◌, ◌%◌, ◌^◌, ◌<◌, ◌≤◌, List, [], ◌∷◌, length, nat_lt, if◌then◌else◌, ℤ, pos, negsuc, ◌-ℤ◌}
use Rattle.wasm_codec.specs.formats.Grammar.{Grammar}

-- One or more bytes: all but the last are 0x80 or more, the last is below 0x80.
abbrev pub IsDigits : List ℕ → Type 0
IsDigits [] = ⊥
IsDigits (b ∷ []) = b < 128
IsDigits (b ∷ c ∷ bytes) = (128 ≤ b) × (b < 256) × IsDigits (c ∷ bytes)

-- The sum of each byte's low seven bits times its power of 128.
abbrev pub unsigned : List ℕ → ℕ
unsigned [] = 0
unsigned (b ∷ bytes) = b % 128 + 128 * unsigned bytes

-- The last byte, or 0 if there is none.
abbrev pub last : List ℕ → ℕ
last [] = 0
last (b ∷ []) = b
last (b ∷ c ∷ bytes) = last (c ∷ bytes)

-- The unsigned value, less 128 to the number of digits if the last byte is 0x40 or more.
abbrev pub signed : List ℕ → ℤ
signed digits = if nat_lt (last digits) 64 then pos (unsigned digits) else pos (unsigned digits) -ℤ pos (128 ^ length digits)

-- A number in at most `most` bytes, with the value that `Means` says.
abbrev pub Number : {V : Type 0} → ℕ → (List ℕ → V → Type 0) → Grammar V
Number most Means bytes v = IsDigits bytes × (length bytes ≤ most) × Means bytes v

-- An unsigned number below the limit.
abbrev pub Below : ℕ → List ℕ → ℕ → Type 0
Below limit digits n = (unsigned digits ≡ n) × (n < limit)

-- A number from -limit up to below limit.
abbrev pub Within : ℕ → ℤ → Type 0
Within limit (pos n) = n < limit
Within limit (negsuc n) = n < limit

-- A signed number from -limit up to below limit.
abbrev pub SignedWithin : ℕ → List ℕ → ℤ → Type 0
SignedWithin limit digits z = (signed digits ≡ z) × Within limit z

-- A signed number that isn't negative and is below the limit.
abbrev pub IndexBelow : ℕ → List ℕ → ℕ → Type 0
IndexBelow limit digits n = (signed digits ≡ pos n) × (n < limit)

-- ---- the five widths

-- The bytes encode this u32.
unfoldable pub EncodesU32 : Grammar ℕ
EncodesU32 = Number 5 (Below (2 ^ 32))

-- The bytes encode this u64.
unfoldable pub EncodesU64 : Grammar ℕ
EncodesU64 = Number 10 (Below (2 ^ 64))

-- The bytes encode this s32.
unfoldable pub EncodesS32 : Grammar ℤ
EncodesS32 = Number 5 (SignedWithin (2 ^ 31))

-- The bytes encode this s64.
unfoldable pub EncodesS64 : Grammar ℤ
EncodesS64 = Number 10 (SignedWithin (2 ^ 63))

-- The bytes encode this index in the place of a negative type code: an s33 that isn't negative.
unfoldable pub EncodesIndex : Grammar ℕ
EncodesIndex = Number 5 (IndexBelow (2 ^ 32))
