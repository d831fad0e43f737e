-- Bytes that may be the opcode of an instruction that names a data segment.
use Rattle.std.specs.Prelude.{◌≡◌, ℕ, ◌+◌, ◌<◌, ◌≤◌, ◌%◌, ◌==◌, ◌||◌, Bool, false, List, length, get_or, if◌then◌else◌}

-- The two bytes may begin such an instruction: a prefix and the first digit of a number.
abbrev pub may_name_data : ℕ → ℕ → Bool
may_name_data prefix number =
    if prefix == 0xfb then number % 128 == 0x09 || number % 128 == 0x12
    else if prefix == 0xfc then number % 128 == 0x08 || number % 128 == 0x09
    else false

-- Such an opcode begins at none of the bytes but the last `ahead`.
abbrev pub Clear : ℕ → List ℕ → Type 0
Clear ahead bytes = (k : ℕ) → k + ahead < length bytes → k + 1 < length bytes → may_name_data (get_or bytes k 0) (get_or bytes (k + 1) 0) ≡ false

-- Such an opcode begins at none of the places from `from` and before `to`.
abbrev pub ClearWithin : List ℕ → ℕ → ℕ → Type 0
ClearWithin bytes from to = (k : ℕ) → from ≤ k → k < to → k + 1 < length bytes → may_name_data (get_or bytes k 0) (get_or bytes (k + 1) 0) ≡ false

-- No byte is such a prefix.
abbrev pub HasNoPrefix : List ℕ → Type 0
HasNoPrefix bytes = (k : ℕ) → k < length bytes → (get_or bytes k 0 ≡ 0xfb → ⊥) × (get_or bytes k 0 ≡ 0xfc → ⊥)
