-- Digits of a number, as the code holds them while it reads.
use Rattle.std.specs.Prelude.{◌≡◌, ℕ, ◌*◌, ◌<◌, ◌≤◌, ◌^◌, Bool, ◌||◌, ◌==◌, nat_le, List, ◌∷◌, length, Option, Some, None, Result, Ok, Err}
use Rattle.wasm_codec.specs.declared.reader.cursor.Fault.{Fault}
use Rattle.wasm_codec.specs.declared.reader.cursor.Fault.TheVariants as faults
use Rattle.wasm_codec.specs.Leb128.{digits_at}
use Rattle.wasm_codec.specs.formats.Numbers.{unsigned, last}
use Rattle.wasm_codec.specs.declared.reader.cursor.Digits.{Digits}
use Rattle.wasm_codec.specs.declared.reader.cursor.ManyDigits.{ManyDigits}
use Rattle.wasm_codec.specs.Places.{Place, place}

-- Digits were read: `n` is their unsigned value, `unit` is 128 to their number, and `end` is the last.
pub record Read (most : ℕ) (old new : Place) (n unit end : ℕ) : Type 0 where
  pub digits : List ℕ
  pub reads : digits_at most old.left ≡ Some (digits, new.left)
  pub keeps : new.minimal ≡ old.minimal
  pub short : length digits ≤ most
  pub value_is : n ≡ unsigned digits
  pub unit_is : unit ≡ 128 ^ length digits
  pub end_is : end ≡ last digits
  pub some : 128 ≤ unit
  pub below : n < unit
  pub low : end < 64 → n * 2 < unit
  pub high : 64 ≤ end → unit ≤ n * 2

-- The call reads at most `most` digits, or fails with `Malformed`.
abbrev pub ReadsDigits : ℕ → Place → Place → Result Digits Fault → Type 0
ReadsDigits most old new (Ok d) = Read most old new d.unsigned d.unit d.last
ReadsDigits most old new (Err (faults.Malformed m)) = digits_at most old.left ≡ None
ReadsDigits most old new (Err faults.Memory) = Unit {0}

-- The call reads at most `most` digits, ten at the most, or fails with `Malformed`.
abbrev pub ReadsManyDigits : ℕ → Place → Place → Result ManyDigits Fault → Type 0
ReadsManyDigits most old new (Ok d) = Read most old new d.unsigned d.unit d.last
ReadsManyDigits most old new (Err (faults.Malformed m)) = digits_at most old.left ≡ None
ReadsManyDigits most old new (Err faults.Memory) = Unit {0}

-- The call reads a number of one byte, or it reads nothing.
abbrev pub ReadsOne : Place → Place → Option ℕ → Type 0
ReadsOne old new (Some b) = (b < 128) × (old ≡ place new.minimal (b ∷ new.left))
ReadsOne old new None = new ≡ old

-- Fewer digits wouldn't do: the last stands for a number below `top`, and `unit` is 128 to their number.
abbrev pub fewest : ℕ → ℕ → ℕ → Bool
fewest top unit value = unit == 128 || nat_le (top * unit) (value * 16384)
