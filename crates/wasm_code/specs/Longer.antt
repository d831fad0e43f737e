-- Modules that are rewritten in place and checked.
use Rattle.std.specs.Prelude.{◌≡◌, ℕ, ◌≤◌, ◌-◌, Option, Some, None, IfSome, Result, Ok, Err}
use Rattle.wasm_codec.specs.Outcomes.{read_error_of}
use Rattle.wasm_codec.specs.declared.reader.DecodeError.{DecodeError}
use Rattle.wasm_codec.specs.declared.reader.ReadError.{ReadError}
use Rattle.wasm_codec.specs.declared.reader.ReadError.TheVariants as errors
use Rattle.wasm_codec.specs.declared.reader.refusal.Refusal.{Refusal}
use Rattle.wasm_lists.specs.declared.longer.LongerItem.{LongerItem}
use Rattle.wasm_code.specs.declared.longer.CheckedInPlace.{CheckedInPlace}

-- The result of the rewriting alone.
abbrev pub len_of : Result CheckedInPlace DecodeError → Result ℕ ReadError
len_of (Ok checked) = Ok checked.len
len_of (Err e) = Err (read_error_of e)

-- The result that a check of the module would have returned.
abbrev pub verdict_of : Option Refusal → Result (Unit {0}) ReadError
verdict_of None = Ok tt
verdict_of (Some refusal) = Err (errors.Refused refusal.at)

-- The result that it would have returned for a module of this length, by its first section that isn't minimal, if any.
abbrev pub verdict_at : ℕ → Option LongerItem → Result (Unit {0}) ReadError
verdict_at len None = Ok tt
verdict_at len (Some section) = Err (errors.Refused (len - section.left))

-- The reason is given for bytes in the part that is refused, which lies in an input of this length.
abbrev pub RefusalLiesIn : ℕ → Refusal → Type 0
RefusalLiesIn len refusal = (refusal.at ≤ refusal.offset) × (refusal.offset ≤ len)

-- The refusal is that of a part in this section, which isn't minimally encoded, of a module of this length.
abbrev pub IsLongerAt : ℕ → Option LongerItem → Refusal → Type 0
IsLongerAt len None refusal = ⊥
IsLongerAt len (Some item) refusal = (refusal.at ≡ len - item.left) × IfSome refusal.section (λ place. place.number ≡ item.passed)
