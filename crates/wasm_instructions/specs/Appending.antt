-- The bytes that instructions append, and the reasons why one is refused.
use Rattle.std.specs.Prelude.{◌≡◌, ℕ, ◌^◌, ◌<◌, ◌≤◌, ◌++◌, List, [], length, Option, Some, None}
use Rattle.std.specs.List.{AllByRecursion, flat_map}
use Rattle.std.specs.Iterator.{Drains}
use Rattle.wasm_codec.specs.declared.encode.EncodeError.{EncodeError}
use Rattle.wasm_codec.specs.declared.encode.EncodeError.TheVariants as errors
use Rattle.wasm_instructions.specs.declared.table.opcode.Opcode.{Opcode}
use Rattle.wasm_instructions.specs.declared.table.call.Operands.{Operands}
use Rattle.wasm_instructions.specs.declared.appenders.lists.Before.{Before}
use Rattle.wasm_instructions.specs.declared.appenders.lists.Before.TheVariants as parts
use Rattle.wasm_instructions.specs.formats.Instructions.{Instruction, opcode}
use Rattle.wasm_instructions.specs.Instructions.{IsAligned, IsCounted}
use Rattle.wasm_instructions.specs.formats.Operands.{block_type}
use Rattle.wasm_codec.specs.Leb128.{unsigned_leb128}

-- Memory ran out, an alignment is 64 or more, or a list is too long.
abbrev pub IsOperandsRefusal : Operands → EncodeError → Type 0
IsOperandsRefusal o errors.Memory = Unit {0}
IsOperandsRefusal o errors.Alignment = IsAligned o → ⊥
IsOperandsRefusal o errors.TooLong = IsCounted o → ⊥
IsOperandsRefusal o errors.SymbolFlags = ⊥

-- A u32 counts the items of the call's list.
abbrev pub CountedCall : Instruction → Type 0
CountedCall c = IsCounted c.operands

-- Memory ran out, or the call's list is too long; `Alignment` never occurs.
abbrev pub IsCallRefusal : Instruction → EncodeError → Type 0
IsCallRefusal c errors.Memory = Unit {0}
IsCallRefusal c errors.Alignment = ⊥
IsCallRefusal c errors.TooLong = IsCounted c.operands → ⊥
IsCallRefusal c errors.SymbolFlags = ⊥

-- Memory ran out, or a list in one of the calls is too long; `Alignment` never occurs.
abbrev pub IsCallsRefusal : List Instruction → EncodeError → Type 0
IsCallsRefusal calls errors.Memory = Unit {0}
IsCallsRefusal calls errors.Alignment = ⊥
IsCallsRefusal calls errors.TooLong = AllByRecursion (λ c. IsCounted c.operands) calls → ⊥
IsCallsRefusal calls errors.SymbolFlags = ⊥

-- The bytes before a list.
unfoldable pub before_bytes : Before → List ℕ
before_bytes parts.Nothing = []
before_bytes (parts.Block ty) = block_type.bytes ty
before_bytes (parts.Index index) = unsigned_leb128 index
before_bytes (parts.TwoIndexes first second) = unsigned_leb128 first ++ unsigned_leb128 second

-- The bytes after a list: an index, or nothing.
unfoldable pub after_bytes : Option ℕ → List ℕ
after_bytes None = []
after_bytes (Some index) = unsigned_leb128 index

-- The bytes of an instruction with a list.
abbrev pub list_bytes : Opcode → Before → List ℕ → Option ℕ → List ℕ
list_bytes op before list after = opcode.bytes op ++ (before_bytes before ++ (list ++ after_bytes after))

-- Memory ran out, or the list has more items than a u32 counts.
abbrev pub IsRefusedList : ℕ → EncodeError → Type 0
IsRefusedList count errors.Memory = Unit {0}
IsRefusedList count errors.TooLong = 2 ^ 32 ≤ count
IsRefusedList count errors.Alignment = ⊥
IsRefusedList count errors.SymbolFlags = ⊥

module _ {S A : Type 0} (gives : S → Option A → S → Type 0) (InRange : A → Type 0) where
  -- The call appends the list that the iterator gives; a u32 counts its items, and its numbers are in range.
  unfoldable pub AppendsAll : S → (List A → List ℕ) → List ℕ → List ℕ → Type 0
  AppendsAll items encoding old new = (xs : List A) × Drains gives items xs × (new ≡ old ++ encoding xs) × (length xs < 2 ^ 32) × AllByRecursion InRange xs

  -- The call appends each item that the iterator gives and returns their number; numbers in them are in range.
  abbrev pub PutsItems : S → (A → List ℕ) → List ℕ → List ℕ → ℕ → Type 0
  PutsItems items encoding old new count = (xs : List A) × Drains gives items xs × (new ≡ old ++ flat_map encoding xs) × (count ≡ length xs) × AllByRecursion InRange xs
