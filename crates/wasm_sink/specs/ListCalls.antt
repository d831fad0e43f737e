-- The promises of the sink's methods that take a list.
use Rattle.std.specs.Prelude.{ℕ, ◌^◌, ◌<◌, List, length, Option, Result, IfOk, IfErr, MatchResult}
use Rattle.std.specs.Iterator.{Drains}
use Rattle.std.proofs.lemmas.Iterator.{YieldsList}
use Rattle.wasm_sink.specs.declared.sink.InstructionSink.{InstructionSink}
use Rattle.wasm_instructions.specs.declared.table.opcode.Opcode.{Opcode}
use Rattle.wasm_instructions.specs.declared.table.call.Operands.{Operands}
use Rattle.wasm_codec.specs.declared.encode.EncodeError.{EncodeError}
use Rattle.wasm_instructions.specs.formats.Instructions.{call}
use Rattle.wasm_instructions.specs.Appending.{IsRefusedList}
use Rattle.wasm_sink.specs.Sink.{GoesOn, IsMinimalCall, IsSameSink}

module _ {S A : Type 0} (gives : S → Option A → S → Type 0) where
  -- The method appends the minimal encoding of its call with the list that the iterator gives.
  abbrev pub WritesItems : {Z : Type 0} → InstructionSink Z → Opcode → (List A → Operands) → S → Result (InstructionSink Z) EncodeError → Type 0
  WritesItems s op operands items r = IfOk r (λ t. (xs : List A) × Drains gives items xs × GoesOn s (call op (operands xs)) t × IsMinimalCall (call op (operands xs)) × (length xs < 2 ^ 32))

  -- The iterator gives these items until it ends, whenever it is asked.
  abbrev pub GivesItems : S → List A → Type 0
  GivesItems items xs = YieldsList gives (λ x. x) items xs

  -- If the iterator is known to give these items, the method appends the call with them.
  abbrev pub WritesGiven : {Z : Type 0} → InstructionSink Z → Opcode → (List A → Operands) → S → Result (InstructionSink Z) EncodeError → Type 0
  WritesGiven s op operands items r = (xs : List A) → GivesItems items xs → IfOk r (λ t. GoesOn s (call op (operands xs)) t)

  -- A method of an instruction with a list, called on the sink `s`; an iterator with this length gives the list.
  pub record EmitsItems {Z : Type 0} (s : InstructionSink Z) (op : Opcode) (operands : List A → Operands) (items : S) (len : ℕ) (r : Result (InstructionSink Z) EncodeError) : Type 0 where
    -- It appends the minimal encoding of its call with the items that the iterator gives until it ends.
    pub wrote : WritesItems s op operands items r
    -- If it is known what the iterator gives, the call has these items.
    pub stands : WritesGiven s op operands items r
    -- The returned sink writes to the same list.
    pub same : IsSameSink s r
    -- It fails with `Memory`, or with `TooLong` if the list is too long.
    pub err : IfErr r (IsRefusedList len)

module _ {Z : Type 0} where
  -- The method appends the minimal encoding of its call with a list of this length, or names the reason.
  abbrev pub WritesList : InstructionSink Z → Opcode → Operands → ℕ → Result (InstructionSink Z) EncodeError → Type 0
  WritesList s op operands count r = MatchResult r (λ t. GoesOn s (call op operands) t × IsMinimalCall (call op operands) × (count < 2 ^ 32)) (IsRefusedList count)

  -- A method of an instruction with a list of this length, called on the sink `s`.
  pub record EmitsList (s : InstructionSink Z) (op : Opcode) (operands : Operands) (count : ℕ) (r : Result (InstructionSink Z) EncodeError) : Type 0 where
    -- It appends the minimal encoding of its call, or names the reason.
    pub wrote : WritesList s op operands count r
    -- The returned sink writes to the same list.
    pub same : IsSameSink s r
