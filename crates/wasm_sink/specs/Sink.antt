-- The promises of the instruction sink. The sink lends a list of bytes; a clause about that list after an `Err` speaks
-- of the end of the loan.
use Rattle.std.specs.Prelude.{ℕ, Result, List, [], ◌∷◌, ◌≡◌, ◌++◌, ◌+◌, ◌*◌, ◌≤◌, ◌<◌, ◌↔◌, IfOk, IfErr, IsOk, IsErrOf, MatchResult}
use Rattle.std.specs.Borrow.{RestsIfErr, Fml, u8, RattleType}
use Rattle.std.specs.Vec.{vec_len, vec_capacity}
use Rattle.std.specs.contracts.vec.Vec as vec
use Rattle.std.specs.declared.alloc.Allocator.{Ghosts}
use Rattle.wasm_sink.specs.declared.sink.InstructionSink.{InstructionSink}
use Rattle.wasm_instructions.specs.declared.table.opcode.Opcode.{Opcode}
use Rattle.wasm_instructions.specs.declared.table.opcode.Prefix.{Prefix}
use Rattle.wasm_instructions.specs.declared.table.call.Operands.{Operands}
use Rattle.wasm_instructions.specs.formats.Instructions.{Instruction, Instructions, call, instruction, instructions_bytes}
use Rattle.wasm_instructions.specs.Instructions.{IsCounted, HasEncoding, HasNoList}
use Rattle.wasm_instructions.specs.Lengths.{HasNoLongList, IsShortEncoding}
use Rattle.wasm_codec.specs.Encoding.{IsMinimal, IsMinimalOrLonger}
use Rattle.wasm_instructions.specs.Appending.{IsOperandsRefusal, IsCallRefusal, IsCallsRefusal}
use Rattle.wasm_codec.specs.declared.encode.EncodeError.{EncodeError}
use Rattle.wasm_codec.specs.declared.encode.EncodeError.TheVariants as errors

-- The opcode with this prefix byte, or none, and this number.
abbrev pub opcode_of : Prefix → ℕ → Opcode
opcode_of prefix number = record { prefix = prefix; number = number }

-- The written bytes encode the call, and every other encoding of it is longer.
abbrev pub IsMinimalCall : Instruction → Type 0
IsMinimalCall = IsMinimal instruction.Encodes instruction.bytes

module _ {Z : Type 0} where
  -- The bytes in the list behind the sink.
  abbrev pub bytes_behind : InstructionSink Z → List ℕ
  bytes_behind s = s.bytes.now.items

  -- The returned sink writes to the same list.
  abbrev pub IsSameSink : InstructionSink Z → Result (InstructionSink Z) EncodeError → Type 0
  IsSameSink s r = IfOk r (λ t. t.bytes.ghost_name ≡ s.bytes.ghost_name)

  -- The returned sink has the call's minimal encoding at the end of its bytes.
  abbrev pub GoesOn : InstructionSink Z → Instruction → InstructionSink Z → Type 0
  GoesOn s c t = bytes_behind t ≡ bytes_behind s ++ instruction.bytes c

  -- A chain of calls: each starts from the sink that the call before returned, and appends its minimal encoding.
  -- The fact `wrote` of a method or of `write_call` is such a step at `Ok`.
  abbrev pub Chain : InstructionSink Z → List Instruction → InstructionSink Z → Type 0
  Chain s [] t = bytes_behind t ≡ bytes_behind s
  Chain s (c ∷ calls) t = (next : InstructionSink Z) × GoesOn s c next × Chain next calls t

  -- The method appends the minimal encoding of its call, 1 to 20 bytes, or fails with `Memory`.
  abbrev pub Writes : InstructionSink Z → Opcode → Operands → Result (InstructionSink Z) EncodeError → Type 0
  Writes s op operands r = MatchResult r (λ t. GoesOn s (call op operands) t × IsMinimalCall (call op operands) × IsShortEncoding (instruction.bytes (call op operands))) (λ e. e ≡ errors.Memory)

  -- The method appends the minimal encoding of its call, 1 to 20 bytes, or names the reason.
  abbrev pub WritesBytes : InstructionSink Z → Opcode → Operands → Result (InstructionSink Z) EncodeError → Type 0
  WritesBytes s op operands r = MatchResult r (λ t. GoesOn s (call op operands) t × IsMinimalCall (call op operands) × IsShortEncoding (instruction.bytes (call op operands)) × HasEncoding operands) (IsOperandsRefusal operands)

  -- The method appends the call's minimal encoding, or names the reason.
  abbrev pub AppendsCall : InstructionSink Z → Instruction → Result (InstructionSink Z) EncodeError → Type 0
  AppendsCall s c r = MatchResult r (λ t. GoesOn s c t × IsCounted c.operands) (IsCallRefusal c)

  -- The method appends the minimal encodings of all calls, or names the reason.
  abbrev pub AppendsCalls : InstructionSink Z → List Instruction → Result (InstructionSink Z) EncodeError → Type 0
  AppendsCalls s calls r = MatchResult r (λ t. bytes_behind t ≡ bytes_behind s ++ instructions_bytes calls) (IsCallsRefusal calls)

  -- The list has room for 24 more bytes, which any call without a list fits into.
  abbrev pub HasRoom : InstructionSink Z → Type 0
  HasRoom s = vec_len s.bytes.now + 24 ≤ vec_capacity s.bytes.now

  -- The returned sink has room for all calls that this one had room for, but one.
  abbrev pub TakesRoom : InstructionSink Z → Result (InstructionSink Z) EncodeError → Type 0
  TakesRoom s r = IfOk r (λ t. s.calls ≤ t.calls + 1)

  -- The returned sink has the same bytes, and room for so many calls without a list.
  abbrev pub HasRoomFor : InstructionSink Z → ℕ → Result (InstructionSink Z) EncodeError → Type 0
  HasRoomFor s calls r = IfOk r (λ t. (bytes_behind t ≡ bytes_behind s) × (calls ≤ t.calls))

  -- It fails with `Memory`, and only if the list had no room for so many calls.
  abbrev pub LacksRoomFor : InstructionSink Z → ℕ → Result (InstructionSink Z) EncodeError → Type 0
  LacksRoomFor s calls r = IfErr r (λ e. (e ≡ errors.Memory) × (vec_capacity s.bytes.now < vec_len s.bytes.now + 24 * calls))

  -- `with_room`, called on the sink `s`.
  pub record Reserves (s : InstructionSink Z) (calls : ℕ) (r : Result (InstructionSink Z) EncodeError) : Type 0 where
    -- It makes room for so many calls, and leaves the bytes as they were.
    pub room : HasRoomFor s calls r
    -- The returned sink writes to the same list.
    pub same : IsSameSink s r
    -- It fails with `Memory`, and only if the list had no room for so many calls.
    pub err : LacksRoomFor s calls r

  -- A method of an instruction without a memory argument and without a list, called on the sink `s`.
  pub record Emits (s : InstructionSink Z) (op : Opcode) (operands : Operands) (r : Result (InstructionSink Z) EncodeError) : Type 0 where
    -- It appends the minimal encoding of its call, 1 to 20 bytes, or fails with `Memory`.
    pub wrote : Writes s op operands r
    -- The returned sink writes to the same list.
    pub same : IsSameSink s r
    -- It succeeds if the list has room for 24 more bytes, and so if the sink has room for a call.
    pub room : HasRoom s → IsOk r
    -- It takes the room of one call.
    pub takes : TakesRoom s r

  -- A method of an instruction with a memory argument of this alignment, called on the sink `s`.
  pub record EmitsAligned (s : InstructionSink Z) (op : Opcode) (operands : Operands) (align : ℕ) (r : Result (InstructionSink Z) EncodeError) : Type 0 where
    -- It appends the minimal encoding of its call, 1 to 20 bytes, or names the reason.
    pub wrote : WritesBytes s op operands r
    -- The returned sink writes to the same list.
    pub same : IsSameSink s r
    -- It fails with `Alignment` if and only if the alignment is 64 or more.
    pub alignment : IsErrOf r errors.Alignment ↔ 64 ≤ align
    -- It succeeds if the list has room for 24 more bytes and the alignment is below 64.
    pub room : HasRoom s → align < 64 → IsOk r
    -- It takes the room of one call.
    pub takes : TakesRoom s r

  -- `write_call`, called on the sink `s`.
  pub record EmitsCall (s : InstructionSink Z) (c : Instruction) (r : Result (InstructionSink Z) EncodeError) : Type 0 where
    -- It appends the call's minimal encoding, or names the reason.
    pub wrote : AppendsCall s c r
    -- The returned sink writes to the same list.
    pub same : IsSameSink s r
    -- It succeeds if the list has room for 24 more bytes and the call has no list.
    pub room : HasRoom s → HasNoList c.operands → IsOk r
    -- The appended bytes encode the call.
    pub encodes : IfOk r (λ _. instruction.Encodes (instruction.bytes c) c)
    -- A call without a list, or with a list of one type, has 1 to 20 bytes.
    pub length : HasNoLongList c.operands → IsShortEncoding (instruction.bytes c)

  -- `write_calls`, called on the sink `s`.
  pub record EmitsCalls (s : InstructionSink Z) (calls : List Instruction) (r : Result (InstructionSink Z) EncodeError) : Type 0 where
    -- It appends the minimal encodings of all calls, or names the reason.
    pub wrote : AppendsCalls s calls r
    -- The returned sink writes to the same list.
    pub same : IsSameSink s r
    -- After equal bytes, a chain of methods and of `write_call`, one for each call, appends the same bytes.
    pub one_by_one : (start finish : InstructionSink Z) → bytes_behind start ≡ bytes_behind s → Chain start calls finish → IfOk r (λ t. bytes_behind t ≡ bytes_behind finish)
    -- The appended bytes encode the calls.
    pub encodes : IfOk r (λ _. Instructions (instructions_bytes calls) calls)
    -- Every other encoding of the calls is longer than the appended bytes.
    pub minimal : (bytes : List ℕ) → Instructions bytes calls → IsMinimalOrLonger bytes (instructions_bytes calls)

module _ (A : RattleType) (heap : Ghosts A.Denot) where
  -- After an `Err` the list behind the sink is as it was.
  abbrev pub IsUnchangedAtErr : InstructionSink A.Denot → Result (InstructionSink A.Denot) EncodeError → Fml
  IsUnchangedAtErr s r = RestsIfErr (vec.the_row u8 A heap) s.bytes (λ x. x.bytes.ghost_name) r (λ n. n.items ≡ s.bytes.now.items)
