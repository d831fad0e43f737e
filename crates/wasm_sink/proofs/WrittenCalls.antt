-- The bytes of a call whose opcode is in the table, and the list that an iterator gives.
use Rattle.std.proofs.Common.{rules, ◌≡◌, ◌<◌, ◌≤◌, ◌+◌, ℕ, List, Option, ◌++◌, Some, Ok, refl, sym, ap, append_assoc, ◌∙◌}
use mathlib.Core.List.{map-id}
use Rattle.std.specs.Iterator.{Drains}
use Rattle.std.proofs.lemmas.Iterator.{items_from_drains}
use Rattle.wasm_instructions.specs.declared.table.opcode.Prefix.{Prefix}
use Rattle.wasm_instructions.specs.declared.table.opcode.Opcode.{Opcode}
use Rattle.wasm_instructions.specs.declared.table.opcode.Kind.{Kind}
use Rattle.wasm_instructions.specs.declared.table.call.Operands.{Operands}
use Rattle.wasm_instructions.specs.formats.Opcodes.{opcode_kind}
use Rattle.wasm_instructions.specs.Instructions.{NumbersInRange, HasEncoding, IsCall, IsCounted, IsShort, ItemsInRange, kind_of}
use Rattle.wasm_instructions.specs.formats.Instructions.{call, instruction, opcode, operands_format}
use Rattle.wasm_instructions.proofs.InstructionFormatLaws.{Lawful-instruction}
use Rattle.wasm_instructions.proofs.OpcodeLaws.{in_table_short}
use Rattle.wasm_instructions.specs.Lengths.{HasNoLongList, IsShortEncoding}
use Rattle.wasm_instructions.proofs.CallRanges.{call_in_range}
use Rattle.wasm_instructions.proofs.InstructionLengths.{in_table_low}
use Rattle.wasm_instructions.proofs.InstructionLengths as lengths
use Rattle.wasm_sink.specs.declared.sink.InstructionSink.{InstructionSink}
use Rattle.wasm_sink.specs.Sink.{opcode_of, bytes_behind, Emits, EmitsAligned, GoesOn}
use Rattle.wasm_sink.specs.ListCalls.{GivesItems}
use Rattle.wasm_codec.specs.Encoding.{IsMinimal}
use Rattle.wasm_codec.proofs.NumberLaws.{written}

-- its opcode is short
pub short_opcode : (prefix : Prefix) (number : ℕ) (k : Kind) → opcode_kind (opcode_of prefix number) ≡ Some k → IsShort (opcode_of prefix number)
short_opcode prefix number k is = in_table_short (opcode_of prefix number) k is

-- its bytes are its minimal encoding
pub minimal_call : (op : Opcode) (o : Operands) → IsCall op o → NumbersInRange o → ItemsInRange o → IsCounted o → IsMinimal instruction.Encodes instruction.bytes (call op o)
minimal_call op o is fits in_lists counted = written Lawful-instruction.minimal (call op o) (call_in_range op o is fits in_lists counted)

-- without a long list it has at most 20 bytes
pub short_call : (op : Opcode) (o : Operands) → IsCall op o → NumbersInRange o → ItemsInRange o → HasNoLongList o → IsShortEncoding (instruction.bytes (call op o))
short_call op o is fits in_lists no_list = lengths.short_call op o (in_table_short op (kind_of o) is) (in_table_low op (kind_of o) is) fits in_lists no_list

-- bytes that are appended in two steps
pub then_put : (old mid new first second : List ℕ) → mid ≡ old ++ first → new ≡ mid ++ second → new ≡ old ++ (first ++ second)
then_put old mid new first second one two = two ∙ ap (λ (k : List ℕ). k ++ second) one ∙ append_assoc old first second

-- what was appended of a call: its opcode, and then its operands
whole : {Z : Type 0} (s t : InstructionSink Z) (written op : Opcode) (o : Operands) (mid : List ℕ) → written ≡ op → mid ≡ bytes_behind s ++ opcode.bytes written → bytes_behind t ≡ mid ++ (operands_format (kind_of o)).bytes o → GoesOn s (call op o) t
unfolding instruction
whole s t written op o mid same one two = then_put (bytes_behind s) mid (bytes_behind t) (opcode.bytes op) ((operands_format (kind_of o)).bytes o) (one ∙ ap (λ (k : Opcode). bytes_behind s ++ opcode.bytes k) same) two

-- what an emitter promises after it wrote an opcode and operands without a list
pub emitted : {Z : Type 0} (s t : InstructionSink Z) (written op : Opcode) (o : Operands) (mid : List ℕ) → IsCall op o → written ≡ op → mid ≡ bytes_behind s ++ opcode.bytes written → bytes_behind t ≡ mid ++ (operands_format (kind_of o)).bytes o → t.bytes.ghost_name ≡ s.bytes.ghost_name → NumbersInRange o → ItemsInRange o → IsCounted o → HasNoLongList o → s.calls ≤ t.calls + 1 → Emits s op o (Ok t)
emitted s t written op o mid is opcode_is one two same fits in_lists counted no_list takes = record { wrote = (whole s t written op o mid opcode_is one two, minimal_call op o is fits in_lists counted, short_call op o is fits in_lists no_list); same = same; room = λ has. refl; takes = takes }

-- the same of a call with a memory argument of this alignment
pub emitted_aligned : {Z : Type 0} (s t : InstructionSink Z) (written op : Opcode) (o : Operands) (align : ℕ) (mid : List ℕ) → IsCall op o → written ≡ op → mid ≡ bytes_behind s ++ opcode.bytes written → bytes_behind t ≡ mid ++ (operands_format (kind_of o)).bytes o → t.bytes.ghost_name ≡ s.bytes.ghost_name → NumbersInRange o → ItemsInRange o → HasEncoding o → HasNoLongList o → align < 64 → s.calls ≤ t.calls + 1 → EmitsAligned s op o align (Ok t)
emitted_aligned s t written op o align mid is opcode_is one two same fits in_lists has no_list below takes = record { wrote = (whole s t written op o mid opcode_is one two, minimal_call op o is fits in_lists has.1, short_call op o is fits in_lists no_list, has); same = same; alignment = search (rules); room = λ has_room aligned. refl; takes = takes }

-- the list drained until the end is the one that the iterator is known to give
pub given : {S A : Type 0} (gives : S → Option A → S → Type 0) (s : S) (xs all : List A) → Drains gives s xs → GivesItems gives s all → xs ≡ all
given gives s xs all drains yields = sym (map-id xs) ∙ items_from_drains xs (drains.1.0, drains.1.1, λ w. (drains.0, drains.1.2)) yields
