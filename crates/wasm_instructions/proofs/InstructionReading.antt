-- An instruction is its opcode, then operands of the opcode's kind.
use Rattle.std.proofs.Common.{◌≡◌, ℕ, ℤ, Some, Ok, Err, Result, refl, sym, arith}
use Rattle.std.proofs.lemmas.Bool.{ne_eqb}
use Rattle.wasm_codec.specs.declared.reader.cursor.Fault.{Fault}
use Rattle.wasm_codec.specs.declared.reader.cursor.Fault.TheVariants as faults
use Rattle.wasm_codec.specs.Places.{Place, Reader, Reads, map_at, byte_at, u32_at, s32_at}
use Rattle.wasm_codec.specs.Reading.{map_ok}
use Rattle.wasm_instructions.specs.declared.operands.memory.MemArg.{MemArg}
use Rattle.wasm_instructions.specs.declared.table.call.Operands.{Operands}
use Rattle.wasm_instructions.specs.declared.table.call.Operands.TheVariants as operands
use Rattle.wasm_instructions.specs.declared.table.opcode.Kind.{Kind}
use Rattle.wasm_instructions.specs.declared.table.opcode.Kind.TheVariants as kinds
use Rattle.wasm_instructions.specs.declared.table.opcode.Opcode.{Opcode}
use Rattle.wasm_instructions.specs.formats.Instructions.{instruction, instruction_of, opcode, operands_format}
use Rattle.wasm_instructions.specs.formats.Opcodes.{opcode_kind, without_prefix}
use Rattle.wasm_instructions.specs.formats.Operands.{mem_arg}
use Rattle.wasm_instructions.proofs.ScannedCalls.{no_prefix}

-- an opcode, then what is read for operands of its kind
read_after : {V : Type 0} (op : Opcode) (kind : Kind) (read : Reader V) (make : V → Operands) (old mid new : Place) (result : Result V Fault) → opcode.at old ≡ Some (op, mid) → Some kind ≡ opcode_kind op → (operands_format kind).at mid ≡ map_at make read mid → Reads read mid new result
    → Reads instruction.at old new (map_ok (λ v. instruction_of (op, make v)) result)
unfolding instruction
read_after op kind read make old mid new (Ok v) first is at e = rw (first, ← is, at, e) refl
read_after op kind read make old mid new (Err (faults.Malformed m)) first is at e = rw (first, ← is, at, e) refl
read_after op kind read make old mid new (Err faults.Memory) first is at e = tt

pub nothing_read : (op : Opcode) (kind : Kind) (old mid : Place) → opcode.at old ≡ Some (op, mid) → Some kind ≡ opcode_kind op → kind ≡ kinds.None → instruction.at old ≡ Some (instruction_of (op, operands.None), mid)
unfolding instruction operands_format
nothing_read op kind old mid first is known = rw (first, ← is, known) refl

pub index_read : (op : Opcode) (kind : Kind) (old mid new : Place) (result : Result ℕ Fault) → opcode.at old ≡ Some (op, mid) → Some kind ≡ opcode_kind op → kind ≡ kinds.Index → Reads u32_at mid new result → Reads instruction.at old new (map_ok (λ v. instruction_of (op, operands.Index v)) result)
unfolding operands_format
index_read op kind old mid new result first is known e = read_after op kind u32_at operands.Index old mid new result first is (rw known refl) e

pub mem_read : (op : Opcode) (kind : Kind) (old mid new : Place) (result : Result MemArg Fault) → opcode.at old ≡ Some (op, mid) → Some kind ≡ opcode_kind op → kind ≡ kinds.Mem → Reads mem_arg.at mid new result → Reads instruction.at old new (map_ok (λ v. instruction_of (op, operands.Mem v)) result)
unfolding operands_format
mem_read op kind old mid new result first is known e = read_after op kind mem_arg.at operands.Mem old mid new result first is (rw known refl) e

pub int_read : (op : Opcode) (kind : Kind) (old mid new : Place) (result : Result ℤ Fault) → opcode.at old ≡ Some (op, mid) → Some kind ≡ opcode_kind op → kind ≡ kinds.I32 → Reads s32_at mid new result → Reads instruction.at old new (map_ok (λ v. instruction_of (op, operands.I32 v)) result)
unfolding operands_format
int_read op kind old mid new result first is known e = read_after op kind s32_at operands.I32 old mid new result first is (rw known refl) e

-- ---- instructions without a prefix

unprefixed : (b : ℕ) (kind : Kind) (old mid : Place) → byte_at old ≡ Some (b, mid) → Some kind ≡ opcode_kind (without_prefix b) → opcode.at old ≡ Some (without_prefix b, mid)
unfolding opcode
unprefixed b kind old mid e is =
    let lt = no_prefix b kind (sym is) in
    rw (e, ne_eqb b 0xfb (λ e. omega (arith, e)), ne_eqb b 0xfc (λ e. omega (arith, e)), ne_eqb b 0xfd (λ e. omega (arith, e)), ne_eqb b 0xfe (λ e. omega (arith, e))) refl

pub unprefixed_read : (b : ℕ) (kind : Kind) (o : Operands) (old mid new : Place) → byte_at old ≡ Some (b, mid) → Some kind ≡ opcode_kind (without_prefix b) → (operands_format kind).at mid ≡ Some (o, new) → instruction.at old ≡ Some (instruction_of (without_prefix b, o), new)
unfolding instruction
unprefixed_read b kind o old mid new e is read = rw (unprefixed b kind old mid e is, ← is, read) refl
