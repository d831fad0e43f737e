-- The bytes of a call.
use Rattle.std.proofs.Common.{◌≡◌, Result, Ok, Err, OnOk, subst}
use Rattle.wasm_instructions.specs.declared.table.call.Operands.{Operands}
use Rattle.wasm_instructions.specs.formats.Instructions.{instruction, Instruction, call}
use Rattle.wasm_instructions.specs.Instructions.{IsCall, NumbersInRange, ItemsInRange, IsCounted, kind_of}
use Rattle.wasm_instructions.specs.Lengths.{HasNoLongList, IsShortEncoding}
use Rattle.wasm_instructions.proofs.InstructionFormatLaws.{Lawful-instruction}
use Rattle.wasm_instructions.proofs.OpcodeLaws.{in_table_short}
use Rattle.wasm_instructions.proofs.InstructionLengths.{in_table_low, short_call}
use Rattle.wasm_instructions.proofs.CallRanges.{call_in_range}

-- the bytes of a call that was written encode it
pub encoded : {T E : Type 0} (i : Instruction) (o : Operands) (r : Result T E) → o ≡ i.operands → IsCall i.op o → NumbersInRange o → OnOk r (IsCounted o × ItemsInRange o) → OnOk r (instruction.Encodes (instruction.bytes i) i)
encoded i o (Ok v) same is_call numbers fits =
    subst (λ (k : Operands). instruction.Encodes (instruction.bytes (call i.op k)) (call i.op k)) same
    (Lawful-instruction.minimal.encodes (call i.op o) (call_in_range i.op o is_call numbers fits.1 fits.0))
encoded i o (Err e) same is_call numbers fits = tt

-- how long the bytes of a call without a long list are
pub short_encoding : (i : Instruction) (o : Operands) → o ≡ i.operands → IsCall i.op o → NumbersInRange o → (HasNoLongList o → ItemsInRange o) → HasNoLongList i.operands → IsShortEncoding (instruction.bytes i)
short_encoding i o same is_call numbers items =
    subst (λ (k : Operands). HasNoLongList k → IsShortEncoding (instruction.bytes (call i.op k))) same
    (λ short. short_call i.op o (in_table_short i.op (kind_of o) is_call) (in_table_low i.op (kind_of o) is_call) numbers (items short) short)
