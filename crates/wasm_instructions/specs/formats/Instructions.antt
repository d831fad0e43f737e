-- Instructions: an opcode and its operands (WebAssembly Core 3.0, Instructions).
use Rattle.std.specs.Prelude.{ℕ, Bool, not, ◌||◌, ◌==◌, List, ◌++◌, Some}
use Rattle.wasm_types.specs.declared.types.heap.HeapType.{HeapType}
use Rattle.wasm_instructions.specs.declared.table.opcode.Opcode.{Opcode}
use Rattle.wasm_instructions.specs.declared.table.opcode.Kind.{Kind}
use Rattle.wasm_instructions.specs.declared.table.opcode.Kind.TheVariants as kinds
use Rattle.wasm_instructions.specs.declared.table.call.Operands.{Operands}
use Rattle.wasm_instructions.specs.declared.table.call.Operands.TheVariants as operands
use Rattle.wasm_codec.specs.formats.Grammar.{Grammar}
use Rattle.wasm_codec.specs.formats.Combinators.{Format, a_byte, nothing, ◌⊗◌, ◌⊗>◌, made, any_of, or_else, variant_after, byte_where, u32, s32, s64, little_endian, items, minimal_only, by_kind, AllOf, all_bytes}
use Rattle.wasm_types.specs.formats.Types.{heap_type, reference, val_type}
use Rattle.wasm_instructions.specs.formats.Operands.{block_type, catch_clause, handle_clause, castop, mem_arg, ordering, vector, lanes, ieee32, ieee64}
use Rattle.wasm_instructions.specs.OperandParts.{fb_part, fc_part, fd_part, fe_part, one_byte_part, block_part, index_part, two_indexes_part, br_table_part, types_part, try_table_part, mem_part, i32_part, i64_part, f32_part, f64_part, heap_part, resume_part, resume_throw_part, cast_part, v128_part, shuffle_part, lane_part, mem_lane_part, order_part, order_index_part, order_two_indexes_part}
use Rattle.wasm_instructions.specs.formats.Opcodes.{without_prefix, after_fb, after_fc, after_fd, after_fe, opcode_kind}
use Rattle.wasm_instructions.specs.Instructions.{kind_of}

-- An instruction: an opcode and its operands.
pub record Instruction : Type 0 where
  pub op : Opcode
  pub operands : Operands

-- The instruction of this opcode and these operands.
abbrev pub call : Opcode → Operands → Instruction
call op operands = record { op = op; operands = operands }

-- ---- opcodes

-- The byte isn't a prefix byte.
abbrev pub is_one_byte : ℕ → Bool
is_one_byte byte = not (byte == 0xfb || byte == 0xfc || byte == 0xfd || byte == 0xfe)

-- An opcode: one byte, or a prefix byte and a number.
-- 0xFB n:u32 | 0xFC n:u32 | 0xFD n:u32 | 0xFE n:u32 | b:byte. The table tells which numbers and bytes are opcodes.
unfoldable pub opcode : Format Opcode
opcode = any_of
    (variant_after 0xfb after_fb fb_part u32
    (variant_after 0xfc after_fc fc_part u32
    (variant_after 0xfd after_fd fd_part u32
    (variant_after 0xfe after_fe fe_part u32
    (or_else (made without_prefix one_byte_part (byte_where is_one_byte)))))))

-- ---- operands, one line for each kind

abbrev pub cast_of : (Bool × Bool) × (ℕ × (HeapType × HeapType)) → Operands
cast_of p = operands.Cast p.1.0 (reference p.0.0 p.1.1.0) (reference p.0.1 p.1.1.1)

-- The operands of this kind, as they follow the opcode.
-- For example, 0x0E l*:list(labelidx) l_n:labelidx => br_table l* l_n
unfoldable pub operands_format : Kind → Format Operands
-- Control Instructions
operands_format kinds.None = nothing operands.None
operands_format kinds.Block = made operands.Block block_part block_type
operands_format kinds.Index = made operands.Index index_part u32
operands_format kinds.TwoIndexes = made (λ p. operands.TwoIndexes p.0 p.1) two_indexes_part (u32 ⊗ u32)
operands_format kinds.BrTable = made (λ p. operands.BrTable p.0 p.1) br_table_part (items u32 ⊗ u32)
operands_format kinds.TryTable = made (λ p. operands.TryTable p.0 p.1) try_table_part (block_type ⊗ items catch_clause)
operands_format kinds.Cast = made cast_of cast_part (castop ⊗ u32 ⊗ heap_type ⊗ heap_type)
-- proposal: stack switching
operands_format kinds.Resume = made (λ p. operands.Resume p.0 p.1) resume_part (u32 ⊗ items handle_clause)
operands_format kinds.ResumeThrow = made (λ p. operands.ResumeThrow p.0 p.1.0 p.1.1) resume_throw_part (u32 ⊗ u32 ⊗ items handle_clause)
-- Reference Instructions
operands_format kinds.Heap = made operands.Heap heap_part heap_type
-- Parametric Instructions
operands_format kinds.Types = made operands.Types types_part (items val_type)
-- Memory Instructions
operands_format kinds.Mem = made operands.Mem mem_part mem_arg
-- Numeric Instructions
operands_format kinds.I32 = made operands.I32 i32_part s32
operands_format kinds.I64 = made operands.I64 i64_part s64
operands_format kinds.F32 = made (λ bits. operands.F32 (ieee32 bits)) f32_part (little_endian 4)
operands_format kinds.F64 = made (λ bits. operands.F64 (ieee64 bits)) f64_part (little_endian 8)
-- Vector Instructions
operands_format kinds.V128 = made operands.V128 v128_part vector
operands_format kinds.Shuffle = made operands.Shuffle shuffle_part lanes
operands_format kinds.Lane = made operands.Lane lane_part a_byte
operands_format kinds.MemLane = made (λ p. operands.MemLane p.0 p.1) mem_lane_part (mem_arg ⊗ a_byte)
-- proposal: shared types
operands_format kinds.Order = made operands.Order order_part ordering
operands_format kinds.OrderIndex = made (λ p. operands.OrderIndex p.0 p.1) order_index_part (ordering ⊗ u32)
operands_format kinds.OrderTwoIndexes = made (λ p. operands.OrderTwoIndexes p.0 p.1.0 p.1.1) order_two_indexes_part (ordering ⊗ u32 ⊗ u32)

-- ---- instructions

-- The instruction of this opcode and these operands.
abbrev pub instruction_of : Opcode × Operands → Instruction
instruction_of p = record { op = p.0; operands = p.1 }

-- The minimal encoding of an instruction, by the kind of its operands.
abbrev pub call_bytes : Instruction → List ℕ
call_bytes i = opcode.bytes i.op ++ (operands_format (kind_of i.operands)).bytes i.operands

-- The same format, with these bytes as the minimal encodings of values in range.
abbrev pub with_bytes : {A : Type 0} → (A → List ℕ) → Format A → Format A
with_bytes bytes F = record { Encodes = F.Encodes; at = F.at; bytes = bytes; InRange = F.InRange; first = F.first }

-- An instruction.
-- instr ::= an opcode of the table and operands of its kind
unfoldable pub instruction : Format Instruction
instruction = with_bytes call_bytes (made instruction_of (λ i. Some (i.op, i.operands)) (opcode ⊗> (λ op. by_kind operands_format (opcode_kind op))))

-- The bytes encode these instructions, with nothing between and nothing left over.
abbrev pub Instructions : Grammar (List Instruction)
Instructions = AllOf instruction

-- The minimal encoding of a list of instructions.
abbrev pub instructions_bytes : List Instruction → List ℕ
instructions_bytes = all_bytes instruction

-- The bytes encode these instructions, each of them minimally.
abbrev pub MinimalInstructions : Grammar (List Instruction)
MinimalInstructions = AllOf (minimal_only instruction)
