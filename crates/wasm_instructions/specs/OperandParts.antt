-- The parts that opcodes and operands are written from.
use Rattle.std.specs.Prelude.{ℕ, ℤ, ◌+◌, ◌^◌, ◌<◌, Bool, true, false, not, ◌&&◌, ◌==◌, nat_lt, if◌then◌else◌, List, [], ◌∷◌, ◌++◌, Option, Some, None}
use Rattle.wasm_types.specs.declared.types.heap.HeapType.{HeapType}
use Rattle.wasm_types.specs.declared.types.value.ValType.{ValType}
use Rattle.wasm_instructions.specs.declared.operands.control.BlockType.{BlockType}
use Rattle.wasm_instructions.specs.declared.operands.control.BlockType.TheVariants as blocks
use Rattle.wasm_instructions.specs.declared.operands.control.Catch.{Catch}
use Rattle.wasm_instructions.specs.declared.operands.control.Catch.TheVariants as catches
use Rattle.wasm_instructions.specs.declared.operands.control.Handle.{Handle}
use Rattle.wasm_instructions.specs.declared.operands.control.Handle.TheVariants as handles
use Rattle.wasm_instructions.specs.declared.operands.constants.V128.{V128}
use Rattle.wasm_instructions.specs.declared.operands.memory.MemArg.{MemArg}
use Rattle.wasm_instructions.specs.declared.operands.memory.Ordering.{Ordering}
use Rattle.wasm_instructions.specs.declared.table.opcode.Prefix.TheVariants as prefixes
use Rattle.wasm_instructions.specs.declared.table.opcode.Opcode.{Opcode}
use Rattle.wasm_instructions.specs.declared.table.call.Operands.{Operands}
use Rattle.wasm_instructions.specs.declared.table.call.Operands.TheVariants as operands
use Rattle.wasm_codec.specs.Leb128.{unsigned_leb128}

-- ---- the number of an opcode with this prefix byte, or without one

abbrev pub fb_part : Opcode → Option ℕ
fb_part op = elim op.prefix [ prefixes.Fb ↦ Some op.number | _ ↦ None ]

abbrev pub fc_part : Opcode → Option ℕ
fc_part op = elim op.prefix [ prefixes.Fc ↦ Some op.number | _ ↦ None ]

abbrev pub fd_part : Opcode → Option ℕ
fd_part op = elim op.prefix [ prefixes.Fd ↦ Some op.number | _ ↦ None ]

abbrev pub fe_part : Opcode → Option ℕ
fe_part op = elim op.prefix [ prefixes.Fe ↦ Some op.number | _ ↦ None ]

abbrev pub one_byte_part : Opcode → Option ℕ
one_byte_part op = elim op.prefix [ prefixes.None ↦ Some op.number | _ ↦ None ]

-- ---- operands of a kind

abbrev pub block_part : Operands → Option BlockType
block_part (operands.Block ty) = Some ty
block_part o = None

abbrev pub index_part : Operands → Option ℕ
index_part (operands.Index index) = Some index
index_part o = None

abbrev pub two_indexes_part : Operands → Option (ℕ × ℕ)
two_indexes_part (operands.TwoIndexes first second) = Some (first, second)
two_indexes_part o = None

abbrev pub br_table_part : Operands → Option (List ℕ × ℕ)
br_table_part (operands.BrTable labels default) = Some (labels, default)
br_table_part o = None

abbrev pub types_part : Operands → Option (List ValType)
types_part (operands.Types types) = Some types
types_part o = None

abbrev pub try_table_part : Operands → Option (BlockType × List Catch)
try_table_part (operands.TryTable ty clauses) = Some (ty, clauses)
try_table_part o = None

abbrev pub mem_part : Operands → Option MemArg
mem_part (operands.Mem arg) = Some arg
mem_part o = None

abbrev pub i32_part : Operands → Option ℤ
i32_part (operands.I32 value) = Some value
i32_part o = None

abbrev pub i64_part : Operands → Option ℤ
i64_part (operands.I64 value) = Some value
i64_part o = None

abbrev pub f32_part : Operands → Option ℕ
f32_part (operands.F32 value) = Some value.bits
f32_part o = None

abbrev pub f64_part : Operands → Option ℕ
f64_part (operands.F64 value) = Some value.bits
f64_part o = None

abbrev pub heap_part : Operands → Option HeapType
heap_part (operands.Heap ty) = Some ty
heap_part o = None

abbrev pub resume_part : Operands → Option (ℕ × List Handle)
resume_part (operands.Resume index handlers) = Some (index, handlers)
resume_part o = None

abbrev pub resume_throw_part : Operands → Option (ℕ × (ℕ × List Handle))
resume_throw_part (operands.ResumeThrow index tag handlers) = Some (index, (tag, handlers))
resume_throw_part o = None

abbrev pub cast_part : Operands → Option ((Bool × Bool) × (ℕ × (HeapType × HeapType)))
cast_part (operands.Cast label before after) = Some ((before.nullable, after.nullable), (label, (before.heap_type, after.heap_type)))
cast_part o = None

abbrev pub v128_part : Operands → Option V128
v128_part (operands.V128 value) = Some value
v128_part o = None

abbrev pub shuffle_part : Operands → Option (List ℕ)
shuffle_part (operands.Shuffle lanes) = Some lanes
shuffle_part o = None

abbrev pub lane_part : Operands → Option ℕ
lane_part (operands.Lane lane) = Some lane
lane_part o = None

abbrev pub mem_lane_part : Operands → Option (MemArg × ℕ)
mem_lane_part (operands.MemLane arg lane) = Some (arg, lane)
mem_lane_part o = None

abbrev pub order_part : Operands → Option Ordering
order_part (operands.Order ordering) = Some ordering
order_part o = None

abbrev pub order_index_part : Operands → Option (Ordering × ℕ)
order_index_part (operands.OrderIndex ordering index) = Some (ordering, index)
order_index_part o = None

abbrev pub order_two_indexes_part : Operands → Option (Ordering × (ℕ × ℕ))
order_two_indexes_part (operands.OrderTwoIndexes ordering first second) = Some (ordering, (first, second))
order_two_indexes_part o = None

-- ---- the parts of operands

abbrev pub function_type_part : BlockType → Option ℕ
function_type_part (blocks.FunctionType index) = Some index
function_type_part ty = None

abbrev pub result_part : BlockType → Option ValType
result_part (blocks.Result ty) = Some ty
result_part ty = None

-- The byte of a catch clause.
abbrev pub catch_byte : Catch → ℕ
catch_byte (catches.One tag label) = 0x00
catch_byte (catches.OneRef tag label) = 0x01
catch_byte (catches.All label) = 0x02
catch_byte (catches.AllRef label) = 0x03

abbrev pub tag_and_label : Catch → Option (ℕ × ℕ)
tag_and_label (catches.One tag label) = Some (tag, label)
tag_and_label (catches.OneRef tag label) = Some (tag, label)
tag_and_label c = None

abbrev pub label_alone : Catch → Option ℕ
label_alone (catches.All label) = Some label
label_alone (catches.AllRef label) = Some label
label_alone c = None

-- The byte of a handler.
abbrev pub handle_byte : Handle → ℕ
handle_byte (handles.OnLabel tag label) = 0x00
handle_byte (handles.OnSwitch tag) = 0x01

abbrev pub on_label_part : Handle → Option (ℕ × ℕ)
on_label_part (handles.OnLabel tag label) = Some (tag, label)
on_label_part h = None

abbrev pub on_switch_part : Handle → Option ℕ
on_switch_part (handles.OnSwitch tag) = Some tag
on_switch_part h = None

-- All pairs of flags of a cast.
abbrev pub all_nullables : List (Bool × Bool)
all_nullables = (false, false) ∷ (true, false) ∷ (false, true) ∷ (true, true) ∷ []

-- The minimal encoding of a memory argument: memory 0 isn't named.
abbrev pub mem_arg_bytes : MemArg → List ℕ
mem_arg_bytes arg =
    if arg.memory_index == 0 then unsigned_leb128 arg.align ++ unsigned_leb128 arg.offset
    else unsigned_leb128 (arg.align + 64) ++ (unsigned_leb128 arg.memory_index ++ unsigned_leb128 arg.offset)

-- The alignment is below 64, the memory index fits in a u32, and the offset in a u64.
pub record MemArgInRange (arg : MemArg) : Type 0 where
  pub align : arg.align < 64
  pub memory_index : arg.memory_index < 2 ^ 32
  pub offset : arg.offset < 2 ^ 64

-- Memory 0 is named, which is a long form.
abbrev pub is_named_first : ℕ × MemArg → Bool
is_named_first p = not (nat_lt p.0 64) && (p.1.memory_index == 0)

-- The low and the high half of the vector.
abbrev pub halves_part : V128 → Option (ℕ × ℕ)
halves_part value = Some (value.low, value.high)
