-- Operands of calls: their kind, and the ranges of their numbers (WebAssembly Core 3.0, Instructions).
use Rattle.std.specs.Prelude.{◌≡◌, ℕ, ◌^◌, ◌<◌, length, get_or, Some}
use Rattle.std.specs.List.{AllByRecursion}
use Rattle.wasm_instructions.specs.declared.table.opcode.Prefix.TheVariants as prefixes
use Rattle.wasm_instructions.specs.declared.table.opcode.Opcode.{Opcode}
use Rattle.wasm_instructions.specs.declared.table.opcode.Kind.{Kind}
use Rattle.wasm_instructions.specs.declared.table.opcode.Kind.TheVariants as kinds
use Rattle.wasm_instructions.specs.declared.table.call.Operands.{Operands}
use Rattle.wasm_instructions.specs.declared.table.call.Operands.TheVariants as operands
use Rattle.wasm_codec.specs.formats.Numbers.{Within}
use Rattle.wasm_instructions.specs.OperandParts.{MemArgInRange}
use Rattle.wasm_instructions.specs.Operands.{HeapTypeFits, ValTypeFits, BlockTypeFits, CatchFits, HandleFits}
use Rattle.wasm_instructions.specs.formats.Opcodes.{opcode_kind}

-- ---- opcodes

-- The opcode has at most three bytes, and an opcode of one byte is below 0xFB.
abbrev pub IsShort : Opcode → Type 0
IsShort op = elim op.prefix [
  | prefixes.None ↦ op.number < 0xfb
  | prefixes.Fb ↦ op.number < 2 ^ 14
  | prefixes.Fc ↦ op.number < 2 ^ 14
  | prefixes.Fd ↦ op.number < 2 ^ 14
  | prefixes.Fe ↦ op.number < 2 ^ 14
]

-- ---- operands

-- The kind of the operands.
abbrev pub kind_of : Operands → Kind
kind_of operands.None = kinds.None
kind_of (operands.Block ty) = kinds.Block
kind_of (operands.Index index) = kinds.Index
kind_of (operands.TwoIndexes first second) = kinds.TwoIndexes
kind_of (operands.BrTable labels default) = kinds.BrTable
kind_of (operands.Types types) = kinds.Types
kind_of (operands.TryTable ty clauses) = kinds.TryTable
kind_of (operands.Mem arg) = kinds.Mem
kind_of (operands.I32 value) = kinds.I32
kind_of (operands.I64 value) = kinds.I64
kind_of (operands.F32 value) = kinds.F32
kind_of (operands.F64 value) = kinds.F64
kind_of (operands.Heap ty) = kinds.Heap
kind_of (operands.Resume index handlers) = kinds.Resume
kind_of (operands.ResumeThrow index tag handlers) = kinds.ResumeThrow
kind_of (operands.Cast label before after) = kinds.Cast
kind_of (operands.V128 value) = kinds.V128
kind_of (operands.Shuffle lanes) = kinds.Shuffle
kind_of (operands.Lane lane) = kinds.Lane
kind_of (operands.MemLane arg lane) = kinds.MemLane
kind_of (operands.Order ordering) = kinds.Order
kind_of (operands.OrderIndex ordering index) = kinds.OrderIndex
kind_of (operands.OrderTwoIndexes ordering first second) = kinds.OrderTwoIndexes

-- Each alignment is below 64.
abbrev pub IsAligned : Operands → Type 0
IsAligned (operands.Mem arg) = arg.align < 64
IsAligned (operands.MemLane arg lane) = arg.align < 64
IsAligned o = Unit {0}

-- A u32 counts the items of the list in the operands, if there is one.
abbrev pub IsCounted : Operands → Type 0
IsCounted (operands.BrTable labels default) = length labels < 2 ^ 32
IsCounted (operands.Types types) = length types < 2 ^ 32
IsCounted (operands.TryTable ty clauses) = length clauses < 2 ^ 32
IsCounted (operands.Resume index handlers) = length handlers < 2 ^ 32
IsCounted (operands.ResumeThrow index tag handlers) = length handlers < 2 ^ 32
IsCounted o = Unit {0}

-- Each alignment is below 64, and a u32 counts the items of the list.
abbrev pub HasEncoding : Operands → Type 0
HasEncoding o = IsAligned o × IsCounted o

-- None of the operands is a list.
abbrev pub HasNoList : Operands → Type 0
HasNoList (operands.BrTable labels default) = ⊥
HasNoList (operands.Types types) = ⊥
HasNoList (operands.TryTable ty clauses) = ⊥
HasNoList (operands.Resume index handlers) = ⊥
HasNoList (operands.ResumeThrow index tag handlers) = ⊥
HasNoList o = Unit {0}

-- Each number outside lists is in the range of its width, and each alignment is below 64.
abbrev pub NumbersInRange : Operands → Type 0
NumbersInRange operands.None = Unit {0}
NumbersInRange (operands.Block ty) = BlockTypeFits ty
NumbersInRange (operands.Index index) = index < 2 ^ 32
NumbersInRange (operands.TwoIndexes first second) = (first < 2 ^ 32) × (second < 2 ^ 32)
NumbersInRange (operands.BrTable labels default) = default < 2 ^ 32
NumbersInRange (operands.Types types) = Unit {0}
NumbersInRange (operands.TryTable ty clauses) = BlockTypeFits ty
NumbersInRange (operands.Mem arg) = MemArgInRange arg
NumbersInRange (operands.I32 value) = Within (2 ^ 31) value
NumbersInRange (operands.I64 value) = Within (2 ^ 63) value
NumbersInRange (operands.F32 value) = value.bits < 2 ^ 32
NumbersInRange (operands.F64 value) = value.bits < 2 ^ 64
NumbersInRange (operands.Heap ty) = HeapTypeFits ty
NumbersInRange (operands.Resume index handlers) = index < 2 ^ 32
NumbersInRange (operands.ResumeThrow index tag handlers) = (index < 2 ^ 32) × (tag < 2 ^ 32)
NumbersInRange (operands.Cast label before after) = (label < 2 ^ 32) × HeapTypeFits before.heap_type × HeapTypeFits after.heap_type
NumbersInRange (operands.V128 value) = (value.low < 2 ^ 64) × (value.high < 2 ^ 64)
NumbersInRange (operands.Shuffle lanes) = (length lanes ≡ 16) × ((i : ℕ) → get_or lanes i 0 < 256)
NumbersInRange (operands.Lane lane) = lane < 256
NumbersInRange (operands.MemLane arg lane) = MemArgInRange arg × (lane < 256)
NumbersInRange (operands.Order ordering) = Unit {0}
NumbersInRange (operands.OrderIndex ordering index) = index < 2 ^ 32
NumbersInRange (operands.OrderTwoIndexes ordering first second) = (first < 2 ^ 32) × (second < 2 ^ 32)

-- Each number in the list is in the range of its width.
abbrev pub ItemsInRange : Operands → Type 0
ItemsInRange (operands.BrTable labels default) = AllByRecursion (λ label. label < 2 ^ 32) labels
ItemsInRange (operands.Types types) = AllByRecursion ValTypeFits types
ItemsInRange (operands.TryTable ty clauses) = AllByRecursion CatchFits clauses
ItemsInRange (operands.Resume index handlers) = AllByRecursion HandleFits handlers
ItemsInRange (operands.ResumeThrow index tag handlers) = AllByRecursion HandleFits handlers
ItemsInRange o = Unit {0}

-- ---- instructions

-- The opcode is in the table, and the operands are of its kind.
abbrev pub IsCall : Opcode → Operands → Type 0
IsCall op operands = opcode_kind op ≡ Some (kind_of operands)
