-- Values with other indices: only the indices of a module's items change (WebAssembly Core 3.0, Indices).
use Rattle.std.specs.Prelude.{ℕ, ◌+◌, ◌&&◌, ◌==◌, nat_le, map, Option, Some, None, option_map, if◌then◌else◌}
use Rattle.wasm_types.specs.declared.types.heap.HeapType.{HeapType}
use Rattle.wasm_types.specs.declared.types.heap.HeapType.TheVariants as heaps
use Rattle.wasm_types.specs.declared.types.heap.RefType.{RefType}
use Rattle.wasm_types.specs.declared.types.value.ValType.{ValType}
use Rattle.wasm_types.specs.declared.types.value.ValType.TheVariants as values
use Rattle.wasm_types.specs.declared.types.value.StorageType.{StorageType}
use Rattle.wasm_types.specs.declared.types.value.StorageType.TheVariants as storages
use Rattle.wasm_types.specs.declared.types.composite.FieldType.{FieldType}
use Rattle.wasm_types.specs.declared.types.composite.FuncType.{FuncType}
use Rattle.wasm_types.specs.declared.types.composite.CompositeInnerType.{CompositeInnerType}
use Rattle.wasm_types.specs.declared.types.composite.CompositeInnerType.TheVariants as inner
use Rattle.wasm_types.specs.declared.types.composite.CompositeType.{CompositeType}
use Rattle.wasm_types.specs.declared.types.recursive.SubType.{SubType}
use Rattle.wasm_types.specs.declared.types.recursive.TypeEntry.{TypeEntry}
use Rattle.wasm_types.specs.declared.types.recursive.TypeEntry.TheVariants as entries
use Rattle.wasm_instructions.specs.declared.operands.control.BlockType.{BlockType}
use Rattle.wasm_instructions.specs.declared.operands.control.BlockType.TheVariants as blocks
use Rattle.wasm_instructions.specs.declared.operands.control.Catch.{Catch}
use Rattle.wasm_instructions.specs.declared.operands.control.Catch.TheVariants as catches
use Rattle.wasm_instructions.specs.declared.operands.control.Handle.{Handle}
use Rattle.wasm_instructions.specs.declared.operands.control.Handle.TheVariants as handles
use Rattle.wasm_instructions.specs.declared.operands.memory.MemArg.{MemArg}
use Rattle.wasm_instructions.specs.declared.table.opcode.Opcode.{Opcode}
use Rattle.wasm_instructions.specs.declared.table.call.Operands.{Operands}
use Rattle.wasm_instructions.specs.declared.table.call.Operands.TheVariants as operands
use Rattle.wasm_instructions.specs.formats.Instructions.{Instruction, call}
use Rattle.wasm_modules.specs.declared.indices.renumbering.InsertedItems.{InsertedItems}
use Rattle.wasm_modules.specs.declared.indices.spaces.IndexSpace.{IndexSpace}
use Rattle.wasm_modules.specs.declared.indices.spaces.IndexSpace.TheVariants as spaces
use Rattle.wasm_modules.specs.IndexSpaces.{index_spaces}

-- The new index of each item, by its index space and its old index.
abbrev pub NewIndices : Type 0
NewIndices = IndexSpace → ℕ → ℕ

-- The new index in this index space. An index that is in none stays.
abbrev pub index_in : NewIndices → Option IndexSpace → ℕ → ℕ
index_in new None index = index
index_in new (Some space) index = new space index

-- ---- types

abbrev pub mapped_heap_type : NewIndices → HeapType → HeapType
mapped_heap_type new (heaps.Abstract shared ty) = heaps.Abstract shared ty
mapped_heap_type new (heaps.Concrete index) = heaps.Concrete (new spaces.Types index)
mapped_heap_type new (heaps.Exact index) = heaps.Exact (new spaces.Types index)

abbrev pub mapped_ref_type : NewIndices → RefType → RefType
mapped_ref_type new ty = record { nullable = ty.nullable; heap_type = mapped_heap_type new ty.heap_type }

abbrev pub mapped_val_type : NewIndices → ValType → ValType
mapped_val_type new (values.Ref ty) = values.Ref (mapped_ref_type new ty)
mapped_val_type new ty = ty

abbrev pub mapped_storage_type : NewIndices → StorageType → StorageType
mapped_storage_type new (storages.Val ty) = storages.Val (mapped_val_type new ty)
mapped_storage_type new ty = ty

abbrev pub mapped_field : NewIndices → FieldType → FieldType
mapped_field new field = record { element_type = mapped_storage_type new field.element_type; mutable = field.mutable }

abbrev pub mapped_func_type : NewIndices → FuncType → FuncType
mapped_func_type new ty = record { params = map (mapped_val_type new) ty.params; results = map (mapped_val_type new) ty.results }

abbrev pub mapped_inner_type : NewIndices → CompositeInnerType → CompositeInnerType
mapped_inner_type new (inner.Func ty) = inner.Func (mapped_func_type new ty)
mapped_inner_type new (inner.Array ty) = inner.Array (record { 0 = mapped_field new ty.0 })
mapped_inner_type new (inner.Struct ty) = inner.Struct (record { fields = map (mapped_field new) ty.fields })
mapped_inner_type new (inner.Cont ty) = inner.Cont (record { 0 = new spaces.Types ty.0 })

abbrev pub mapped_composite_type : NewIndices → CompositeType → CompositeType
mapped_composite_type new ty = record {
  inner = mapped_inner_type new ty.inner;
  shared = ty.shared;
  descriptor = option_map (new spaces.Types) ty.descriptor;
  describes = option_map (new spaces.Types) ty.describes;
}

abbrev pub mapped_sub_type : NewIndices → SubType → SubType
mapped_sub_type new ty = record {
  is_final = ty.is_final;
  supertype_idxs = map (new spaces.Types) ty.supertype_idxs;
  composite_type = mapped_composite_type new ty.composite_type;
}

abbrev pub mapped_type_entry : NewIndices → TypeEntry → TypeEntry
mapped_type_entry new (entries.Sub ty) = entries.Sub (mapped_sub_type new ty)
mapped_type_entry new (entries.Rec types) = entries.Rec (map (mapped_sub_type new) types)

-- ---- operands

abbrev pub mapped_block_type : NewIndices → BlockType → BlockType
mapped_block_type new blocks.Empty = blocks.Empty
mapped_block_type new (blocks.Result ty) = blocks.Result (mapped_val_type new ty)
mapped_block_type new (blocks.FunctionType index) = blocks.FunctionType (new spaces.Types index)

abbrev pub mapped_catch : NewIndices → Catch → Catch
mapped_catch new (catches.One tag label) = catches.One (new spaces.Tags tag) label
mapped_catch new (catches.OneRef tag label) = catches.OneRef (new spaces.Tags tag) label
mapped_catch new (catches.All label) = catches.All label
mapped_catch new (catches.AllRef label) = catches.AllRef label

abbrev pub mapped_handle : NewIndices → Handle → Handle
mapped_handle new (handles.OnLabel tag label) = handles.OnLabel (new spaces.Tags tag) label
mapped_handle new (handles.OnSwitch tag) = handles.OnSwitch (new spaces.Tags tag)

abbrev pub mapped_mem_arg : NewIndices → MemArg → MemArg
mapped_mem_arg new arg = record { offset = arg.offset; align = arg.align; memory_index = new spaces.Memories arg.memory_index }

-- The operands of this opcode with new indices of types, functions, tables, memories, globals, tags and segments.
-- Constants, labels, locals, fields, offsets, alignments, lanes and orderings stay.
abbrev pub mapped_operands : NewIndices → Opcode → Operands → Operands
mapped_operands new op (operands.Index index) = operands.Index (index_in new (index_spaces op).0 index)
mapped_operands new op (operands.TwoIndexes first second) =
    operands.TwoIndexes (index_in new (index_spaces op).0 first) (index_in new (index_spaces op).1 second)
mapped_operands new op (operands.Block ty) = operands.Block (mapped_block_type new ty)
mapped_operands new op (operands.Types types) = operands.Types (map (mapped_val_type new) types)
mapped_operands new op (operands.TryTable ty clauses) = operands.TryTable (mapped_block_type new ty) (map (mapped_catch new) clauses)
mapped_operands new op (operands.Mem arg) = operands.Mem (mapped_mem_arg new arg)
mapped_operands new op (operands.MemLane arg lane) = operands.MemLane (mapped_mem_arg new arg) lane
mapped_operands new op (operands.Heap ty) = operands.Heap (mapped_heap_type new ty)
mapped_operands new op (operands.Resume index handlers) =
    operands.Resume (index_in new (index_spaces op).0 index) (map (mapped_handle new) handlers)
mapped_operands new op (operands.ResumeThrow index tag handlers) =
    operands.ResumeThrow (index_in new (index_spaces op).0 index) (index_in new (index_spaces op).1 tag) (map (mapped_handle new) handlers)
mapped_operands new op (operands.Cast label before after) = operands.Cast label (mapped_ref_type new before) (mapped_ref_type new after)
mapped_operands new op (operands.OrderIndex ordering index) = operands.OrderIndex ordering (index_in new (index_spaces op).0 index)
mapped_operands new op (operands.OrderTwoIndexes ordering first second) =
    operands.OrderTwoIndexes ordering (index_in new (index_spaces op).0 first) (index_in new (index_spaces op).1 second)
mapped_operands new op others = others

-- The instruction with the same opcode and new indices.
abbrev pub mapped_call : NewIndices → Instruction → Instruction
mapped_call new i = call i.op (mapped_operands new i.op i.operands)

-- ---- insertion

-- The number of the index space, which tells it from the others.
abbrev pub space_number : IndexSpace → ℕ
space_number spaces.Types = 0
space_number spaces.Functions = 1
space_number spaces.Tables = 2
space_number spaces.Memories = 3
space_number spaces.Globals = 4
space_number spaces.Tags = 5
space_number spaces.Elements = 6
space_number spaces.Data = 7

-- The new indices when items are inserted: those of the index space from `at` on are raised by `count`.
abbrev pub index_after_insertion : InsertedItems → NewIndices
index_after_insertion inserted space index =
    if space_number space == space_number inserted.space && nat_le inserted.at index then index + inserted.count else index
