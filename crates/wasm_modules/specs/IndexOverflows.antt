-- Values with a new index that doesn't fit in a u32 (WebAssembly Core 3.0, Indices).
use Rattle.std.specs.Prelude.{ℕ, ◌^◌, ◌≤◌, ◌⊎◌, Any, List, Option, None, Some}
use Rattle.wasm_types.specs.declared.types.heap.HeapType.{HeapType}
use Rattle.wasm_types.specs.declared.types.heap.HeapType.TheVariants as heaps
use Rattle.wasm_types.specs.declared.types.heap.RefType.{RefType}
use Rattle.wasm_types.specs.declared.types.value.ValType.{ValType}
use Rattle.wasm_types.specs.declared.types.value.ValType.TheVariants as values
use Rattle.wasm_types.specs.declared.types.value.StorageType.{StorageType}
use Rattle.wasm_types.specs.declared.types.value.StorageType.TheVariants as storages
use Rattle.wasm_types.specs.declared.types.composite.FieldType.{FieldType}
use Rattle.wasm_types.specs.declared.types.composite.FuncType.{FuncType}
use Rattle.wasm_types.specs.declared.types.composite.CompositeInnerType.{CompositeInnerType}
use Rattle.wasm_types.specs.declared.types.composite.CompositeInnerType.TheVariants as inner
use Rattle.wasm_types.specs.declared.types.composite.CompositeType.{CompositeType}
use Rattle.wasm_types.specs.declared.types.recursive.SubType.{SubType}
use Rattle.wasm_types.specs.declared.types.recursive.TypeEntry.{TypeEntry}
use Rattle.wasm_types.specs.declared.types.recursive.TypeEntry.TheVariants as entries
use Rattle.wasm_instructions.specs.declared.operands.control.BlockType.{BlockType}
use Rattle.wasm_instructions.specs.declared.operands.control.BlockType.TheVariants as blocks
use Rattle.wasm_instructions.specs.declared.operands.control.Catch.{Catch}
use Rattle.wasm_instructions.specs.declared.operands.control.Catch.TheVariants as catches
use Rattle.wasm_instructions.specs.declared.operands.control.Handle.{Handle}
use Rattle.wasm_instructions.specs.declared.operands.control.Handle.TheVariants as handles
use Rattle.wasm_instructions.specs.declared.operands.memory.MemArg.{MemArg}
use Rattle.wasm_instructions.specs.declared.table.opcode.Opcode.{Opcode}
use Rattle.wasm_instructions.specs.declared.table.call.Operands.{Operands}
use Rattle.wasm_instructions.specs.declared.table.call.Operands.TheVariants as operands
use Rattle.wasm_instructions.specs.formats.Instructions.{Instruction}
use Rattle.wasm_externals.specs.declared.limits.TableType.{TableType}
use Rattle.wasm_externals.specs.declared.types.EntityType.{EntityType}
use Rattle.wasm_externals.specs.declared.types.EntityType.TheVariants as entities
use Rattle.wasm_externals.specs.declared.types.GlobalType.{GlobalType}
use Rattle.wasm_externals.specs.declared.types.TagType.{TagType}
use Rattle.wasm_code.specs.declared.code.CodeBody.{CodeBody}
use Rattle.wasm_sections.specs.declared.data.DataSegment.{DataSegment}
use Rattle.wasm_sections.specs.declared.data.DataSegmentMode.{DataSegmentMode}
use Rattle.wasm_sections.specs.declared.data.DataSegmentMode.TheVariants as data_modes
use Rattle.wasm_sections.specs.declared.elements.Element.{Element}
use Rattle.wasm_sections.specs.declared.elements.ElementMode.{ElementMode}
use Rattle.wasm_sections.specs.declared.elements.ElementMode.TheVariants as modes
use Rattle.wasm_sections.specs.declared.elements.Elements.{Elements}
use Rattle.wasm_sections.specs.declared.elements.Elements.TheVariants as held
use Rattle.wasm_sections.specs.declared.exports.Export.{Export}
use Rattle.wasm_sections.specs.declared.globals.Global.{Global}
use Rattle.wasm_sections.specs.declared.imports.Import.{Import}
use Rattle.wasm_sections.specs.declared.module_sections.ModuleSection.{ModuleSection}
use Rattle.wasm_sections.specs.declared.module_sections.ModuleSection.TheVariants as sections
use Rattle.wasm_sections.specs.declared.tables.Table.{Table}
use Rattle.wasm_modules.specs.declared.indices.spaces.IndexSpace.{IndexSpace}
use Rattle.wasm_modules.specs.declared.indices.spaces.IndexSpace.TheVariants as spaces
use Rattle.wasm_modules.specs.IndexSpaces.{index_spaces}
use Rattle.wasm_modules.specs.MappedIndices.{NewIndices}
use Rattle.wasm_modules.specs.MappedSections.{space_of}

module _ (new : NewIndices) where
  -- The new index of this item doesn't fit.
  abbrev pub Exceeds : IndexSpace → ℕ → Type 0
  Exceeds space index = 2 ^ 32 ≤ new space index

  -- The same of an operand, which may be in no index space.
  abbrev pub ExceedsIn : Option IndexSpace → ℕ → Type 0
  ExceedsIn None index = ⊥
  ExceedsIn (Some space) index = Exceeds space index

  -- The same of an index that there may be.
  abbrev pub ExceedsIfSome : IndexSpace → Option ℕ → Type 0
  ExceedsIfSome space None = ⊥
  ExceedsIfSome space (Some index) = Exceeds space index

  -- ---- types

  abbrev pub HeapTypeExceeds : HeapType → Type 0
  HeapTypeExceeds (heaps.Abstract shared ty) = ⊥
  HeapTypeExceeds (heaps.Concrete index) = Exceeds spaces.Types index
  HeapTypeExceeds (heaps.Exact index) = Exceeds spaces.Types index

  abbrev pub RefTypeExceeds : RefType → Type 0
  RefTypeExceeds ty = HeapTypeExceeds ty.heap_type

  abbrev pub ValTypeExceeds : ValType → Type 0
  ValTypeExceeds (values.Ref ty) = RefTypeExceeds ty
  ValTypeExceeds ty = ⊥

  abbrev pub StorageTypeExceeds : StorageType → Type 0
  StorageTypeExceeds (storages.Val ty) = ValTypeExceeds ty
  StorageTypeExceeds ty = ⊥

  abbrev pub FieldExceeds : FieldType → Type 0
  FieldExceeds field = StorageTypeExceeds field.element_type

  abbrev pub FuncTypeExceeds : FuncType → Type 0
  FuncTypeExceeds ty = Any ValTypeExceeds ty.params ⊎ Any ValTypeExceeds ty.results

  abbrev pub InnerTypeExceeds : CompositeInnerType → Type 0
  InnerTypeExceeds (inner.Func ty) = FuncTypeExceeds ty
  InnerTypeExceeds (inner.Array ty) = FieldExceeds ty.0
  InnerTypeExceeds (inner.Struct ty) = Any FieldExceeds ty.fields
  InnerTypeExceeds (inner.Cont ty) = Exceeds spaces.Types ty.0

  abbrev pub CompositeTypeExceeds : CompositeType → Type 0
  CompositeTypeExceeds ty =
      InnerTypeExceeds ty.inner ⊎ ExceedsIfSome spaces.Types ty.descriptor ⊎ ExceedsIfSome spaces.Types ty.describes

  abbrev pub SubTypeExceeds : SubType → Type 0
  SubTypeExceeds ty = Any (Exceeds spaces.Types) ty.supertype_idxs ⊎ CompositeTypeExceeds ty.composite_type

  abbrev pub TypeEntryExceeds : TypeEntry → Type 0
  TypeEntryExceeds (entries.Sub ty) = SubTypeExceeds ty
  TypeEntryExceeds (entries.Rec types) = Any SubTypeExceeds types

  -- ---- instructions

  abbrev pub BlockTypeExceeds : BlockType → Type 0
  BlockTypeExceeds blocks.Empty = ⊥
  BlockTypeExceeds (blocks.Result ty) = ValTypeExceeds ty
  BlockTypeExceeds (blocks.FunctionType index) = Exceeds spaces.Types index

  abbrev pub CatchExceeds : Catch → Type 0
  CatchExceeds (catches.One tag label) = Exceeds spaces.Tags tag
  CatchExceeds (catches.OneRef tag label) = Exceeds spaces.Tags tag
  CatchExceeds (catches.All label) = ⊥
  CatchExceeds (catches.AllRef label) = ⊥

  abbrev pub HandleExceeds : Handle → Type 0
  HandleExceeds (handles.OnLabel tag label) = Exceeds spaces.Tags tag
  HandleExceeds (handles.OnSwitch tag) = Exceeds spaces.Tags tag

  abbrev pub MemArgExceeds : MemArg → Type 0
  MemArgExceeds arg = Exceeds spaces.Memories arg.memory_index

  -- One of two operands of this opcode.
  abbrev pub PairExceeds : Opcode → ℕ → ℕ → Type 0
  PairExceeds op first second = ExceedsIn (index_spaces op).0 first ⊎ ExceedsIn (index_spaces op).1 second

  -- One of the operands of this opcode.
  abbrev pub OperandsExceed : Opcode → Operands → Type 0
  OperandsExceed op (operands.Index index) = ExceedsIn (index_spaces op).0 index
  OperandsExceed op (operands.TwoIndexes first second) = PairExceeds op first second
  OperandsExceed op (operands.Block ty) = BlockTypeExceeds ty
  OperandsExceed op (operands.Types types) = Any ValTypeExceeds types
  OperandsExceed op (operands.TryTable ty clauses) = BlockTypeExceeds ty ⊎ Any CatchExceeds clauses
  OperandsExceed op (operands.Mem arg) = MemArgExceeds arg
  OperandsExceed op (operands.MemLane arg lane) = MemArgExceeds arg
  OperandsExceed op (operands.Heap ty) = HeapTypeExceeds ty
  OperandsExceed op (operands.Resume index handlers) = ExceedsIn (index_spaces op).0 index ⊎ Any HandleExceeds handlers
  OperandsExceed op (operands.ResumeThrow index tag handlers) = PairExceeds op index tag ⊎ Any HandleExceeds handlers
  OperandsExceed op (operands.Cast label before after) = RefTypeExceeds before ⊎ RefTypeExceeds after
  OperandsExceed op (operands.OrderIndex ordering index) = ExceedsIn (index_spaces op).0 index
  OperandsExceed op (operands.OrderTwoIndexes ordering first second) = PairExceeds op first second
  OperandsExceed op others = ⊥

  -- A new index of the instruction doesn't fit in a u32.
  abbrev pub CallExceeds : Instruction → Type 0
  CallExceeds i = OperandsExceed i.op i.operands

  -- ---- entries of sections

  abbrev pub TableTypeExceeds : TableType → Type 0
  TableTypeExceeds ty = RefTypeExceeds ty.element_type

  abbrev pub GlobalTypeExceeds : GlobalType → Type 0
  GlobalTypeExceeds ty = ValTypeExceeds ty.val_type

  abbrev pub TagTypeExceeds : TagType → Type 0
  TagTypeExceeds ty = Exceeds spaces.Types ty.func_type_idx

  abbrev pub EntityTypeExceeds : EntityType → Type 0
  EntityTypeExceeds (entities.Function index) = Exceeds spaces.Types index
  EntityTypeExceeds (entities.FunctionExact index) = Exceeds spaces.Types index
  EntityTypeExceeds (entities.Table ty) = TableTypeExceeds ty
  EntityTypeExceeds (entities.Global ty) = GlobalTypeExceeds ty
  EntityTypeExceeds (entities.Tag ty) = TagTypeExceeds ty
  EntityTypeExceeds (entities.Memory ty) = ⊥

  abbrev pub ImportExceeds : Import → Type 0
  ImportExceeds i = EntityTypeExceeds i.ty

  -- An expression that there may be.
  abbrev pub InitExceeds : Option (List Instruction) → Type 0
  InitExceeds None = ⊥
  InitExceeds (Some calls) = Any CallExceeds calls

  abbrev pub TableExceeds : Table → Type 0
  TableExceeds table = TableTypeExceeds table.ty ⊎ InitExceeds table.init

  abbrev pub GlobalExceeds : Global → Type 0
  GlobalExceeds global = GlobalTypeExceeds global.ty ⊎ Any CallExceeds global.init

  abbrev pub ExportExceeds : Export → Type 0
  ExportExceeds e = Exceeds (space_of e.kind) e.index

  abbrev pub ElementModeExceeds : ElementMode → Type 0
  ElementModeExceeds (modes.Active table offset) = Exceeds spaces.Tables table ⊎ Any CallExceeds offset
  ElementModeExceeds mode = ⊥

  abbrev pub ElementsExceed : Elements → Type 0
  ElementsExceed (held.Functions functions) = Any (Exceeds spaces.Functions) functions
  ElementsExceed (held.Expressions ty expressions) = RefTypeExceeds ty ⊎ Any (Any CallExceeds) expressions

  abbrev pub ElementExceeds : Element → Type 0
  ElementExceeds e = ElementModeExceeds e.mode ⊎ ElementsExceed e.elements

  abbrev pub LocalGroupExceeds : ℕ × ValType → Type 0
  LocalGroupExceeds group = ValTypeExceeds group.1

  abbrev pub BodyExceeds : CodeBody → Type 0
  BodyExceeds body = Any LocalGroupExceeds body.locals ⊎ Any CallExceeds body.calls

  abbrev pub DataModeExceeds : DataSegmentMode → Type 0
  DataModeExceeds (data_modes.Active memory offset) = Exceeds spaces.Memories memory ⊎ Any CallExceeds offset
  DataModeExceeds data_modes.Passive = ⊥

  abbrev pub DataSegmentExceeds : DataSegment → Type 0
  DataSegmentExceeds segment = DataModeExceeds segment.mode

  -- ---- sections

  abbrev pub SectionExceeds : ModuleSection → Type 0
  SectionExceeds (sections.Types entries) = Any TypeEntryExceeds entries
  SectionExceeds (sections.Imports imports) = Any ImportExceeds imports
  SectionExceeds (sections.Functions types) = Any (Exceeds spaces.Types) types
  SectionExceeds (sections.Tables tables) = Any TableExceeds tables
  SectionExceeds (sections.Globals globals) = Any GlobalExceeds globals
  SectionExceeds (sections.Exports exports) = Any ExportExceeds exports
  SectionExceeds (sections.Start function) = Exceeds spaces.Functions function
  SectionExceeds (sections.Elements elements) = Any ElementExceeds elements
  SectionExceeds (sections.Code bodies) = Any BodyExceeds bodies
  SectionExceeds (sections.Data segments) = Any DataSegmentExceeds segments
  SectionExceeds (sections.Tags tags) = Any TagTypeExceeds tags
  SectionExceeds (sections.Custom custom) = ⊥
  SectionExceeds (sections.Memories memories) = ⊥
  SectionExceeds (sections.DataCount count) = ⊥
