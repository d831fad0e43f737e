-- Entries of sections with other indices: only the indices of a module's items change (WebAssembly Core 3.0, Modules).
use Rattle.std.specs.Prelude.{ℕ, List, map, option_map}
use Rattle.wasm_types.specs.declared.types.value.ValType.{ValType}
use Rattle.wasm_externals.specs.declared.limits.TableType.{TableType}
use Rattle.wasm_externals.specs.declared.types.EntityType.{EntityType}
use Rattle.wasm_externals.specs.declared.types.EntityType.TheVariants as entities
use Rattle.wasm_externals.specs.declared.types.ExportKind.{ExportKind}
use Rattle.wasm_externals.specs.declared.types.ExportKind.TheVariants as kinds
use Rattle.wasm_externals.specs.declared.types.GlobalType.{GlobalType}
use Rattle.wasm_externals.specs.declared.types.TagType.{TagType}
use Rattle.wasm_instructions.specs.formats.Instructions.{Instruction}
use Rattle.wasm_code.specs.declared.code.CodeBody.{CodeBody}
use Rattle.wasm_sections.specs.declared.data.DataSegment.{DataSegment}
use Rattle.wasm_sections.specs.declared.data.DataSegmentMode.{DataSegmentMode}
use Rattle.wasm_sections.specs.declared.data.DataSegmentMode.TheVariants as data_modes
use Rattle.wasm_sections.specs.declared.elements.Element.{Element}
use Rattle.wasm_sections.specs.declared.elements.ElementMode.{ElementMode}
use Rattle.wasm_sections.specs.declared.elements.ElementMode.TheVariants as modes
use Rattle.wasm_sections.specs.declared.elements.Elements.{Elements}
use Rattle.wasm_sections.specs.declared.elements.Elements.TheVariants as held
use Rattle.wasm_sections.specs.declared.exports.Export.{Export}
use Rattle.wasm_sections.specs.declared.globals.Global.{Global}
use Rattle.wasm_sections.specs.declared.imports.Import.{Import}
use Rattle.wasm_sections.specs.declared.module_sections.ModuleSection.{ModuleSection}
use Rattle.wasm_sections.specs.declared.module_sections.ModuleSection.TheVariants as sections
use Rattle.wasm_sections.specs.declared.tables.Table.{Table}
use Rattle.wasm_modules.specs.declared.indices.spaces.IndexSpace.{IndexSpace}
use Rattle.wasm_modules.specs.declared.indices.spaces.IndexSpace.TheVariants as spaces
use Rattle.wasm_modules.specs.MappedIndices.{NewIndices, mapped_call, mapped_ref_type, mapped_val_type, mapped_type_entry}

-- The instructions with new indices.
abbrev pub mapped_calls : NewIndices → List Instruction → List Instruction
mapped_calls new = map (mapped_call new)

-- ---- types of items

abbrev pub mapped_table_type : NewIndices → TableType → TableType
mapped_table_type new ty = record {
  element_type = mapped_ref_type new ty.element_type;
  table64 = ty.table64;
  minimum = ty.minimum;
  maximum = ty.maximum;
  shared = ty.shared;
}

abbrev pub mapped_global_type : NewIndices → GlobalType → GlobalType
mapped_global_type new ty = record { val_type = mapped_val_type new ty.val_type; mutable = ty.mutable; shared = ty.shared }

abbrev pub mapped_tag_type : NewIndices → TagType → TagType
mapped_tag_type new ty = record { kind = ty.kind; func_type_idx = new spaces.Types ty.func_type_idx }

abbrev pub mapped_entity_type : NewIndices → EntityType → EntityType
mapped_entity_type new (entities.Function index) = entities.Function (new spaces.Types index)
mapped_entity_type new (entities.FunctionExact index) = entities.FunctionExact (new spaces.Types index)
mapped_entity_type new (entities.Table ty) = entities.Table (mapped_table_type new ty)
mapped_entity_type new (entities.Global ty) = entities.Global (mapped_global_type new ty)
mapped_entity_type new (entities.Tag ty) = entities.Tag (mapped_tag_type new ty)
mapped_entity_type new (entities.Memory ty) = entities.Memory ty

-- ---- entries

abbrev pub mapped_import : NewIndices → Import → Import
mapped_import new i = record { «module» = i.«module»; field = i.field; ty = mapped_entity_type new i.ty }

abbrev pub mapped_table : NewIndices → Table → Table
mapped_table new table = record { ty = mapped_table_type new table.ty; init = option_map (mapped_calls new) table.init }

abbrev pub mapped_global : NewIndices → Global → Global
mapped_global new global = record { ty = mapped_global_type new global.ty; init = mapped_calls new global.init }

-- The index space of items of this kind.
abbrev pub space_of : ExportKind → IndexSpace
space_of kinds.Func = spaces.Functions
space_of kinds.Table = spaces.Tables
space_of kinds.Memory = spaces.Memories
space_of kinds.Global = spaces.Globals
space_of kinds.Tag = spaces.Tags

abbrev pub mapped_export : NewIndices → Export → Export
mapped_export new e = record { name = e.name; kind = e.kind; index = new (space_of e.kind) e.index }

abbrev pub mapped_element_mode : NewIndices → ElementMode → ElementMode
mapped_element_mode new (modes.Active table offset) = modes.Active (new spaces.Tables table) (mapped_calls new offset)
mapped_element_mode new mode = mode

abbrev pub mapped_elements : NewIndices → Elements → Elements
mapped_elements new (held.Functions functions) = held.Functions (map (new spaces.Functions) functions)
mapped_elements new (held.Expressions ty expressions) = held.Expressions (mapped_ref_type new ty) (map (mapped_calls new) expressions)

abbrev pub mapped_element : NewIndices → Element → Element
mapped_element new e = record { mode = mapped_element_mode new e.mode; elements = mapped_elements new e.elements }

abbrev pub mapped_local_group : NewIndices → ℕ × ValType → ℕ × ValType
mapped_local_group new group = (group.0, mapped_val_type new group.1)

abbrev pub mapped_body : NewIndices → CodeBody → CodeBody
mapped_body new body = record { locals = map (mapped_local_group new) body.locals; calls = mapped_calls new body.calls }

abbrev pub mapped_data_mode : NewIndices → DataSegmentMode → DataSegmentMode
mapped_data_mode new (data_modes.Active memory offset) = data_modes.Active (new spaces.Memories memory) (mapped_calls new offset)
mapped_data_mode new data_modes.Passive = data_modes.Passive

abbrev pub mapped_data_segment : NewIndices → DataSegment → DataSegment
mapped_data_segment new segment = record { mode = mapped_data_mode new segment.mode; bytes = segment.bytes }

-- ---- sections

-- The section with new indices. Custom sections, memories and the data count stay.
abbrev pub mapped_section : NewIndices → ModuleSection → ModuleSection
mapped_section new (sections.Types entries) = sections.Types (map (mapped_type_entry new) entries)
mapped_section new (sections.Imports imports) = sections.Imports (map (mapped_import new) imports)
mapped_section new (sections.Functions types) = sections.Functions (map (new spaces.Types) types)
mapped_section new (sections.Tables tables) = sections.Tables (map (mapped_table new) tables)
mapped_section new (sections.Globals globals) = sections.Globals (map (mapped_global new) globals)
mapped_section new (sections.Exports exports) = sections.Exports (map (mapped_export new) exports)
mapped_section new (sections.Start function) = sections.Start (new spaces.Functions function)
mapped_section new (sections.Elements elements) = sections.Elements (map (mapped_element new) elements)
mapped_section new (sections.Code bodies) = sections.Code (map (mapped_body new) bodies)
mapped_section new (sections.Data segments) = sections.Data (map (mapped_data_segment new) segments)
mapped_section new (sections.Tags tags) = sections.Tags (map (mapped_tag_type new) tags)
mapped_section new (sections.Custom custom) = sections.Custom custom
mapped_section new (sections.Memories memories) = sections.Memories memories
mapped_section new (sections.DataCount count) = sections.DataCount count
