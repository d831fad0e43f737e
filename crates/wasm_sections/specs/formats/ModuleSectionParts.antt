-- The contents of sections (WebAssembly Core 3.0, Modules).
use Rattle.std.specs.Prelude.{ℕ, List, map, Option, Some, None}
use Rattle.wasm_types.specs.declared.types.recursive.TypeEntry.{TypeEntry}
use Rattle.wasm_code.specs.declared.code.CodeBody.{CodeBody}
use Rattle.wasm_sections.specs.declared.elements.Element.{Element}
use Rattle.wasm_sections.specs.declared.globals.Global.{Global}
use Rattle.wasm_sections.specs.declared.tables.Table.{Table}
use Rattle.wasm_externals.specs.declared.limits.MemoryType.{MemoryType}
use Rattle.wasm_externals.specs.declared.types.TagType.{TagType}
use Rattle.wasm_sections.specs.declared.module_sections.ModuleSection.{ModuleSection}
use Rattle.wasm_sections.specs.declared.module_sections.ModuleSection.TheVariants as sections
use Rattle.wasm_sections.specs.formats.EntryParts.{CustomParts, ExportParts, ImportParts, DataParts, custom_parts, all_export_parts, all_import_parts, all_data_parts}

-- A section with its content.
pub data ModuleSectionParts : Type 0 where
  custom : CustomParts → ModuleSectionParts
  types : List TypeEntry → ModuleSectionParts
  imports : List ImportParts → ModuleSectionParts
  functions : List ℕ → ModuleSectionParts
  tables : List Table → ModuleSectionParts
  memories : List MemoryType → ModuleSectionParts
  globals : List Global → ModuleSectionParts
  exports : List ExportParts → ModuleSectionParts
  start : ℕ → ModuleSectionParts
  elements : List Element → ModuleSectionParts
  code : List CodeBody → ModuleSectionParts
  data_segments : List DataParts → ModuleSectionParts
  data_count : ℕ → ModuleSectionParts
  tags : List TagType → ModuleSectionParts

-- The section with its content, without the borrows from the input.
abbrev pub module_section_parts : ModuleSection → ModuleSectionParts
module_section_parts (sections.Custom section) = custom (custom_parts section)
module_section_parts (sections.Types entries) = types entries
module_section_parts (sections.Imports entries) = imports (all_import_parts entries)
module_section_parts (sections.Functions indexes) = functions indexes
module_section_parts (sections.Tables entries) = tables entries
module_section_parts (sections.Memories entries) = memories entries
module_section_parts (sections.Globals entries) = globals entries
module_section_parts (sections.Exports entries) = exports (all_export_parts entries)
module_section_parts (sections.Start function) = start function
module_section_parts (sections.Elements segments) = elements segments
module_section_parts (sections.Code bodies) = code bodies
module_section_parts (sections.Data segments) = data_segments (all_data_parts segments)
module_section_parts (sections.DataCount count) = data_count count
module_section_parts (sections.Tags entries) = tags entries

-- The sections with their content, without the borrows from the input.
abbrev pub all_module_section_parts : List ModuleSection → List ModuleSectionParts
all_module_section_parts = map module_section_parts

-- ---- taken apart, for the minimal encoding

-- The id of a section with this content.
abbrev pub section_id : ModuleSectionParts → ℕ
section_id (custom c) = 0
section_id (types ts) = 1
section_id (imports is) = 2
section_id (functions fs) = 3
section_id (tables ts) = 4
section_id (memories ms) = 5
section_id (globals gs) = 6
section_id (exports es) = 7
section_id (start f) = 8
section_id (elements es) = 9
section_id (code bs) = 10
section_id (data_segments ds) = 11
section_id (data_count n) = 12
section_id (tags ts) = 13

abbrev pub custom_part : ModuleSectionParts → Option CustomParts
custom_part (custom c) = Some c
custom_part s = None

abbrev pub type_entries_part : ModuleSectionParts → Option (List TypeEntry)
type_entries_part (types ts) = Some ts
type_entries_part s = None

abbrev pub imports_part : ModuleSectionParts → Option (List ImportParts)
imports_part (imports is) = Some is
imports_part s = None

abbrev pub function_indexes_part : ModuleSectionParts → Option (List ℕ)
function_indexes_part (functions fs) = Some fs
function_indexes_part s = None

abbrev pub tables_part : ModuleSectionParts → Option (List Table)
tables_part (tables ts) = Some ts
tables_part s = None

abbrev pub memories_part : ModuleSectionParts → Option (List MemoryType)
memories_part (memories ms) = Some ms
memories_part s = None

abbrev pub globals_part : ModuleSectionParts → Option (List Global)
globals_part (globals gs) = Some gs
globals_part s = None

abbrev pub exports_part : ModuleSectionParts → Option (List ExportParts)
exports_part (exports es) = Some es
exports_part s = None

abbrev pub start_part : ModuleSectionParts → Option ℕ
start_part (start f) = Some f
start_part s = None

abbrev pub elements_part : ModuleSectionParts → Option (List Element)
elements_part (elements es) = Some es
elements_part s = None

abbrev pub code_part : ModuleSectionParts → Option (List CodeBody)
code_part (code bs) = Some bs
code_part s = None

abbrev pub data_segments_part : ModuleSectionParts → Option (List DataParts)
data_segments_part (data_segments ds) = Some ds
data_segments_part s = None

abbrev pub data_count_part : ModuleSectionParts → Option ℕ
data_count_part (data_count n) = Some n
data_count_part s = None

abbrev pub tags_part : ModuleSectionParts → Option (List TagType)
tags_part (tags ts) = Some ts
tags_part s = None
