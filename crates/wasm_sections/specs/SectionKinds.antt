-- The kinds of sections that are lists, by their ids (WebAssembly Core 3.0, Sections).
use Rattle.std.specs.Prelude.{ℕ, List}
use Rattle.wasm_codec.specs.formats.Combinators.{Format, u32}
use Rattle.wasm_sections.specs.declared.elements.Element.{Element}
use Rattle.wasm_sections.specs.declared.globals.Global.{Global}
use Rattle.wasm_sections.specs.declared.tables.Table.{Table}
use Rattle.wasm_externals.specs.declared.limits.MemoryType.{MemoryType}
use Rattle.wasm_externals.specs.declared.types.TagType.{TagType}
use Rattle.wasm_sections.specs.formats.Elements.{element_segment}
use Rattle.wasm_sections.specs.formats.Entries.{import_entry, table_entry, global_entry, export_entry}
use Rattle.wasm_sections.specs.formats.EntryParts.{ImportParts, ExportParts, DataParts}
use Rattle.wasm_externals.specs.formats.Externals.{memory_type, tag_type}
use Rattle.wasm_sections.specs.formats.ModuleSectionParts.{ModuleSectionParts, imports, functions, tables, memories, globals, exports, elements, data_segments, tags}
use Rattle.wasm_sections.specs.formats.Segments.{data_segment}

-- A section that is a list of items, each of which encodes a value.
pub record SectionOf (V : Type 0) : Type 1 where
  -- The id.
  pub id : ℕ
  -- The format of items: which bytes encode which value.
  pub format : Format V
  -- The decoded section that holds these items.
  pub holding : List V → ModuleSectionParts

abbrev pub import_section : SectionOf ImportParts
import_section = record { id = 2; format = import_entry; holding = imports }

abbrev pub function_section : SectionOf ℕ
function_section = record { id = 3; format = u32; holding = functions }

abbrev pub table_section : SectionOf Table
table_section = record { id = 4; format = table_entry; holding = tables }

abbrev pub memory_section : SectionOf MemoryType
memory_section = record { id = 5; format = memory_type; holding = memories }

abbrev pub global_section : SectionOf Global
global_section = record { id = 6; format = global_entry; holding = globals }

abbrev pub export_section : SectionOf ExportParts
export_section = record { id = 7; format = export_entry; holding = exports }

abbrev pub element_section : SectionOf Element
element_section = record { id = 9; format = element_segment; holding = elements }

abbrev pub data_section : SectionOf DataParts
data_section = record { id = 11; format = data_segment; holding = data_segments }

abbrev pub tag_section : SectionOf TagType
tag_section = record { id = 13; format = tag_type; holding = tags }
