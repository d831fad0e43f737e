-- The parts of entries, without the borrows from the input.
use Rattle.std.specs.Prelude.{ℕ, List, map}
use Rattle.wasm_externals.specs.declared.types.EntityType.{EntityType}
use Rattle.wasm_externals.specs.declared.types.ExportKind.{ExportKind}
use Rattle.wasm_sections.specs.declared.exports.Export.{Export}
use Rattle.wasm_sections.specs.declared.custom.CustomSection.{CustomSection}
use Rattle.wasm_sections.specs.declared.data.DataSegment.{DataSegment}
use Rattle.wasm_sections.specs.declared.data.DataSegmentMode.{DataSegmentMode}
use Rattle.wasm_sections.specs.declared.imports.Import.{Import}

-- The parts of an export.
pub record ExportParts : Type 0 where
  pub name : List ℕ
  pub kind : ExportKind
  pub index : ℕ

-- The parts of an export that borrows from the input.
abbrev pub export_parts : Export → ExportParts
export_parts e = record { name = e.name.now; kind = e.kind; index = e.index }

-- The parts of each export.
abbrev pub all_export_parts : List Export → List ExportParts
all_export_parts = map export_parts

-- The parts of an import.
pub record ImportParts : Type 0 where
  pub module_name : List ℕ
  pub field : List ℕ
  pub ty : EntityType

-- The parts of an import that borrows from the input.
abbrev pub import_parts : Import → ImportParts
import_parts i = record { module_name = i.module.now; field = i.field.now; ty = i.ty }

-- The parts of each import.
abbrev pub all_import_parts : List Import → List ImportParts
all_import_parts = map import_parts

-- The parts of a data segment.
pub record DataParts : Type 0 where
  pub mode : DataSegmentMode
  pub data_bytes : List ℕ

-- The parts of a data segment that borrows from the input.
abbrev pub data_parts : DataSegment → DataParts
data_parts d = record { mode = d.mode; data_bytes = d.bytes.now }

-- The parts of each data segment.
abbrev pub all_data_parts : List DataSegment → List DataParts
all_data_parts = map data_parts

-- The parts of a custom section.
pub record CustomParts : Type 0 where
  pub name : List ℕ
  pub data_bytes : List ℕ

-- The parts of a custom section that borrows from the input.
abbrev pub custom_parts : CustomSection → CustomParts
custom_parts c = record { name = c.name.now; data_bytes = c.bytes.now }
