-- The ids of sections (WebAssembly Core 3.0, Sections).
use Rattle.std.specs.Prelude.{ℕ}
use Rattle.wasm_encoder.specs.declared.wasm_core.SectionId.{SectionId}
use Rattle.wasm_encoder.specs.declared.wasm_core.SectionId.TheVariants as ids
use Rattle.wasm_code.specs.formats.Sections.{type_section_id}

-- The id of a section of this kind (Sections).
abbrev pub section_id : SectionId → ℕ
section_id ids.Custom = 0
section_id ids.Types = type_section_id
section_id ids.Import = 2
section_id ids.Function = 3
section_id ids.Table = 4
section_id ids.Memory = 5
section_id ids.Global = 6
section_id ids.Export = 7
section_id ids.Start = 8
section_id ids.Element = 9
section_id ids.Code = 10
section_id ids.Data = 11
section_id ids.DataCount = 12
section_id ids.Tag = 13
