-- Decoded sections that are written (WebAssembly Core 3.0, Modules).
use Rattle.std.specs.Prelude.{◌≡◌, ◌++◌, ◌∷◌, ◌⊎◌, ℕ, List, length, drop, Result, OnOk, OnErr, IfErr}
use Rattle.std.specs.List.{All}
use Rattle.wasm_codec.specs.declared.encode.EncodeError.{EncodeError}
use Rattle.wasm_codec.specs.declared.encode.EncodeError.TheVariants.{Memory}
use Rattle.wasm_codec.specs.Encoding.{CanEncodeList, IsCount, IsListRefusal, IsRefusal, IsTooLong, OnlyTooLong}
use Rattle.wasm_codec.specs.Lists.{items_bytes}
use Rattle.wasm_codec.specs.formats.Combinators.{u32}
use Rattle.wasm_types.specs.TypeCounts.{CountedEntry}
use Rattle.wasm_types.specs.formats.Types.{recursive_type}
use Rattle.wasm_code.specs.CodeCounts.{CountedBody}
use Rattle.wasm_code.specs.formats.CodeBodies.{code_body}
use Rattle.wasm_externals.specs.formats.Externals.{memory_type, tag_type}
use Rattle.wasm_sections.specs.declared.module_sections.ModuleSection.{ModuleSection}
use Rattle.wasm_sections.specs.declared.module_sections.ModuleSection.TheVariants as sections
use Rattle.wasm_sections.specs.ClosedEntries.{IsClosedData, IsClosedElement, IsClosedGlobal, IsClosedTable, IsCountedData, IsCountedElement, IsCountedGlobal, IsCountedTable}
use Rattle.wasm_sections.specs.SectionBytes.{CountedCustom, IsSectionAfter}
use Rattle.wasm_sections.specs.formats.Elements.{element_segment}
use Rattle.wasm_sections.specs.formats.Entries.{export_entry, global_entry, import_entry, table_entry}
use Rattle.wasm_sections.specs.formats.EntryParts.{data_parts, export_parts, import_parts}
use Rattle.wasm_sections.specs.formats.ModuleSectionParts.{ModuleSectionParts, module_section_parts, section_id}
use Rattle.wasm_sections.specs.formats.ModuleSections.{module_section}
use Rattle.wasm_sections.specs.formats.Segments.{data_segment}

-- The section's minimal encoding after the id: the size of the body, and the body.
abbrev pub content_bytes : ModuleSectionParts → List ℕ
content_bytes section = drop 1 (module_section.bytes section)

-- ---- which sections can be written

-- A u32 counts the items and the bytes of the list, and each item can be written.
abbrev pub CountedList : {T : Type 0} → (T → List ℕ) → (T → Type 0) → List T → Type 0
CountedList encoding Can xs = CanEncodeList Can xs × IsCount (length (items_bytes encoding xs))

-- A u32 counts each list in the section, each name, and the bytes of its body.
abbrev pub CountedContent : ModuleSection → Type 0
CountedContent (sections.Custom section) = CountedCustom section
CountedContent (sections.Types entries) = CountedList recursive_type.bytes CountedEntry entries
CountedContent (sections.Imports entries) = CountedList (λ i. import_entry.bytes (import_parts i)) (λ i. IsCount (length i.module.now) × IsCount (length i.field.now)) entries
CountedContent (sections.Functions indexes) = CountedList u32.bytes (λ i. Unit {0}) indexes
CountedContent (sections.Tables entries) = CountedList table_entry.bytes IsCountedTable entries
CountedContent (sections.Memories entries) = CountedList memory_type.bytes (λ m. Unit {0}) entries
CountedContent (sections.Globals entries) = CountedList global_entry.bytes IsCountedGlobal entries
CountedContent (sections.Exports entries) = CountedList (λ e. export_entry.bytes (export_parts e)) (λ e. IsCount (length e.name.now)) entries
CountedContent (sections.Start function) = Unit {0}
CountedContent (sections.Elements segments) = CountedList element_segment.bytes IsCountedElement segments
CountedContent (sections.Code bodies) = CountedList code_body.bytes CountedBody bodies
CountedContent (sections.Data segments) = CountedList (λ d. data_segment.bytes (data_parts d)) (λ d. IsCountedData (data_parts d)) segments
CountedContent (sections.DataCount count) = Unit {0}
CountedContent (sections.Tags entries) = CountedList tag_type.bytes (λ t. Unit {0}) entries

-- Each expression in the section closes its blocks. Code bodies may have any instructions.
abbrev pub IsClosedContent : ModuleSection → Type 0
IsClosedContent (sections.Tables entries) = All IsClosedTable entries
IsClosedContent (sections.Globals entries) = All IsClosedGlobal entries
IsClosedContent (sections.Elements segments) = All IsClosedElement segments
IsClosedContent (sections.Data segments) = All (λ d. IsClosedData d.mode) segments
IsClosedContent section = Unit {0}

-- ---- what is written

-- The id and what was written are the minimal encoding of the section.
abbrev pub IsWrittenContent : ModuleSectionParts → Type 0
IsWrittenContent section = IsSectionAfter (section_id section) (content_bytes section) section

-- The bytes written are the section's minimal encoding if one of two conditions holds.
pub record WrittenContent (section : ModuleSection) : Type 0 where
  -- If its expressions close their blocks, the minimal encoding of the section was written.
  pub closed : IsClosedContent section → IsWrittenContent (module_section_parts section)
  -- So it was if some bytes encode the section, such as those that it was read from.
  pub encoded : (bytes : List ℕ) → module_section.Encodes bytes (module_section_parts section) → IsWrittenContent (module_section_parts section)

-- The `encode` of a decoded section.
pub record EncodesContent (section : ModuleSection) (old new : List ℕ) (result : Result (Unit {0}) EncodeError) : Type 0 where
  -- It appends what the section's minimal encoding has after the id.
  pub ok : OnOk result (new ≡ old ++ content_bytes (module_section_parts section))
  -- U32s count the section's lists, names and bytes.
  pub can : OnOk result (CountedContent section)
  -- With the id this is the minimal encoding of the section.
  pub written : OnOk result (WrittenContent section)
  -- It fails with `Memory`, or with `TooLong` if a u32 doesn't count a list, a name or the bytes.
  pub refused : IfErr result (IsRefusal CountedContent OnlyTooLong section)
  -- It fails with `Memory` alone if some bytes encode the section.
  pub memory : (bytes : List ℕ) → module_section.Encodes bytes (module_section_parts section) → IfErr result (λ e. e ≡ Memory)
  -- On error the bytes are unchanged.
  pub err : OnErr result (new ≡ old)
  -- With the id, these bytes are the section's minimal encoding.
  pub bytes : module_section.bytes (module_section_parts section) ≡ section_id (module_section_parts section) ∷ content_bytes (module_section_parts section)

-- Memory ran out, the list can't be written, or it has more bytes than a u32 counts.
abbrev pub IsSizedListRefusal : {T : Type 0} → (T → List ℕ) → (T → Type 0) → (T → EncodeError → Type 0) → List T → EncodeError → Type 0
IsSizedListRefusal encoding Can refuses xs e = IsListRefusal Can refuses xs e ⊎ IsTooLong (length (items_bytes encoding xs)) e
