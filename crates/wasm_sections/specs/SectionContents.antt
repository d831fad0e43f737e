-- The contents of a section whose body begins at an offset of an input: an iterator over its items, or a value.
use Rattle.std.specs.Prelude.{◌≡◌, ◌-◌, ◌<◌, ◌≤◌, ℕ, Bool, List}
use Rattle.wasm_codec.specs.Outcomes.{IsLongestPrefix}
use Rattle.wasm_codec.specs.formats.Combinators.{Format, minimal_if, u32}
use Rattle.wasm_lists.specs.ItemReading.{EncodesNoList, GivesList, Reading}
use Rattle.wasm_types.specs.formats.Types.{recursive_type}
use Rattle.wasm_externals.specs.formats.Externals.{memory_type, tag_type}
use Rattle.wasm_code.specs.formats.CodeBodies.{function_body, function_parts}
use Rattle.wasm_code.specs.formats.Sections.{SectionParts}
use Rattle.wasm_code.specs.DecodedPrefixes.{IsNothingOr}
use Rattle.wasm_sections.specs.declared.contents.Contents.{Contents}
use Rattle.wasm_sections.specs.declared.contents.Contents.TheVariants as contents
use Rattle.wasm_sections.specs.formats.Elements.{element_segment}
use Rattle.wasm_sections.specs.formats.Entries.{import_entry, table_entry, global_entry, export_entry}
use Rattle.wasm_sections.specs.formats.EntryParts.{custom_parts, data_parts, export_parts, import_parts}
use Rattle.wasm_sections.specs.formats.Sections.{custom_body}
use Rattle.wasm_sections.specs.formats.Segments.{data_segment}

-- The section has this id, and the iterator gives the items of its list; if `strict`, minimally encoded ones alone.
pub record GivesItemsOf {X V : Type 0} (id : ℕ) (view : X → V) (F : Format V) (strict : Bool) (start : ℕ) (section : SectionParts) (reader : Reading) : Type 0 where
  pub id_is : section.id ≡ id
  pub strict_is : reader.strict ≡ strict
  pub gives : GivesList view F start section.body reader

-- The section has this id, and its body encodes this value; if `strict`, minimally.
pub record HoldsValue {V : Type 0} (id : ℕ) (F : Format V) (strict : Bool) (section : SectionParts) (value : V) : Type 0 where
  pub id_is : section.id ≡ id
  pub encodes : (minimal_if strict F).Encodes section.body value

-- This is what the section holds; if `strict`, minimally encoded.
abbrev pub GivesContents : Bool → ℕ → SectionParts → Contents → Type 0
GivesContents strict start section (contents.Custom c) = HoldsValue 0 custom_body strict section (custom_parts c)
GivesContents strict start section (contents.Types r) = GivesItemsOf 1 (λ x. x) recursive_type strict start section r
GivesContents strict start section (contents.Imports r) = GivesItemsOf 2 import_parts import_entry strict start section r
GivesContents strict start section (contents.Functions r) = GivesItemsOf 3 (λ x. x) u32 strict start section r
GivesContents strict start section (contents.Tables r) = GivesItemsOf 4 (λ x. x) table_entry strict start section r
GivesContents strict start section (contents.Memories r) = GivesItemsOf 5 (λ x. x) memory_type strict start section r
GivesContents strict start section (contents.Globals r) = GivesItemsOf 6 (λ x. x) global_entry strict start section r
GivesContents strict start section (contents.Exports r) = GivesItemsOf 7 export_parts export_entry strict start section r
GivesContents strict start section (contents.Start n) = HoldsValue 8 u32 strict section n
GivesContents strict start section (contents.Elements r) = GivesItemsOf 9 (λ x. x) element_segment strict start section r
GivesContents strict start section (contents.Code r) = GivesItemsOf 10 function_parts function_body strict start section r
GivesContents strict start section (contents.Data r) = GivesItemsOf 11 data_parts data_segment strict start section r
GivesContents strict start section (contents.DataCount n) = HoldsValue 12 u32 strict section n
GivesContents strict start section (contents.Tags r) = GivesItemsOf 13 (λ x. x) tag_type strict start section r
GivesContents strict start section contents.Unknown = 13 < section.id

-- The body encodes no value; the longest prefix that does, or is empty, ends at this offset.
pub record EncodesNoValue {V : Type 0} (strict : Bool) (F : Format V) (start : ℕ) (body : List ℕ) (at : ℕ) : Type 0 where
  pub behind : start ≤ at
  pub longest : IsLongestPrefix (IsNothingOr (minimal_if strict F)) body (at - start)
  pub none : (value : V) → (minimal_if strict F).Encodes body value → ⊥

-- The body of the section encodes no list, or no value; its longest whole prefix ends at this offset.
pub data HasNoContents (strict : Bool) (start : ℕ) (section : SectionParts) (at : ℕ) : Type 0 where
  no_custom : section.id ≡ 0 → EncodesNoValue strict custom_body start section.body at → HasNoContents strict start section at
  no_types : section.id ≡ 1 → EncodesNoList strict recursive_type start section.body at → HasNoContents strict start section at
  no_imports : section.id ≡ 2 → EncodesNoList strict import_entry start section.body at → HasNoContents strict start section at
  no_functions : section.id ≡ 3 → EncodesNoList strict u32 start section.body at → HasNoContents strict start section at
  no_tables : section.id ≡ 4 → EncodesNoList strict table_entry start section.body at → HasNoContents strict start section at
  no_memories : section.id ≡ 5 → EncodesNoList strict memory_type start section.body at → HasNoContents strict start section at
  no_globals : section.id ≡ 6 → EncodesNoList strict global_entry start section.body at → HasNoContents strict start section at
  no_exports : section.id ≡ 7 → EncodesNoList strict export_entry start section.body at → HasNoContents strict start section at
  no_start : section.id ≡ 8 → EncodesNoValue strict u32 start section.body at → HasNoContents strict start section at
  no_elements : section.id ≡ 9 → EncodesNoList strict element_segment start section.body at → HasNoContents strict start section at
  no_code : section.id ≡ 10 → EncodesNoList strict function_body start section.body at → HasNoContents strict start section at
  no_data : section.id ≡ 11 → EncodesNoList strict data_segment start section.body at → HasNoContents strict start section at
  no_data_count : section.id ≡ 12 → EncodesNoValue strict u32 start section.body at → HasNoContents strict start section at
  no_tags : section.id ≡ 13 → EncodesNoList strict tag_type start section.body at → HasNoContents strict start section at
