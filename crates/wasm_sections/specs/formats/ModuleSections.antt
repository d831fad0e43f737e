-- Sections with their content, and modules of such sections (WebAssembly Core 3.0, Modules).
use Rattle.std.specs.Prelude.{◌≡◌, ◌<◌, ℕ, List, ◌∷◌, Option, ⊤}
use Rattle.wasm_codec.specs.Lists.{BreaksAtItem, BreaksInBody}
use Rattle.wasm_codec.specs.Outcomes.{EncodesSome}
use Rattle.wasm_codec.specs.formats.Bodies.{sized}
use Rattle.wasm_codec.specs.formats.Grammar.{Grammar}
use Rattle.wasm_codec.specs.formats.Combinators.{Format, made, any_of, no_other, tagged, minimal_only, items, u32}
use Rattle.wasm_sections.specs.formats.ModuleSectionParts.{ModuleSectionParts, section_id, custom, types, imports, functions, tables, memories, globals, exports, start, elements, code, data_segments, data_count, tags, custom_part, type_entries_part, imports_part, function_indexes_part, tables_part, memories_part, globals_part, exports_part, start_part, elements_part, code_part, data_segments_part, data_count_part, tags_part}
use Rattle.wasm_types.specs.formats.Types.{recursive_type}
use Rattle.wasm_code.specs.formats.CodeBodies.{code_body}
use Rattle.wasm_code.specs.formats.Modules.{module_of, raw_section}
use Rattle.wasm_code.specs.formats.Sections.{SectionParts}
use Rattle.wasm_sections.specs.formats.Elements.{element_segment}
use Rattle.wasm_sections.specs.formats.Entries.{import_entry, table_entry, global_entry, export_entry}
use Rattle.wasm_externals.specs.formats.Externals.{memory_type, tag_type}
use Rattle.wasm_sections.specs.formats.Sections.{custom_body}
use Rattle.wasm_sections.specs.formats.Segments.{data_segment}

-- A section's content: its size and its body.
abbrev pub one_of : {V : Type 0} → (V → ModuleSectionParts) → (ModuleSectionParts → Option V) → Format V → Format ModuleSectionParts
one_of make part F = made make part (sized F)

-- The content of a section that is a list: its size, a count and as many items.
abbrev pub list_of : {V : Type 0} → (List V → ModuleSectionParts) → (ModuleSectionParts → Option (List V)) → Format V → Format ModuleSectionParts
list_of make part F = one_of make part (items F)

-- A section with its content: its id, its size and its body.
-- section_N(X) ::= N:byte len:u32 x:X ⇒ x (if len = ||X||), for each N and X of the standard:
--   customsec ::= section_0(custom)
--   typesec ::= rt*:section_1(list(rectype)) ⇒ rt*
--   importsec ::= im*:section_2(list(import)) ⇒ im*
--   funcsec ::= x*:section_3(list(typeidx)) ⇒ x*
--   tablesec ::= tab*:section_4(list(table)) ⇒ tab*
--   memsec ::= mem*:section_5(list(mem)) ⇒ mem*, mem ::= mt:memtype ⇒ memory mt
--   globalsec ::= glob*:section_6(list(global)) ⇒ glob*
--   exportsec ::= ex*:section_7(list(export)) ⇒ ex*
--   startsec ::= st?:section_8(start) ⇒ st?, start ::= x:funcidx ⇒ start x
--   elemsec ::= elem*:section_9(list(elem)) ⇒ elem*
--   codesec ::= code*:section_10(list(code)) ⇒ code*
--   datasec ::= data*:section_11(list(data)) ⇒ data*
--   datacntsec ::= n?:section_12(u32) ⇒ n?
--   tagsec ::= tag*:section_13(list(tag)) ⇒ tag*, tag ::= jt:tagtype ⇒ tag jt
unfoldable pub module_section : Format ModuleSectionParts
module_section = any_of
    (tagged section_id 0 (one_of custom custom_part custom_body)
    (tagged section_id 1 (list_of types type_entries_part recursive_type)
    (tagged section_id 2 (list_of imports imports_part import_entry)
    (tagged section_id 3 (list_of functions function_indexes_part u32)
    (tagged section_id 4 (list_of tables tables_part table_entry)
    (tagged section_id 5 (list_of memories memories_part memory_type)
    (tagged section_id 6 (list_of globals globals_part global_entry)
    (tagged section_id 7 (list_of exports exports_part export_entry)
    (tagged section_id 8 (one_of start start_part u32)
    (tagged section_id 9 (list_of elements elements_part element_segment)
    (tagged section_id 10 (list_of code code_part code_body)
    (tagged section_id 11 (list_of data_segments data_segments_part data_segment)
    (tagged section_id 12 (one_of data_count data_count_part u32)
    (tagged section_id 13 (list_of tags tags_part tag_type)
    no_other))))))))))))))

-- A module whose sections are all decoded.
-- module ::= magic version section*, with nothing left over. Here sections may have any order and number, and counts
-- needn't agree.
abbrev pub whole_module : Format (List ModuleSectionParts)
whole_module = module_of module_section

-- The bytes encode these sections, each of them minimally.
abbrev pub MinimalWholeModule : Grammar (List ModuleSectionParts)
MinimalWholeModule = (module_of (minimal_only module_section)).Encodes

-- If the bytes are a minimally encoded module, so is the result.
abbrev pub KeepsMinimal : List ℕ → List ℕ → Type 0
KeepsMinimal bytes result = EncodesSome MinimalWholeModule bytes → EncodesSome MinimalWholeModule result

-- The section is minimally encoded, with its content.
abbrev pub IsMinimalSection : SectionParts → Type 0
IsMinimalSection section = EncodesSome (minimal_only module_section).Encodes (raw_section.bytes section)

-- ---- by kinds

-- The property of the kind of section with this id: of a list's items, of another body, or of an unknown id. Each
-- property takes a format and the format of the section's content.
pub data OfKind (Listed Body : (V : Type 0) → Format V → Format ModuleSectionParts → Type 0) (Unknown : Type 0) (id : ℕ) : Type 0 where
  of_custom : id ≡ 0 → Body _ custom_body (one_of custom custom_part custom_body) → OfKind Listed Body Unknown id
  of_types : id ≡ 1 → Listed _ recursive_type (list_of types type_entries_part recursive_type) → OfKind Listed Body Unknown id
  of_imports : id ≡ 2 → Listed _ import_entry (list_of imports imports_part import_entry) → OfKind Listed Body Unknown id
  of_functions : id ≡ 3 → Listed _ u32 (list_of functions function_indexes_part u32) → OfKind Listed Body Unknown id
  of_tables : id ≡ 4 → Listed _ table_entry (list_of tables tables_part table_entry) → OfKind Listed Body Unknown id
  of_memories : id ≡ 5 → Listed _ memory_type (list_of memories memories_part memory_type) → OfKind Listed Body Unknown id
  of_globals : id ≡ 6 → Listed _ global_entry (list_of globals globals_part global_entry) → OfKind Listed Body Unknown id
  of_exports : id ≡ 7 → Listed _ export_entry (list_of exports exports_part export_entry) → OfKind Listed Body Unknown id
  of_start : id ≡ 8 → Body _ u32 (one_of start start_part u32) → OfKind Listed Body Unknown id
  of_elements : id ≡ 9 → Listed _ element_segment (list_of elements elements_part element_segment) → OfKind Listed Body Unknown id
  of_code : id ≡ 10 → Listed _ code_body (list_of code code_part code_body) → OfKind Listed Body Unknown id
  of_data : id ≡ 11 → Listed _ data_segment (list_of data_segments data_segments_part data_segment) → OfKind Listed Body Unknown id
  of_data_count : id ≡ 12 → Body _ u32 (one_of data_count data_count_part u32) → OfKind Listed Body Unknown id
  of_tags : id ≡ 13 → Listed _ tag_type (list_of tags tags_part tag_type) → OfKind Listed Body Unknown id
  of_unknown : 13 < id → Unknown → OfKind Listed Body Unknown id

-- The property holds of the items of a section with this id.
abbrev pub OfItems : ((V : Type 0) → Format V → Type 0) → ℕ → Type 0
OfItems P id = OfKind (λ V F C. P V F) (λ V F C. ⊥) ⊥ id

-- The content begins with a size and a list, which breaks off at the item with this index.
abbrev pub BreaksInList : {V : Type 0} → Format V → List ℕ → ℕ → Type 0
BreaksInList F = BreaksInBody (BreaksAtItem u32 F)

-- The bytes begin with a section whose list breaks off at the item with this index.
pub record BreaksInSection (bytes : List ℕ) (index : ℕ) : Type 0 where
  pub id : ℕ
  pub content : List ℕ
  pub parts : bytes ≡ id ∷ content
  pub breaks : OfItems (λ V F. BreaksInList F content index) id

-- Sections with this id hold a list of items.
abbrev pub HoldsItems : ℕ → Type 0
HoldsItems id = OfItems (λ V F. ⊤) id
