-- The laws of decoded sections that are written.
use Rattle.std.proofs.Common.{◌≡◌, ℕ, ◌^◌, ◌<◌, inl, inr, List, [], ◌∷◌, ◌++◌, length, map, drop, Result, Ok, Err, OnOk, OnErr, IfErr, refl, sym, ap, ◌∙◌, subst, arith}
use Rattle.std.specs.List.{All, AllByRecursion, flat_map}
use Rattle.std.proofs.lemmas.List.Elements.{All-nil, All-cons}
use Rattle.std.proofs.lemmas.List.{length-map, map-id}
use Rattle.wasm_codec.specs.declared.encode.EncodeError.{EncodeError}
use Rattle.wasm_codec.specs.declared.encode.EncodeError.TheVariants.{Memory, TooLong}
use Rattle.wasm_codec.specs.Encoding.{byte_list_bytes, IsCount, IsRefusal, IsMinimal, OnlyTooLong}
use Rattle.wasm_codec.specs.Leb128.{unsigned_leb128}
use Rattle.wasm_codec.specs.Lists.{items_bytes}
use Rattle.wasm_codec.specs.formats.Bodies.{sized}
use Rattle.wasm_codec.specs.formats.Combinators.{items, u32}
use Rattle.wasm_codec.proofs.FormatLaws.{Lawful-items}
use Rattle.wasm_lists.specs.EncodedLists.{EncodedItems, StandsForAll}
use Rattle.wasm_lists.proofs.EncodedListLaws.{values_in_range, all_in_range}
use Rattle.wasm_types.specs.TypeCounts.{CountedEntry}
use Rattle.wasm_types.specs.declared.types.recursive.TypeEntry.{TypeEntry}
use Rattle.wasm_types.specs.formats.Types.{recursive_type}
use Rattle.wasm_types.proofs.TypeFormatLaws.{Lawful-recursive-type}
use Rattle.wasm_code.specs.CodeCounts.{CountedBody}
use Rattle.wasm_code.specs.declared.code.CodeBody.{CodeBody}
use Rattle.wasm_code.specs.formats.CodeBodies.{code_body}
use Rattle.wasm_code.proofs.CodeBodyLaws.{Lawful-code_body}
use Rattle.wasm_externals.specs.formats.Externals.{memory_type, tag_type}
use Rattle.wasm_sections.specs.declared.custom.CustomSection.{CustomSection}
use Rattle.wasm_sections.specs.declared.module_sections.ModuleSection.{ModuleSection}
use Rattle.wasm_sections.specs.declared.module_sections.ModuleSection.TheVariants as sections
use Rattle.wasm_sections.specs.ClosedEntries.{IsClosedData, IsClosedElement, IsClosedGlobal, IsClosedTable, IsCountedData, IsCountedElement, IsCountedGlobal, IsCountedTable}
use Rattle.wasm_sections.specs.NumberSections.{IsWrittenNumber}
use Rattle.wasm_sections.specs.formats.Elements.{element_segment}
use Rattle.wasm_sections.specs.formats.Entries.{export_entry, global_entry, import_entry, table_entry}
use Rattle.wasm_sections.specs.formats.EntryParts.{custom_parts, data_parts, export_parts, import_parts}
use Rattle.wasm_sections.specs.formats.Segments.{data_segment}
use Rattle.wasm_sections.specs.formats.ModuleSectionParts.{ModuleSectionParts, module_section_parts, section_id, custom, types, imports, functions, tables, memories, globals, exports, start, elements, code, data_segments, data_count, tags}
use Rattle.wasm_sections.specs.formats.ModuleSections.{module_section}
use Rattle.wasm_sections.specs.formats.Sections.{custom_body}
use Rattle.wasm_sections.specs.ListSections.{LawfulItem, LawfulEntry}
use Rattle.wasm_sections.specs.SectionKinds.{SectionOf}
use Rattle.wasm_sections.specs.SectionBytes.{CountedCustom, IsSectionAfter}
use Rattle.wasm_sections.specs.WrittenSections.{content_bytes, CountedContent, CountedList, EncodesContent, IsClosedContent, IsSizedListRefusal, IsWrittenContent, WrittenContent}
use Rattle.wasm_sections.proofs.CountedSections.{body_counted, custom_counted, data_counted, element_counted, entry_counted, export_counted, global_counted, import_counted, table_counted}
use Rattle.wasm_sections.proofs.ListSectionLaws.{all_bytes, all_written}
use Rattle.wasm_sections.proofs.ItemLaws.{data_lawful, elements_lawful, exports_lawful, functions_lawful, globals_lawful, imports_lawful, memories_lawful, tables_lawful, tags_lawful}
use Rattle.wasm_sections.proofs.ModuleSectionLaws.{IsKind, code_kind, custom_kind, data_count_kind, data_segments_kind, elements_kind, exports_kind, functions_kind, globals_kind, imports_kind, memories_kind, start_kind, tables_kind, tags_kind, types_kind, is_body_of, module_section_is_lawful, section_written}

-- ---- the bytes after the id

pub content_after_id : (section : ModuleSectionParts) → module_section.bytes section ≡ section_id section ∷ content_bytes section
unfolding module_section
content_after_id (custom c) = refl
content_after_id (types ts) = refl
content_after_id (imports is) = refl
content_after_id (functions fs) = refl
content_after_id (tables ts) = refl
content_after_id (memories ms) = refl
content_after_id (globals gs) = refl
content_after_id (exports es) = refl
content_after_id (start f) = refl
content_after_id (elements es) = refl
content_after_id (code bs) = refl
content_after_id (data_segments ds) = refl
content_after_id (data_count n) = refl
content_after_id (tags ts) = refl

-- what some bytes encode has its minimal encoding
pub written_again : (section : ModuleSectionParts) (bytes : List ℕ) → module_section.Encodes bytes section → IsWrittenContent section
written_again section bytes g =
    let is = content_after_id section in
    (subst (λ (b : List ℕ). module_section.Encodes b section) is (module_section_is_lawful.minimal.again bytes section g), sym is)

-- ---- lists of items

-- the items of a lawful section, and what is written of them
module _ {T V : Type 0} {encoding : T → List ℕ} {IsWritten Fits : T → Type 0} {view : T → V} {S : SectionOf V} (law : LawfulItem encoding IsWritten Fits view S) where
  body_is : (xs : List T) → (items S.format).bytes (map view xs) ≡ items_bytes encoding xs
  body_is xs = rw (length-map xs view) (ap (λ (t : List ℕ). unsigned_leb128 (length xs) ++ t) (sym (all_bytes law xs)))

  content_is : IsKind S.id S.holding (items S.format) → (xs : List T) → content_bytes (S.holding (map view xs)) ≡ byte_list_bytes (items_bytes encoding xs)
  content_is kind xs = ap (drop 1) (kind.bytes_are (map view xs)) ∙ ap byte_list_bytes (body_is xs)

  in_range : (xs : List T) → IsCount (length xs) → All IsWritten xs → All Fits xs → (items S.format).InRange (map view xs)
  in_range xs few written fit =
      let values = map view xs in
      let list : EncodedItems = record { count = length values; bytes = flat_map S.format.bytes values } in
      let stands : StandsForAll S.format (λ v. Unit {0}) list values = record { count = refl; bytes = refl; can = λ k d lt. tt; in_range = all_in_range S.format law.lawful values (all_written law xs written fit) } in
      values_in_range S.format (λ v. Unit {0}) list values (subst IsCount (sym (length-map xs view)) few) stands

  list_written : (Can : T → Type 0) (xs : List T) → CountedList encoding Can xs → All IsWritten xs → All Fits xs → IsWrittenContent (S.holding (map view xs))
  list_written Can xs can written fit =
      let values = map view xs in
      let encoded = (Lawful-items law.lawful).minimal.encodes values (in_range xs can.0.0 written fit) in
      let few : IsCount (length ((items S.format).bytes values)) = subst (λ (t : List ℕ). IsCount (length t)) (sym (body_is xs)) can.1 in
      let after : IsSectionAfter S.id (byte_list_bytes ((items S.format).bytes values)) (S.holding values) = section_written S.holding (items S.format) law.body values ((items S.format).bytes values) few encoded refl in
      written_again (S.holding values) (S.id ∷ byte_list_bytes ((items S.format).bytes values)) after.0

  closed_written : {X E : Type 0} (Can : T → Type 0) (r : Result X E) (section : ModuleSection) (xs : List T) → module_section_parts section ≡ S.holding (map view xs) → (IsClosedContent section → All Fits xs) → OnOk r (CountedList encoding Can xs) → OnOk r (All IsWritten xs)
      → OnOk r (IsClosedContent section → IsWrittenContent (module_section_parts section))
  closed_written Can (Ok x) section xs parts closes can written = λ closed. subst IsWrittenContent (sym parts) (list_written Can xs can written (closes closed))
  closed_written Can (Err e) section xs parts closes can written = tt

  all_counted : (Can : T → Type 0) → ((x : T) → S.format.InRange (view x) → Can x) → (xs : List T) → AllByRecursion S.format.InRange (map view xs) → All Can xs
  all_counted Can each [] fits = All-nil Can
  all_counted Can each (x ∷ xs) fits = All-cons Can x xs (each x fits.0) (all_counted Can each xs fits.1)

  counted_list : (Can : T → Type 0) → ((x : T) → S.format.InRange (view x) → Can x) → (xs : List T) → (sized (items S.format)).InRange (map view xs) → CountedList encoding Can xs
  counted_list Can each xs fits = ((subst IsCount (length-map xs view) fits.0.0, all_counted Can each xs fits.0.1), subst (λ (t : List ℕ). IsCount (length t)) (body_is xs) fits.1)

abbrev types_section : SectionOf TypeEntry
types_section = record { id = 1; format = recursive_type; holding = types }

types_lawful : LawfulEntry (λ (entry : TypeEntry). entry) types_section
types_lawful = record { lawful = Lawful-recursive-type; bytes = λ item. refl; written = λ item written fits. written; body = is_body_of types_kind }

abbrev code_section : SectionOf CodeBody
code_section = record { id = 10; format = code_body; holding = code }

code_lawful : LawfulEntry (λ (body : CodeBody). body) code_section
code_lawful = record { lawful = Lawful-code_body; bytes = λ item. refl; written = λ item written fits. written; body = is_body_of code_kind }

-- ---- what some bytes encode can be written

abbrev Always : {T : Type 0} → T → Type 0
Always x = Unit {0}

-- a list of values that are in range
counted_values : {V : Type 0} {IsWritten Fits : V → Type 0} {S : SectionOf V} → LawfulItem S.format.bytes IsWritten Fits (λ v. v) S → (Can : V → Type 0) → ((v : V) → S.format.InRange v → Can v) → (vs : List V) → (sized (items S.format)).InRange vs → CountedList S.format.bytes Can vs
counted_values {S = S} law Can each vs fits = counted_list law Can each vs (subst (sized (items S.format)).InRange (sym (map-id vs)) fits)

pub section_counted : (section : ModuleSection) → module_section.InRange (module_section_parts section) → CountedContent section
unfolding module_section
section_counted (sections.Custom c) fits = custom_counted (custom_parts c) fits.0
section_counted (sections.Types entries) fits = counted_values types_lawful CountedEntry entry_counted entries fits.0
section_counted (sections.Imports entries) fits = counted_list imports_lawful (λ i. IsCount (length i.module.now) × IsCount (length i.field.now)) (λ i. import_counted (import_parts i)) entries fits.0
section_counted (sections.Functions indexes) fits = counted_values functions_lawful Always (λ n few. tt) indexes fits.0
section_counted (sections.Tables entries) fits = counted_values tables_lawful IsCountedTable table_counted entries fits.0
section_counted (sections.Memories entries) fits = counted_values memories_lawful Always (λ m few. tt) entries fits.0
section_counted (sections.Globals entries) fits = counted_values globals_lawful IsCountedGlobal global_counted entries fits.0
section_counted (sections.Exports entries) fits = counted_list exports_lawful (λ e. IsCount (length e.name.now)) (λ e. export_counted (export_parts e)) entries fits.0
section_counted (sections.Start function) fits = tt
section_counted (sections.Elements segments) fits = counted_values elements_lawful IsCountedElement element_counted segments fits.0
section_counted (sections.Code bodies) fits = counted_values code_lawful CountedBody body_counted bodies fits.0
section_counted (sections.Data segments) fits = counted_list data_lawful (λ d. IsCountedData (data_parts d)) (λ d. data_counted (data_parts d)) segments fits.0
section_counted (sections.DataCount count) fits = tt
section_counted (sections.Tags entries) fits = counted_values tags_lawful Always (λ t few. tt) entries fits.0

-- ---- the `encode` of a section

where_closed : {T E : Type 0} (r : Result T E) (section : ModuleSection) → OnOk r (IsClosedContent section → IsWrittenContent (module_section_parts section)) → OnOk r (WrittenContent section)
where_closed (Ok x) section closed = record { closed = closed; encoded = λ bytes g. written_again (module_section_parts section) bytes g }
where_closed (Err e) section closed = tt

memory_alone : {X : Type 0} (r : Result X EncodeError) (section : ModuleSection) → IfErr r (IsRefusal CountedContent OnlyTooLong section) → (bytes : List ℕ) → module_section.Encodes bytes (module_section_parts section) → IfErr r (λ e. e ≡ Memory)
memory_alone (Ok x) section none bytes g = tt
memory_alone (Err e) section (inl memory) bytes g = memory
memory_alone (Err e) section (inr (cannot, is)) bytes g = absurd (cannot (section_counted section (module_section_is_lawful.in_range bytes (module_section_parts section) g)))

-- from what holds of the bytes after the id
pub encodes_content : (section : ModuleSection) (old new content : List ℕ) (r : Result (Unit {0}) EncodeError) → content_bytes (module_section_parts section) ≡ content → OnOk r (new ≡ old ++ content) → OnOk r (CountedContent section)
    → OnOk r (IsClosedContent section → IsWrittenContent (module_section_parts section)) → IfErr r (IsRefusal CountedContent OnlyTooLong section) → OnErr r (new ≡ old) → EncodesContent section old new r
encodes_content section old new content r is ok can closed refused err = record {
  ok = subst (λ (t : List ℕ). OnOk r (new ≡ old ++ t)) (sym is) ok;
  can = can;
  written = where_closed r section closed;
  refused = refused;
  memory = memory_alone r section refused;
  err = err;
  bytes = content_after_id (module_section_parts section);
}

-- ---- lists after their size

-- why a list after its size isn't written
too_long : {T : Type 0} (encoding : T → List ℕ) (Can : T → Type 0) (refuses : T → EncodeError → Type 0) (xs : List T) (e : EncodeError) → ((x : T) (f : EncodeError) → refuses x f → f ≡ TooLong) → IsSizedListRefusal encoding Can refuses xs e → IsRefusal (CountedList encoding Can) OnlyTooLong xs e
too_long encoding Can refuses xs e only (inl (inl memory)) = inl memory
too_long encoding Can refuses xs e only (inl (inr (inl (is, long)))) = inr (λ can. let few : length xs < 2 ^ 32 = can.0.0 in omega (arith, few, long), is)
too_long encoding Can refuses xs e only (inl (inr (inr (k, x, lt, at, (cannot, refused))))) = inr (λ can. cannot (subst Can at (can.0.1 k x lt)), only x e refused)
too_long encoding Can refuses xs e only (inr (is, long)) = inr (λ can. let few : length (items_bytes encoding xs) < 2 ^ 32 = can.1 in omega (arith, few, long), is)

list_refused : {X T : Type 0} (encoding : T → List ℕ) (Can : T → Type 0) (refuses : T → EncodeError → Type 0) (r : Result X EncodeError) (section : ModuleSection) (xs : List T) → ((x : T) (f : EncodeError) → refuses x f → f ≡ TooLong) → (CountedContent section → CountedList encoding Can xs)
    → IfErr r (IsSizedListRefusal encoding Can refuses xs) → IfErr r (IsRefusal CountedContent OnlyTooLong section)
list_refused encoding Can refuses (Ok x) section xs only counts none = tt
list_refused encoding Can refuses (Err e) section xs only counts refused = more (too_long encoding Can refuses xs e only refused) where
  more : IsRefusal (CountedList encoding Can) OnlyTooLong xs e → IsRefusal CountedContent OnlyTooLong section e
  more (inl memory) = inl memory
  more (inr (cannot, is)) = inr (λ can. cannot (counts can), is)

list_counted : {X E T : Type 0} (encoding : T → List ℕ) (Can : T → Type 0) (r : Result X E) (section : ModuleSection) (xs : List T) → (CountedList encoding Can xs → CountedContent section) → OnOk r (CountedList encoding Can xs) → OnOk r (CountedContent section)
list_counted encoding Can (Ok x) section xs counted can = counted can
list_counted encoding Can (Err e) section xs counted can = tt

-- a section that is a list of such items
module _ {T V : Type 0} {encoding : T → List ℕ} {IsWritten Fits : T → Type 0} {view : T → V} {S : SectionOf V} (law : LawfulItem encoding IsWritten Fits view S) (kind : IsKind S.id S.holding (items S.format))
    (Can : T → Type 0) (refuses : T → EncodeError → Type 0) (only : (x : T) (f : EncodeError) → refuses x f → f ≡ TooLong) (make : List T → ModuleSection) (parts : (ys : List T) → module_section_parts (make ys) ≡ S.holding (map view ys))
    (counted : (ys : List T) → CountedList encoding Can ys → CountedContent (make ys)) (counts : (ys : List T) → CountedContent (make ys) → CountedList encoding Can ys) (closes : (ys : List T) → IsClosedContent (make ys) → All Fits ys) where
  list_of_these : (ys : List T) (old new : List ℕ) (r : Result (Unit {0}) EncodeError) → OnOk r (new ≡ old ++ byte_list_bytes (items_bytes encoding ys)) → OnOk r (CountedList encoding Can ys) → OnOk r (All IsWritten ys) → IfErr r (IsSizedListRefusal encoding Can refuses ys) → OnErr r (new ≡ old) → EncodesContent (make ys) old new r
  list_of_these ys old new r ok can written refused err =
      encodes_content (make ys) old new (byte_list_bytes (items_bytes encoding ys)) r (ap content_bytes (parts ys) ∙ content_is law kind ys) ok
      (list_counted encoding Can r (make ys) ys (counted ys) can) (closed_written law Can r (make ys) ys (parts ys) (closes ys) can written) (list_refused encoding Can refuses r (make ys) ys only (counts ys) refused) err

  list_encoded : (section : ModuleSection) (ys : List T) (old new : List ℕ) (r : Result (Unit {0}) EncodeError) → section ≡ make ys → OnOk r (new ≡ old ++ byte_list_bytes (items_bytes encoding ys)) → OnOk r (CountedList encoding Can ys) → OnOk r (All IsWritten ys) → IfErr r (IsSizedListRefusal encoding Can refuses ys) → OnErr r (new ≡ old) → EncodesContent section old new r
  list_encoded section ys old new r is ok can written refused err =
      subst (λ (s : ModuleSection). EncodesContent s old new r) (sym is) (list_of_these ys old new r ok can written refused err)

-- ---- each kind

-- a call that appends the size of a list and the list promises what the `encode` of a section does that holds the list
abbrev Gives : {T : Type 0} → (T → List ℕ) → (T → Type 0) → (T → Type 0) → (T → EncodeError → Type 0) → (List T → ModuleSection) → Type 0
Gives {T} encoding Can IsWritten refuses make =
    (section : ModuleSection) (ys : List T) (old new : List ℕ) (r : Result (Unit {0}) EncodeError) → section ≡ make ys
    → OnOk r (new ≡ old ++ byte_list_bytes (items_bytes encoding ys)) → OnOk r (CountedList encoding Can ys) → OnOk r (All IsWritten ys) → IfErr r (IsSizedListRefusal encoding Can refuses ys) → OnErr r (new ≡ old) → EncodesContent section old new r

abbrev NoError : {T : Type 0} → T → EncodeError → Type 0
NoError x e = ⊥

pub types_encoded : Gives recursive_type.bytes CountedEntry (IsMinimal recursive_type.Encodes recursive_type.bytes) OnlyTooLong sections.Types
types_encoded = list_encoded types_lawful types_kind CountedEntry OnlyTooLong (λ x e is. is) sections.Types (λ ys. ap types (sym (map-id ys))) (λ ys can. can) (λ ys can. can) (λ ys closed k d lt. tt)

pub imports_encoded : Gives (λ i. import_entry.bytes (import_parts i)) (λ i. IsCount (length i.module.now) × IsCount (length i.field.now)) (λ i. IsMinimal import_entry.Encodes import_entry.bytes (import_parts i)) OnlyTooLong sections.Imports
imports_encoded = list_encoded imports_lawful imports_kind (λ i. IsCount (length i.module.now) × IsCount (length i.field.now)) OnlyTooLong (λ x e is. is) sections.Imports (λ ys. refl) (λ ys can. can) (λ ys can. can) (λ ys closed k d lt. tt)

pub functions_encoded : Gives u32.bytes Always (IsMinimal u32.Encodes u32.bytes) NoError sections.Functions
functions_encoded = list_encoded functions_lawful functions_kind Always NoError (λ x e no. absurd no) sections.Functions (λ ys. ap functions (sym (map-id ys))) (λ ys can. can) (λ ys can. can) (λ ys closed k d lt. tt)

pub tables_encoded : Gives table_entry.bytes IsCountedTable (λ t. IsClosedTable t → IsMinimal table_entry.Encodes table_entry.bytes t) OnlyTooLong sections.Tables
tables_encoded = list_encoded tables_lawful tables_kind IsCountedTable OnlyTooLong (λ x e is. is) sections.Tables (λ ys. ap tables (sym (map-id ys))) (λ ys can. can) (λ ys can. can) (λ ys closed. closed)

pub memories_encoded : Gives memory_type.bytes Always (IsMinimal memory_type.Encodes memory_type.bytes) NoError sections.Memories
memories_encoded = list_encoded memories_lawful memories_kind Always NoError (λ x e no. absurd no) sections.Memories (λ ys. ap memories (sym (map-id ys))) (λ ys can. can) (λ ys can. can) (λ ys closed k d lt. tt)

pub globals_encoded : Gives global_entry.bytes IsCountedGlobal (λ g. IsClosedGlobal g → IsMinimal global_entry.Encodes global_entry.bytes g) OnlyTooLong sections.Globals
globals_encoded = list_encoded globals_lawful globals_kind IsCountedGlobal OnlyTooLong (λ x e is. is) sections.Globals (λ ys. ap globals (sym (map-id ys))) (λ ys can. can) (λ ys can. can) (λ ys closed. closed)

pub exports_encoded : Gives (λ e. export_entry.bytes (export_parts e)) (λ e. IsCount (length e.name.now)) (λ e. IsMinimal export_entry.Encodes export_entry.bytes (export_parts e)) OnlyTooLong sections.Exports
exports_encoded = list_encoded exports_lawful exports_kind (λ e. IsCount (length e.name.now)) OnlyTooLong (λ x e is. is) sections.Exports (λ ys. refl) (λ ys can. can) (λ ys can. can) (λ ys closed k d lt. tt)

pub elements_encoded : Gives element_segment.bytes IsCountedElement (λ e. IsClosedElement e → IsMinimal element_segment.Encodes element_segment.bytes e) OnlyTooLong sections.Elements
elements_encoded = list_encoded elements_lawful elements_kind IsCountedElement OnlyTooLong (λ x e is. is) sections.Elements (λ ys. ap elements (sym (map-id ys))) (λ ys can. can) (λ ys can. can) (λ ys closed. closed)

pub code_encoded : Gives code_body.bytes CountedBody (IsMinimal code_body.Encodes code_body.bytes) OnlyTooLong sections.Code
code_encoded = list_encoded code_lawful code_kind CountedBody OnlyTooLong (λ x e is. is) sections.Code (λ ys. ap code (sym (map-id ys))) (λ ys can. can) (λ ys can. can) (λ ys closed k d lt. tt)

pub data_encoded : Gives (λ d. data_segment.bytes (data_parts d)) (λ d. IsCountedData (data_parts d)) (λ d. IsClosedData d.mode → IsMinimal data_segment.Encodes data_segment.bytes (data_parts d)) OnlyTooLong sections.Data
data_encoded = list_encoded data_lawful data_segments_kind (λ d. IsCountedData (data_parts d)) OnlyTooLong (λ x e is. is) sections.Data (λ ys. refl) (λ ys can. can) (λ ys can. can) (λ ys closed. closed)

pub tags_encoded : Gives tag_type.bytes Always (IsMinimal tag_type.Encodes tag_type.bytes) NoError sections.Tags
tags_encoded = list_encoded tags_lawful tags_kind Always NoError (λ x e no. absurd no) sections.Tags (λ ys. ap tags (sym (map-id ys))) (λ ys can. can) (λ ys can. can) (λ ys closed k d lt. tt)

-- ---- sections that aren't lists

whole_written : {X E : Type 0} (Before : Type 0) (r : Result X E) (id : ℕ) (bytes : List ℕ) (section : ModuleSection) → OnOk r (Before × IsSectionAfter id bytes (module_section_parts section)) → OnOk r (IsClosedContent section → IsWrittenContent (module_section_parts section))
whole_written Before (Ok x) id bytes section written = λ closed. written_again (module_section_parts section) (id ∷ bytes) written.1.0
whole_written Before (Err e) id bytes section written = tt

custom_of_this : (c : CustomSection) (old new : List ℕ) (r : Result (Unit {0}) EncodeError) → OnOk r (new ≡ old ++ byte_list_bytes (custom_body.bytes (custom_parts c))) → OnOk r (CountedCustom c)
    → OnOk r (IsMinimal custom_body.Encodes custom_body.bytes (custom_parts c) × IsSectionAfter 0 (byte_list_bytes (custom_body.bytes (custom_parts c))) (custom (custom_parts c))) → IfErr r (IsRefusal CountedCustom OnlyTooLong c) → OnErr r (new ≡ old) → EncodesContent (sections.Custom c) old new r
custom_of_this c old new r ok can written refused err =
    encodes_content (sections.Custom c) old new (byte_list_bytes (custom_body.bytes (custom_parts c))) r (ap (drop 1) (custom_kind.bytes_are (custom_parts c))) ok can
    (whole_written _ r 0 (byte_list_bytes (custom_body.bytes (custom_parts c))) (sections.Custom c) written) (custom_refused r refused) err where
      custom_refused : (s : Result (Unit {0}) EncodeError) → IfErr s (IsRefusal CountedCustom OnlyTooLong c) → IfErr s (IsRefusal CountedContent OnlyTooLong (sections.Custom c))
      custom_refused (Ok x) refused = tt
      custom_refused (Err e) refused = refused

pub custom_encoded : (section : ModuleSection) (c : CustomSection) (old new : List ℕ) (r : Result (Unit {0}) EncodeError) → section ≡ sections.Custom c → OnOk r (new ≡ old ++ byte_list_bytes (custom_body.bytes (custom_parts c))) → OnOk r (CountedCustom c)
    → OnOk r (IsMinimal custom_body.Encodes custom_body.bytes (custom_parts c) × IsSectionAfter 0 (byte_list_bytes (custom_body.bytes (custom_parts c))) (custom (custom_parts c))) → IfErr r (IsRefusal CountedCustom OnlyTooLong c) → OnErr r (new ≡ old) → EncodesContent section old new r
custom_encoded section c old new r is ok can written refused err = subst (λ (s : ModuleSection). EncodesContent s old new r) (sym is) (custom_of_this c old new r ok can written refused err)

-- a section of one number is written, unless memory runs out
module _ {id : ℕ} {holding : ℕ → ModuleSectionParts} (kind : IsKind id holding u32) (make : ℕ → ModuleSection) (parts : (n : ℕ) → module_section_parts (make n) ≡ holding n) (counted : (n : ℕ) → CountedContent (make n)) where
  number_encoded : (section : ModuleSection) (n : ℕ) (old new : List ℕ) (r : Result (Unit {0}) EncodeError) → section ≡ make n → OnOk r (new ≡ old ++ byte_list_bytes (unsigned_leb128 n)) → OnOk r (IsWrittenNumber u32 id holding n) → IfErr r (IsRefusal Always NoError n) → OnErr r (new ≡ old) → EncodesContent section old new r
  number_encoded section n old new r is ok written memory err =
      subst (λ (s : ModuleSection). EncodesContent s old new r) (sym is)
      (encodes_content (make n) old new (byte_list_bytes (unsigned_leb128 n)) r (ap content_bytes (parts n) ∙ ap (drop 1) (kind.bytes_are n)) ok (always r) (number_written r written) (only_memory r memory) err) where
        always : (s : Result (Unit {0}) EncodeError) → OnOk s (CountedContent (make n))
        always (Ok x) = counted n
        always (Err e) = tt

        number_written : (s : Result (Unit {0}) EncodeError) → OnOk s (IsWrittenNumber u32 id holding n) → OnOk s (IsClosedContent (make n) → IsWrittenContent (module_section_parts (make n)))
        number_written (Ok x) w = λ closed. subst IsWrittenContent (sym (parts n)) (written_again (holding n) (id ∷ byte_list_bytes (unsigned_leb128 n)) w.1.0)
        number_written (Err e) w = tt

        only_memory : (s : Result (Unit {0}) EncodeError) → IfErr s (IsRefusal Always NoError n) → IfErr s (IsRefusal CountedContent OnlyTooLong (make n))
        only_memory (Ok x) is_memory = tt
        only_memory (Err e) (inl is_memory) = inl is_memory
        only_memory (Err e) (inr refused) = absurd refused.1

pub start_encoded : (section : ModuleSection) (n : ℕ) (old new : List ℕ) (r : Result (Unit {0}) EncodeError) → section ≡ sections.Start n → OnOk r (new ≡ old ++ byte_list_bytes (unsigned_leb128 n)) → OnOk r (IsWrittenNumber u32 8 start n) → IfErr r (IsRefusal Always NoError n) → OnErr r (new ≡ old) → EncodesContent section old new r
start_encoded = number_encoded start_kind sections.Start (λ n. refl) (λ n. tt)

pub data_count_encoded : (section : ModuleSection) (n : ℕ) (old new : List ℕ) (r : Result (Unit {0}) EncodeError) → section ≡ sections.DataCount n → OnOk r (new ≡ old ++ byte_list_bytes (unsigned_leb128 n)) → OnOk r (IsWrittenNumber u32 12 data_count n) → IfErr r (IsRefusal Always NoError n) → OnErr r (new ≡ old) → EncodesContent section old new r
data_count_encoded = number_encoded data_count_kind sections.DataCount (λ n. refl) (λ n. tt)
