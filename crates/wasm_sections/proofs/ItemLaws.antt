-- The laws of items of sections, and of methods that add one.
use Rattle.std.proofs.Common.{◌≡◌, ℕ, ◌+◌, ◌++◌, ◌<◌, ◌^◌, ◌⊎◌, List, length, inl, inr, Result, Ok, Err, OnOk, OnErr, IfErr, refl, subst, arith}
use Rattle.wasm_codec.specs.declared.encode.EncodeError.{EncodeError}
use Rattle.wasm_codec.specs.declared.encode.EncodeError.TheVariants.{TooLong}
use Rattle.wasm_codec.specs.Encoding.{byte_list_bytes, IsCount, IsMinimal}
use Rattle.wasm_codec.specs.Leb128.{unsigned_leb128}
use Rattle.wasm_codec.specs.formats.Numbers.{EncodesU32}
use Rattle.wasm_codec.specs.Lawful.{IsLawful}
use Rattle.wasm_codec.specs.formats.Combinators.{Format, items, u32}
use Rattle.wasm_codec.proofs.FormatLaws.{Lawful-u32}
use Rattle.wasm_codec.proofs.NumberLaws.{written}
use Rattle.wasm_instructions.specs.formats.Instructions.{Instruction}
use Rattle.wasm_sections.specs.declared.elements.Element.{Element}
use Rattle.wasm_sections.specs.declared.elements.ElementMode.TheVariants as modes
use Rattle.wasm_sections.specs.declared.elements.Elements.{Elements}
use Rattle.wasm_sections.specs.declared.globals.Global.{Global}
use Rattle.wasm_sections.specs.declared.tables.Table.{Table}
use Rattle.wasm_externals.specs.declared.types.GlobalType.{GlobalType}
use Rattle.wasm_externals.specs.declared.limits.MemoryType.{MemoryType}
use Rattle.wasm_externals.specs.declared.limits.TableType.{TableType}
use Rattle.wasm_externals.specs.declared.types.TagType.{TagType}
use Rattle.wasm_sections.specs.ClosedEntries.{AreClosed, IsClosedData, IsClosedElement, IsClosedGlobal, IsClosedTable, IsCountedElement}
use Rattle.wasm_externals.specs.ClosedExpressions.{IsClosed}
use Rattle.wasm_sections.specs.formats.Elements.{element, element_segment}
use Rattle.wasm_sections.specs.formats.Entries.{filled_of, global_of}
use Rattle.wasm_sections.specs.formats.Segments.{active_data}
use Rattle.wasm_sections.specs.formats.EntryParts.{data_parts, export_parts, import_parts}
use Rattle.wasm_sections.specs.formats.ModuleSectionParts.{ModuleSectionParts, data_count, start}
use Rattle.wasm_sections.specs.SectionBytes.{IsBodyOf, IsSectionAfter}
use Rattle.wasm_sections.proofs.ElementLaws.{element_is_lawful}
use Rattle.wasm_externals.proofs.ExternalLaws.{memory_is_lawful, tag_is_lawful}
use Rattle.wasm_sections.proofs.EntryLaws.{export_is_lawful, global_is_lawful, import_is_lawful, table_is_lawful}
use Rattle.wasm_sections.proofs.ModuleSectionLaws.{data_count_kind, data_segments_kind, elements_kind, exports_kind, functions_kind, globals_kind, imports_kind, memories_kind, start_kind, tables_kind, tags_kind, is_body_of, section_written}
use Rattle.wasm_sections.proofs.SegmentLaws.{data_is_lawful}
use Rattle.wasm_lists.specs.EncodedLists.{EncodedItems, IsFull, IsMemoryOrTooLong, IsUncounted}
use Rattle.wasm_lists.proofs.EncodedListLaws.{both_or, counted_or, which}
use Rattle.wasm_sections.proofs.ListSectionLaws.{adds_one}
use Rattle.wasm_sections.specs.ElementSections.{AddsSegment}
use Rattle.wasm_sections.specs.SectionKinds.{SectionOf, data_section, element_section, export_section, function_section, global_section, import_section, memory_section, table_section, tag_section}
use Rattle.wasm_sections.specs.ListSections.{Adds, AddsIf, GainsItem, LawfulEntry, LawfulIf}

-- ---- sections of one number

pub number_written : (n : ℕ) → n < 2 ^ 32 → IsMinimal u32.Encodes u32.bytes n
number_written n fits = written Lawful-u32.minimal n fits

short_number : (n : ℕ) → n < 2 ^ 32 → IsCount (length (unsigned_leb128 n))
unfolding EncodesU32
short_number n fits = omega (arith, (number_written n fits).encodes.1)

number_section : (id : ℕ) (section : ℕ → ModuleSectionParts) → IsBodyOf id section u32 → (n : ℕ) → n < 2 ^ 32 → IsSectionAfter id (byte_list_bytes (unsigned_leb128 n)) (section n)
number_section id section of n fits = section_written section u32 of n (unsigned_leb128 n) (short_number n fits) (number_written n fits).encodes refl

pub start_written : (n : ℕ) → n < 2 ^ 32 → IsSectionAfter 8 (byte_list_bytes (unsigned_leb128 n)) (start n)
start_written n fits = number_section 8 start (is_body_of start_kind) n fits

pub data_count_written : (n : ℕ) → n < 2 ^ 32 → IsSectionAfter 12 (byte_list_bytes (unsigned_leb128 n)) (data_count n)
data_count_written n fits = number_section 12 data_count (is_body_of data_count_kind) n fits

-- ---- sections of items

module _ {T V : Type 0} (view : T → V) (S : SectionOf V) (law : IsLawful S.format) (body : IsBodyOf S.id S.holding (items S.format)) where
  entries_lawful : LawfulEntry view S
  entries_lawful = record { lawful = law; bytes = λ item. refl; written = λ item written fits. written; body = body }

  fitting_lawful : (Fits : T → Type 0) → LawfulIf view S Fits
  fitting_lawful Fits = record { lawful = law; bytes = λ item. refl; written = λ item written fits. written fits; body = body }

pub imports_lawful : LawfulEntry import_parts import_section
imports_lawful = entries_lawful import_parts import_section import_is_lawful (is_body_of imports_kind)

pub functions_lawful : LawfulEntry (λ (index : ℕ). index) function_section
functions_lawful = entries_lawful (λ (index : ℕ). index) function_section Lawful-u32 (is_body_of functions_kind)

pub tables_lawful : LawfulIf (λ (table : Table). table) table_section IsClosedTable
tables_lawful = fitting_lawful (λ (table : Table). table) table_section table_is_lawful (is_body_of tables_kind) IsClosedTable

pub memories_lawful : LawfulEntry (λ (memory : MemoryType). memory) memory_section
memories_lawful = entries_lawful (λ (memory : MemoryType). memory) memory_section memory_is_lawful (is_body_of memories_kind)

pub globals_lawful : LawfulIf (λ (global : Global). global) global_section IsClosedGlobal
globals_lawful = fitting_lawful (λ (global : Global). global) global_section global_is_lawful (is_body_of globals_kind) IsClosedGlobal

pub exports_lawful : LawfulEntry export_parts export_section
exports_lawful = entries_lawful export_parts export_section export_is_lawful (is_body_of exports_kind)

pub elements_lawful : LawfulIf (λ (element : Element). element) element_section IsClosedElement
elements_lawful = fitting_lawful (λ (element : Element). element) element_section element_is_lawful (is_body_of elements_kind) IsClosedElement

pub data_lawful : LawfulIf data_parts data_section (λ segment. IsClosedData segment.mode)
data_lawful = fitting_lawful data_parts data_section data_is_lawful (is_body_of data_segments_kind) (λ segment. IsClosedData segment.mode)

pub tags_lawful : LawfulEntry (λ (tag : TagType). tag) tag_section
tags_lawful = entries_lawful (λ (tag : TagType). tag) tag_section tag_is_lawful (is_body_of tags_kind)

-- ---- items of a constant expression

pub filled_lawful : (ty : TableType) → LawfulIf (λ (e : List Instruction). filled_of (ty, e)) table_section IsClosed
filled_lawful ty = fitting_lawful (λ (e : List Instruction). filled_of (ty, e)) table_section table_is_lawful (is_body_of tables_kind) IsClosed

pub global_of_lawful : (ty : GlobalType) → LawfulIf (λ (e : List Instruction). global_of (ty, e)) global_section IsClosed
global_of_lawful ty = fitting_lawful (λ (e : List Instruction). global_of (ty, e)) global_section global_is_lawful (is_body_of globals_kind) IsClosed

pub active_lawful : (memory : ℕ) (bytes : List ℕ) → LawfulIf (λ (e : List Instruction). active_data memory (e, bytes)) data_section IsClosed
active_lawful memory bytes = fitting_lawful (λ (e : List Instruction). active_data memory (e, bytes)) data_section data_is_lawful (is_body_of data_segments_kind) IsClosed

pub active_element_lawful : (table : ℕ) (elements : Elements) → LawfulIf (λ (e : List Instruction). element (modes.Active table e) elements) element_section (λ e. IsClosed e × AreClosed elements)
active_element_lawful table elements = fitting_lawful (λ (e : List Instruction). element (modes.Active table e) elements) element_section element_is_lawful (is_body_of elements_kind) (λ e. IsClosed e × AreClosed elements)

-- ---- methods that add an item

-- why an item isn't added: memory ran out, the list is full, or the item can't be written
abbrev IsRefused : Type 0 → EncodedItems → EncodeError → Type 0
IsRefused Can old e = IsMemoryOrTooLong (IsFull old) e ⊎ ((Can → ⊥) × (e ≡ TooLong))

refused : {X : Type 0} {Can Long : Type 0} (r : Result X EncodeError) (old : EncodedItems) → ((Can → ⊥) → Long) → IfErr r (IsRefused Can old) → IfErr r (IsMemoryOrTooLong (IsFull old ⊎ Long))
refused (Ok x) old why none = tt
refused (Err e) old why (inl (inl memory)) = inl memory
refused (Err e) old why (inl (inr (is, full))) = inr (is, inl full)
refused (Err e) old why (inr (cannot, is)) = inr (is, inr (why cannot))

-- A method passes the item on, to the same list. So it promises what adding the item promises, and why it may refuse.
module _ {V : Type 0} (F : Format V) (was old new : EncodedItems) (item : V) (r : Result (Unit {0}) EncodeError) (same : was ≡ old) where
  gained : {Fits Rest : Type 0} (s : Result (Unit {0}) EncodeError) → (Rest → Fits) → OnOk s (Fits → GainsItem F was item new) → OnOk s (Rest → GainsItem F was item new)
  gained (Ok x) fits gains = λ rest. gains (fits rest)
  gained (Err e) fits gains = tt

  gained_now : {Fits : Type 0} (s : Result (Unit {0}) EncodeError) → Fits → OnOk s (Fits → GainsItem F was item new) → OnOk s (GainsItem F was item new)
  gained_now (Ok x) fits gains = gains fits
  gained_now (Err e) fits gains = tt

  adds_or : {Fits Can Long : Type 0} → Fits → ((Can → ⊥) → Long) → AddsIf F Fits was item new (IsRefused Can was) r → Adds (GainsItem F) old item new (IsMemoryOrTooLong (IsFull old ⊎ Long)) r
  adds_or {Long = Long} fits why adds =
      subst (λ (list : EncodedItems). Adds (GainsItem F) list item new (IsMemoryOrTooLong (IsFull list ⊎ Long)) r) same
      (record { gains = gained_now r fits adds.gains; same = adds.same; refused = refused r was why adds.refused })

  full : (s : Result (Unit {0}) EncodeError) → IfErr s (IsRefused (Unit {0}) was) → IfErr s (IsMemoryOrTooLong (IsFull was))
  full (Ok x) none = tt
  full (Err e) (inl refused) = refused
  full (Err e) (inr (cannot, is)) = absurd (cannot tt)

  -- an item that always has an encoding
  pub adds_always : AddsIf F (Unit {0}) was item new (IsRefused (Unit {0}) was) r → Adds (GainsItem F) old item new (IsMemoryOrTooLong (IsFull old)) r
  adds_always adds = subst (λ (list : EncodedItems). Adds (GainsItem F) list item new (IsMemoryOrTooLong (IsFull list)) r) same (record { gains = gained_now r tt adds.gains; same = adds.same; refused = full r adds.refused })

  pub adds_named : (name : List ℕ) → AddsIf F (Unit {0}) was item new (IsRefused (IsCount (length name)) was) r → Adds (GainsItem F) old item new (IsMemoryOrTooLong (IsFull old ⊎ IsUncounted (length name))) r
  adds_named name adds = adds_or tt (which (counted_or (length name))) adds

  pub adds_twice_named : (first second : List ℕ) → AddsIf F (Unit {0}) was item new (IsRefused (IsCount (length first) × IsCount (length second)) was) r
      → Adds (GainsItem F) old item new (IsMemoryOrTooLong (IsFull old ⊎ (IsUncounted (length first) ⊎ IsUncounted (length second)))) r
  adds_twice_named first second adds = adds_or tt (which (both_or (counted_or (length first)) (counted_or (length second)))) adds

  pub adds_counted : (Fits Can : Type 0) → Fits → AddsIf F Fits was item new (IsRefused Can was) r → Adds (GainsItem F) old item new (IsMemoryOrTooLong (IsFull old ⊎ (Can → ⊥))) r
  adds_counted Fits Can fits adds = adds_or fits (λ cannot. cannot) adds

  pub adds_closed : (Closed Rest Can : Type 0) → Closed → AddsIf F (Closed × Rest) was item new (IsRefused Can was) r → AddsIf F Rest old item new (IsMemoryOrTooLong (IsFull old ⊎ (Can → ⊥))) r
  adds_closed Closed Rest Can closed adds =
      subst (λ (list : EncodedItems). AddsIf F Rest list item new (IsMemoryOrTooLong (IsFull list ⊎ (Can → ⊥))) r) same
      (record { count = adds.count; bytes = adds.bytes; gains = gained r (λ rest. (closed, rest)) adds.gains; same = adds.same; refused = refused r was (λ cannot. cannot) adds.refused })

-- the same, of an item with the instructions of a closed expression
module _ (calls expr : List Instruction) (is : calls ≡ expr) (closed : IsClosed expr) (was old new : EncodedItems) (r : Result (Unit {0}) EncodeError) (same : was ≡ old) where
  adds_with : {V : Type 0} (F : Format V) (item : List Instruction → V) (IsCounted : V → Type 0) → AddsIf F (IsClosed calls) was (item calls) new (IsRefused (IsCounted (item calls)) was) r
      → Adds (GainsItem F) old (item expr) new (IsMemoryOrTooLong (IsFull old ⊎ (IsCounted (item expr) → ⊥))) r
  adds_with F item IsCounted adds =
      adds_counted F was old new (item expr) r same (IsClosed expr) (IsCounted (item expr)) closed
      (subst (λ (e : List Instruction). AddsIf F (IsClosed e) was (item e) new (IsRefused (IsCounted (item e)) was) r) is adds)

  -- the same, from what the list of encoded items promises
  pub adds_parts : {V : Type 0} (S : SectionOf V) (item : List Instruction → V) (IsCounted : V → Type 0) → LawfulIf item S IsClosed
      → OnOk r (new.count ≡ was.count + 1) → OnOk r (new.bytes ≡ was.bytes ++ S.format.bytes (item calls)) → OnOk r (IsClosed calls → IsMinimal S.format.Encodes S.format.bytes (item calls)) → OnErr r (new ≡ was)
      → IfErr r (IsRefused (IsCounted (item calls)) was) → Adds (GainsItem S.format) old (item expr) new (IsMemoryOrTooLong (IsFull old ⊎ (IsCounted (item expr) → ⊥))) r
  adds_parts S item IsCounted law count bytes written unchanged refused =
      adds_with S.format item IsCounted (adds_one law was new calls (IsRefused (IsCounted (item calls)) was) r count bytes written unchanged refused)

  pub adds_elements : (table : ℕ) (elements : Elements) → OnOk r (new.count ≡ was.count + 1) → OnOk r (new.bytes ≡ was.bytes ++ element_segment.bytes (element (modes.Active table calls) elements))
      → OnOk r (IsClosed calls × AreClosed elements → IsMinimal element_segment.Encodes element_segment.bytes (element (modes.Active table calls) elements)) → OnErr r (new ≡ was)
      → IfErr r (IsRefused (IsCountedElement (element (modes.Active table calls) elements)) was) → AddsSegment (modes.Active table expr) elements old new r
  adds_elements table elements count bytes written unchanged refused =
      let one = adds_one (active_element_lawful table elements) was new calls (IsRefused (IsCountedElement (element (modes.Active table calls) elements)) was) r count bytes written unchanged refused in
      adds_closed element_segment was old new (element (modes.Active table expr) elements) r same (IsClosed expr) (AreClosed elements) (IsCountedElement (element (modes.Active table expr) elements)) closed
      (subst (λ (e : List Instruction). AddsIf element_segment (IsClosed e × AreClosed elements) was (element (modes.Active table e) elements) new (IsRefused (IsCountedElement (element (modes.Active table e) elements)) was) r) is one)
