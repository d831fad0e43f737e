-- The laws of sections with what they hold, of every kind, and what is read, rewritten and written of them.
use Rattle.std.proofs.Common.{◌≡◌, ℕ, ◌<◌, ◌==◌, true, false, List, ◌∷◌, Option, Some, None, refl, sym, subst, lit≤, arith, ◌≤◌, [], ◌++◌, length, Result, Ok, Err, ap, ◌∙◌, append_assoc, OnOk}
use Rattle.std.specs.List.{AllByRecursion}
use Rattle.std.proofs.lemmas.Bool.{ne_eqb}
use Rattle.std.proofs.lemmas.List.{append-nil}
use Rattle.wasm_codec.specs.Decoding.{TakesMinimal}
use Rattle.wasm_codec.specs.Lawful.{IsLawful, IsLawfulBody}
use Rattle.wasm_codec.specs.Outcomes.{FailsMalformed, IfInItem}
use Rattle.wasm_codec.specs.Places.{Place, byte_at, map_at, place, Reads, keeps}
use Rattle.wasm_codec.specs.formats.Bodies.{sized, body_at}
use Rattle.wasm_codec.specs.formats.Combinators.{Format, items, u32, a_byte}
use Rattle.wasm_codec.specs.formats.Grammar.{TakesBytes}
use Rattle.wasm_codec.specs.declared.reader.cursor.Fault.{Fault}
use Rattle.wasm_codec.specs.Reading.{map_ok}
use Rattle.wasm_codec.specs.Rewriter.{Rewriting, rewritten_at, Rewrites}
use Rattle.wasm_codec.specs.Encoding.{byte_list_bytes, IsCount, IsMinimal}
use Rattle.wasm_codec.specs.Leb128.{unsigned_leb128}
use Rattle.wasm_codec.specs.declared.reader.cursor.Fault.TheVariants as faults
use Rattle.wasm_codec.proofs.BodyLaws.{Lawful-body, Lawful-sized}
use Rattle.wasm_codec.proofs.FormatLaws.{Every-made, Lawful-made, Lawful-items, Lawful-u32, Tagged-or, Tagged-never, takes_bytes}
use Rattle.wasm_codec.proofs.SizedLaws.{sized_read, sized_none}
use Rattle.wasm_codec.proofs.RewriterLaws.{is_given, is_after, after_is}
use Rattle.wasm_codec.proofs.NumberLaws.{u32_written}
use Rattle.wasm_codec.proofs.NumberReading.{byte_took}
use Rattle.wasm_types.specs.formats.Types.{recursive_type}
use Rattle.wasm_types.proofs.TypeFormatLaws.{Lawful-recursive-type}
use Rattle.wasm_code.specs.formats.CodeBodies.{code_body}
use Rattle.wasm_code.proofs.CodeBodyLaws.{Lawful-code_body}
use Rattle.wasm_code.proofs.ModuleFormatLaws.{Lawful-module-of, is_minimal_module_of}
use Rattle.wasm_sections.specs.formats.Elements.{element_segment}
use Rattle.wasm_sections.specs.formats.Entries.{import_entry, table_entry, global_entry, export_entry}
use Rattle.wasm_externals.specs.formats.Externals.{memory_type, tag_type}
use Rattle.wasm_sections.specs.formats.ModuleSectionParts.{ModuleSectionParts, section_id, custom, types, imports, functions, tables, memories, globals, exports, start, elements, code, data_segments, data_count, tags, custom_part, type_entries_part, imports_part, function_indexes_part, tables_part, memories_part, globals_part, exports_part, start_part, elements_part, code_part, data_segments_part, data_count_part, tags_part}
use Rattle.wasm_sections.specs.formats.ModuleSections.{BreaksInList, BreaksInSection, module_section, whole_module, MinimalWholeModule, one_of, list_of, OfKind, of_custom, of_types, of_imports, of_functions, of_tables, of_memories, of_globals, of_exports, of_start, of_elements, of_code, of_data, of_data_count, of_tags, of_unknown}
use Rattle.wasm_sections.specs.formats.Sections.{custom_body, custom_of}
use Rattle.wasm_sections.specs.formats.Segments.{data_segment}
use Rattle.wasm_sections.specs.formats.EntryParts.{CustomParts}
use Rattle.wasm_externals.specs.formats.Names.{name}
use Rattle.wasm_sections.specs.SectionBytes.{IsBodyOf, IsSectionAfter}
use Rattle.wasm_sections.proofs.CustomLaws.{custom_is_lawful, custom_refused}
use Rattle.wasm_sections.proofs.ElementLaws.{element_is_lawful}
use Rattle.wasm_externals.proofs.ExternalLaws.{memory_is_lawful, tag_is_lawful}
use Rattle.wasm_sections.proofs.EntryLaws.{export_is_lawful, global_is_lawful, import_is_lawful, table_is_lawful}
use Rattle.wasm_sections.proofs.SegmentLaws.{data_is_lawful}

one : {V : Type 0} {F : Format V} (make : V → ModuleSectionParts) (part : ModuleSectionParts → Option V) → ((v : V) → part (make v) ≡ Some v) → IsLawfulBody F → IsLawful (one_of make part F)
one make part inverse law = Lawful-made make part inverse (Lawful-sized law)

list : {V : Type 0} {F : Format V} (make : List V → ModuleSectionParts) (part : ModuleSectionParts → Option (List V)) → ((vs : List V) → part (make vs) ≡ Some vs) → IsLawful F → IsLawful (list_of make part F)
list make part inverse law = one make part inverse (Lawful-body (Lawful-items law))

pub module_section_is_lawful : IsLawful module_section
unfolding module_section
module_section_is_lawful =
    (Tagged-or section_id 0 refl (lit≤ tt) (Every-made (λ c. refl)) (one custom custom_part (λ c. refl) custom_is_lawful)
    (Tagged-or section_id 1 refl (lit≤ tt) (Every-made (λ c. refl)) (list types type_entries_part (λ c. refl) Lawful-recursive-type)
    (Tagged-or section_id 2 refl (lit≤ tt) (Every-made (λ c. refl)) (list imports imports_part (λ c. refl) import_is_lawful)
    (Tagged-or section_id 3 refl (lit≤ tt) (Every-made (λ c. refl)) (list functions function_indexes_part (λ c. refl) Lawful-u32)
    (Tagged-or section_id 4 refl (lit≤ tt) (Every-made (λ c. refl)) (list tables tables_part (λ c. refl) table_is_lawful)
    (Tagged-or section_id 5 refl (lit≤ tt) (Every-made (λ c. refl)) (list memories memories_part (λ c. refl) memory_is_lawful)
    (Tagged-or section_id 6 refl (lit≤ tt) (Every-made (λ c. refl)) (list globals globals_part (λ c. refl) global_is_lawful)
    (Tagged-or section_id 7 refl (lit≤ tt) (Every-made (λ c. refl)) (list exports exports_part (λ c. refl) export_is_lawful)
    (Tagged-or section_id 8 refl (lit≤ tt) (Every-made (λ c. refl)) (one start start_part (λ c. refl) (Lawful-body Lawful-u32))
    (Tagged-or section_id 9 refl (lit≤ tt) (Every-made (λ c. refl)) (list elements elements_part (λ c. refl) element_is_lawful)
    (Tagged-or section_id 10 refl (lit≤ tt) (Every-made (λ c. refl)) (list code code_part (λ c. refl) Lawful-code_body)
    (Tagged-or section_id 11 refl (lit≤ tt) (Every-made (λ c. refl)) (list data_segments data_segments_part (λ c. refl) data_is_lawful)
    (Tagged-or section_id 12 refl (lit≤ tt) (Every-made (λ c. refl)) (one data_count data_count_part (λ c. refl) (Lawful-body Lawful-u32))
    (Tagged-or section_id 13 refl (lit≤ tt) (Every-made (λ c. refl)) (list tags tags_part (λ c. refl) tag_is_lawful)
    Tagged-never)))))))))))))).choice.lawful

pub module_section_takes : TakesBytes module_section.Encodes
unfolding module_section
module_section_takes = takes_bytes module_section_is_lawful refl

pub whole_module_is_lawful : IsLawfulBody whole_module
whole_module_is_lawful = Lawful-module-of module_section_is_lawful module_section_takes

pub whole_module_is_minimal : TakesMinimal whole_module MinimalWholeModule
whole_module_is_minimal = is_minimal_module_of module_section_is_lawful

-- the minimal encoding of sections in range encodes them
pub whole_module_encoded : (bytes : List ℕ) (sections : List ModuleSectionParts) → AllByRecursion module_section.InRange sections → bytes ≡ whole_module.bytes sections → whole_module.Encodes bytes sections
whole_module_encoded bytes sections fits e = subst (λ (t : List ℕ). whole_module.Encodes t sections) (sym e) (whole_module_is_lawful.minimal.encodes sections fits)

-- ---- the kinds

-- this id precedes the size and a body of this format
pub record IsKind {V : Type 0} (id : ℕ) (make : V → ModuleSectionParts) (F : Format V) : Type 0 where
  pub small : id < 256
  pub law : IsLawfulBody F
  pub at_is : (p after : Place) → byte_at p ≡ Some (id, after) → module_section.at p ≡ map_at make (sized F).at after
  pub bytes_are : (v : V) → module_section.bytes (make v) ≡ id ∷ (sized F).bytes v

pub custom_kind : IsKind 0 custom custom_body
unfolding module_section
custom_kind = record { small = lit≤ tt; law = custom_is_lawful; at_is = λ p after e. rw e refl; bytes_are = λ v. refl }

pub types_kind : IsKind 1 types (items recursive_type)
unfolding module_section
types_kind = record { small = lit≤ tt; law = Lawful-body (Lawful-items Lawful-recursive-type); at_is = λ p after e. rw e refl; bytes_are = λ v. refl }

pub imports_kind : IsKind 2 imports (items import_entry)
unfolding module_section
imports_kind = record { small = lit≤ tt; law = Lawful-body (Lawful-items import_is_lawful); at_is = λ p after e. rw e refl; bytes_are = λ v. refl }

pub functions_kind : IsKind 3 functions (items u32)
unfolding module_section
functions_kind = record { small = lit≤ tt; law = Lawful-body (Lawful-items Lawful-u32); at_is = λ p after e. rw e refl; bytes_are = λ v. refl }

pub tables_kind : IsKind 4 tables (items table_entry)
unfolding module_section
tables_kind = record { small = lit≤ tt; law = Lawful-body (Lawful-items table_is_lawful); at_is = λ p after e. rw e refl; bytes_are = λ v. refl }

pub memories_kind : IsKind 5 memories (items memory_type)
unfolding module_section
memories_kind = record { small = lit≤ tt; law = Lawful-body (Lawful-items memory_is_lawful); at_is = λ p after e. rw e refl; bytes_are = λ v. refl }

pub globals_kind : IsKind 6 globals (items global_entry)
unfolding module_section
globals_kind = record { small = lit≤ tt; law = Lawful-body (Lawful-items global_is_lawful); at_is = λ p after e. rw e refl; bytes_are = λ v. refl }

pub exports_kind : IsKind 7 exports (items export_entry)
unfolding module_section
exports_kind = record { small = lit≤ tt; law = Lawful-body (Lawful-items export_is_lawful); at_is = λ p after e. rw e refl; bytes_are = λ v. refl }

pub start_kind : IsKind 8 start u32
unfolding module_section
start_kind = record { small = lit≤ tt; law = Lawful-body Lawful-u32; at_is = λ p after e. rw e refl; bytes_are = λ v. refl }

pub elements_kind : IsKind 9 elements (items element_segment)
unfolding module_section
elements_kind = record { small = lit≤ tt; law = Lawful-body (Lawful-items element_is_lawful); at_is = λ p after e. rw e refl; bytes_are = λ v. refl }

pub code_kind : IsKind 10 code (items code_body)
unfolding module_section
code_kind = record { small = lit≤ tt; law = Lawful-body (Lawful-items Lawful-code_body); at_is = λ p after e. rw e refl; bytes_are = λ v. refl }

pub data_segments_kind : IsKind 11 data_segments (items data_segment)
unfolding module_section
data_segments_kind = record { small = lit≤ tt; law = Lawful-body (Lawful-items data_is_lawful); at_is = λ p after e. rw e refl; bytes_are = λ v. refl }

pub data_count_kind : IsKind 12 data_count u32
unfolding module_section
data_count_kind = record { small = lit≤ tt; law = Lawful-body Lawful-u32; at_is = λ p after e. rw e refl; bytes_are = λ v. refl }

pub tags_kind : IsKind 13 tags (items tag_type)
unfolding module_section
tags_kind = record { small = lit≤ tt; law = Lawful-body (Lawful-items tag_is_lawful); at_is = λ p after e. rw e refl; bytes_are = λ v. refl }

other : (id n : ℕ) → n < id → (id == n) ≡ false
other id n lt = ne_eqb id n (λ is. absurd (omega (arith, lt, is)))

-- no section has an unknown id
pub unknown_at : {id : ℕ} → 13 < id → (p after : Place) → byte_at p ≡ Some (id, after) → module_section.at p ≡ None
unfolding module_section
unknown_at {id} far p after e = rw (e, other id 0 (omega (arith, far)), other id 1 (omega (arith, far)), other id 2 (omega (arith, far)), other id 3 (omega (arith, far)), other id 4 (omega (arith, far)), other id 5 (omega (arith, far)), other id 6 (omega (arith, far)), other id 7 (omega (arith, far)), other id 8 (omega (arith, far)), other id 9 (omega (arith, far)), other id 10 (omega (arith, far)), other id 11 (omega (arith, far)), other id 12 (omega (arith, far)), other id 13 (omega (arith, far))) refl

-- what follows from each kind follows from the kind of a section
pub by_kind : {L B : (V : Type 0) → Format V → Format ModuleSectionParts → Type 0} {U P : Type 0} {id : ℕ}
    → ((V : Type 0) (make : List V → ModuleSectionParts) (part : ModuleSectionParts → Option (List V)) (F : Format V) → IsKind id make (items F) → L V F (list_of make part F) → P)
    → ((V : Type 0) (make : V → ModuleSectionParts) (part : ModuleSectionParts → Option V) (F : Format V) → IsKind id make F → B V F (one_of make part F) → P)
    → (13 < id → U → P) → OfKind L B U id → P
by_kind l b u (of_custom is h) = b _ custom custom_part custom_body (rw is custom_kind) h
by_kind l b u (of_types is h) = l _ types type_entries_part recursive_type (rw is types_kind) h
by_kind l b u (of_imports is h) = l _ imports imports_part import_entry (rw is imports_kind) h
by_kind l b u (of_functions is h) = l _ functions function_indexes_part u32 (rw is functions_kind) h
by_kind l b u (of_tables is h) = l _ tables tables_part table_entry (rw is tables_kind) h
by_kind l b u (of_memories is h) = l _ memories memories_part memory_type (rw is memories_kind) h
by_kind l b u (of_globals is h) = l _ globals globals_part global_entry (rw is globals_kind) h
by_kind l b u (of_exports is h) = l _ exports exports_part export_entry (rw is exports_kind) h
by_kind l b u (of_start is h) = b _ start start_part u32 (rw is start_kind) h
by_kind l b u (of_elements is h) = l _ elements elements_part element_segment (rw is elements_kind) h
by_kind l b u (of_code is h) = l _ code code_part code_body (rw is code_kind) h
by_kind l b u (of_data is h) = l _ data_segments data_segments_part data_segment (rw is data_segments_kind) h
by_kind l b u (of_data_count is h) = b _ data_count data_count_part u32 (rw is data_count_kind) h
by_kind l b u (of_tags is h) = l _ tags tags_part tag_type (rw is tags_kind) h
by_kind l b u (of_unknown far h) = u far h

-- what follows for every format follows for the kind of a section
pub of_kind : {L B M C : (V : Type 0) → Format V → Format ModuleSectionParts → Type 0} {U W : Type 0} {id : ℕ}
    → ((V : Type 0) (F : Format V) (G : Format ModuleSectionParts) → L V F G → M V F G)
    → ((V : Type 0) (F : Format V) (G : Format ModuleSectionParts) → B V F G → C V F G) → (U → W) → OfKind L B U id → OfKind M C W id
of_kind l b u (of_custom is h) = of_custom is (b _ _ _ h)
of_kind l b u (of_types is h) = of_types is (l _ _ _ h)
of_kind l b u (of_imports is h) = of_imports is (l _ _ _ h)
of_kind l b u (of_functions is h) = of_functions is (l _ _ _ h)
of_kind l b u (of_tables is h) = of_tables is (l _ _ _ h)
of_kind l b u (of_memories is h) = of_memories is (l _ _ _ h)
of_kind l b u (of_globals is h) = of_globals is (l _ _ _ h)
of_kind l b u (of_exports is h) = of_exports is (l _ _ _ h)
of_kind l b u (of_start is h) = of_start is (b _ _ _ h)
of_kind l b u (of_elements is h) = of_elements is (l _ _ _ h)
of_kind l b u (of_code is h) = of_code is (l _ _ _ h)
of_kind l b u (of_data is h) = of_data is (l _ _ _ h)
of_kind l b u (of_data_count is h) = of_data_count is (b _ _ _ h)
of_kind l b u (of_tags is h) = of_tags is (l _ _ _ h)
of_kind l b u (of_unknown far h) = of_unknown far (u h)

-- ---- reading and rewriting

pub list_body_is_lawful : {V : Type 0} {F : Format V} → IsLawful F → IsLawfulBody (items F)
list_body_is_lawful r = Lawful-body (Lawful-items r)

section_rewritten : {V : Type 0} {id : ℕ} {make : V → ModuleSectionParts} {F : Format V} → IsKind id make F → (old mid new : Rewriting) (result : Result (Unit {0}) Fault) → rewritten_at a_byte old ≡ Some (id, mid) → Rewrites (sized F) mid new result → Rewrites module_section old new result
section_rewritten {id = id} {make} {F} kind old mid new (Ok done) begun e =
    let first = is_given a_byte old id mid begun in
    let one = is_after (sized F) mid new e in
    let bytes : new.done ≡ old.done ++ module_section.bytes (make one.value) =
    one.given.written ∙ ap (λ (d : List ℕ). d ++ (sized F).bytes one.value) first.written ∙ append_assoc old.done (id ∷ []) ((sized F).bytes one.value) ∙ ap (λ (t : List ℕ). old.done ++ t) (sym (kind.bytes_are one.value)) in
    after_is module_section old new (make one.value) (kind.at_is old.place mid.place first.is_read ∙ rw one.given.is_read refl) bytes (one.given.rest ∙ first.rest)
section_rewritten {id = id} kind old mid new (Err (faults.Malformed m)) begun none =
    kind.at_is old.place mid.place (is_given a_byte old id mid begun).is_read ∙ rw none refl
section_rewritten kind old mid new (Err faults.Memory) begun none = none

unknown_rewritten : {id : ℕ} → 13 < id → (old mid new : Rewriting) (result : Result (Unit {0}) Fault) → rewritten_at a_byte old ≡ Some (id, mid) → FailsMalformed result → Rewrites module_section old new result
unknown_rewritten far old mid new (Ok done) begun bad = absurd bad
unknown_rewritten far old mid new (Err faults.Memory) begun bad = absurd bad
unknown_rewritten {id} far old mid new (Err (faults.Malformed m)) begun bad = unknown_at far old.place mid.place (is_given a_byte old id mid begun).is_read

-- no item is named
abbrev NamesNone : {X : Type 0} → Result X Fault → Type 0
NamesNone result = IfInItem result (λ _. ⊥)

-- what rewrites the body by its kind rewrites the section
pub rewritten_by_kind : {id : ℕ} (old mid new : Rewriting) (result : Result (Unit {0}) Fault) → rewritten_at a_byte old ≡ Some (id, mid) → OfKind (λ V F C. Rewrites (sized (items F)) mid new result) (λ V F C. Rewrites (sized F) mid new result) (FailsMalformed result) id → Rewrites module_section old new result
rewritten_by_kind {id} old mid new result begun = by_kind
    (λ V make part F kind g. section_rewritten kind old mid new result begun g)
    (λ V make part F kind g. section_rewritten kind old mid new result begun g)
    (λ far bad. unknown_rewritten far old mid new result begun bad)

pub rewritten_with_names : {id : ℕ} (old mid new : Rewriting) (result : Result (Unit {0}) Fault) → rewritten_at a_byte old ≡ Some (id, mid)
    → OfKind (λ V F C. Rewrites (sized (items F)) mid new result × IfInItem result (BreaksInList F mid.place.left)) (λ V F C. Rewrites (sized F) mid new result × NamesNone result) (FailsMalformed result × NamesNone result) id → Rewrites module_section old new result
rewritten_with_names old mid new result begun h = rewritten_by_kind old mid new result begun (of_kind (λ V F G x. x.0) (λ V F G x. x.0) (λ x. x.0) h)

-- what reads the content by its kind reads the section
pub read_by_kind : {X : Type 0} (view : X → ModuleSectionParts) {id : ℕ} (old mid new : Place) (result : Result X Fault) → byte_at old ≡ Some (id, mid)
    → OfKind (λ V F C. Reads C.at mid new (map_ok view result) × IfInItem result (BreaksInList F mid.left)) (λ V F C. Reads C.at mid new (map_ok view result) × NamesNone result) (FailsMalformed result × NamesNone result) id → Reads module_section.at old new (map_ok view result)
read_by_kind view old mid new (Ok x) begun = by_kind
    (λ V make part F kind e. kind.at_is old mid begun ∙ e.0)
    (λ V make part F kind e. kind.at_is old mid begun ∙ e.0)
    (λ far bad. absurd bad.0)
read_by_kind view old mid new (Err (faults.Malformed m)) begun = by_kind
    (λ V make part F kind none. kind.at_is old mid begun ∙ none.0)
    (λ V make part F kind none. kind.at_is old mid begun ∙ none.0)
    (λ far bad. unknown_at far old mid begun)
read_by_kind view old mid new (Err faults.Memory) begun = λ _. tt

-- the section is a list that breaks off at the item that a fault names
broken_by_kind : {X : Type 0} {L B : (V : Type 0) → Format V → Format ModuleSectionParts → Type 0} {U : Type 0} {id : ℕ} (bytes content : List ℕ) (result : Result X Fault) → bytes ≡ id ∷ content
    → OfKind (λ V F C. L V F C × IfInItem result (BreaksInList F content)) (λ V F C. B V F C × NamesNone result) (U × NamesNone result) id → IfInItem result (BreaksInSection bytes)
broken_by_kind {id = id} bytes content result parts h index named = record { id = id; content = content; parts = parts; breaks = of_kind (λ V F C x. x.1 index named) (λ V F C x. x.1 index named) (λ x. x.1 index named) h }

pub broken_rewritten : {id : ℕ} (old mid new : Rewriting) (result : Result (Unit {0}) Fault) → rewritten_at a_byte old ≡ Some (id, mid)
    → OfKind (λ V F C. Rewrites (sized (items F)) mid new result × IfInItem result (BreaksInList F mid.place.left)) (λ V F C. Rewrites (sized F) mid new result × NamesNone result) (FailsMalformed result × NamesNone result) id → IfInItem result (BreaksInSection old.place.left)
broken_rewritten {id} old mid new result begun h = broken_by_kind old.place.left mid.place.left result (byte_took old.place mid.place id (is_given a_byte old id mid begun).is_read).bytes h

pub broken_read : {X : Type 0} (view : X → ModuleSectionParts) {id : ℕ} (old mid new : Place) (result : Result X Fault) → byte_at old ≡ Some (id, mid)
    → OfKind (λ V F C. Reads C.at mid new (map_ok view result) × IfInItem result (BreaksInList F mid.left)) (λ V F C. Reads C.at mid new (map_ok view result) × NamesNone result) (FailsMalformed result × NamesNone result) id → IfInItem result (BreaksInSection old.left)
broken_read view {id} old mid new result begun h = broken_by_kind old.left mid.left result (byte_took old mid id begun).bytes h

-- ---- a custom section

nothing_left : (bytes : List ℕ) → length bytes ≤ 0 → bytes ≡ []
nothing_left [] none = refl
nothing_left (b ∷ bytes) none = absurd (omega arith)

module _ (old outer body : Place) (is_body : body_at old ≡ Some (body.left, outer)) (tells : body ≡ place outer.minimal body.left) where
  -- a value that is all of the body
  pub body_read : {V : Type 0} (F : Format V) (end : Place) (v : V) (len : ℕ) → F.at body ≡ Some (v, end) → len ≡ length end.left → len ≤ 0 → (sized F).at old ≡ Some (v, place end.minimal outer.left)
  body_read F end v len e counted none = sized_read F old outer end body.left v is_body (ap F.at (sym tells) ∙ e) (nothing_left end.left (omega (arith, counted, none)))

  pub custom_read : (mid : Place) (text rest : List ℕ) → name.at body ≡ Some (text, mid) → rest ≡ mid.left → (sized custom_body).at old ≡ Some (custom_of (text, rest), place mid.minimal outer.left)
  unfolding custom_body
  custom_read mid text rest e is =
      let inside : custom_body.at (place outer.minimal body.left) ≡ Some (custom_of (text, rest), place mid.minimal []) = ap custom_body.at (sym tells) ∙ rw (e, is) refl in
      sized_read custom_body old outer (place mid.minimal []) body.left (custom_of (text, rest)) is_body inside refl

  pub no_custom : {X : Type 0} (view : X → CustomParts) (here new : Place) (fault : Fault) → Reads name.at body here (Err fault) → Reads (sized custom_body).at old new (map_ok view (Err fault))
  no_custom view here new (faults.Malformed m) none = sized_none custom_body old outer body.left is_body (ap custom_body.at (sym tells) ∙ custom_refused body none)
  no_custom view here new faults.Memory none = tt

pub custom_section_read : (old mid new : Place) (v : CustomParts) → byte_at old ≡ Some (0, mid) → (sized custom_body).at mid ≡ Some (v, new) → module_section.at old ≡ Some (custom v, new)
custom_section_read old mid new v first read = custom_kind.at_is old mid first ∙ rw read refl

-- ---- writing

-- a section of this kind has such bodies
pub is_body_of : {V : Type 0} {id : ℕ} {section : V → ModuleSectionParts} {F : Format V} → IsKind id section F → IsBodyOf id section F
unfolding byte_at
is_body_of {V} {id} {section} {F} kind v bytes g =
    let law = Lawful-sized kind.law in
    let here : Place = place true (id ∷ bytes) in
    let end : Place = place (keeps true bytes ((sized F).bytes v)) [] in
    let inside : (sized F).at (place true bytes) ≡ Some (v, end) = subst (λ (l : List ℕ). (sized F).at (place true l) ≡ Some (v, end)) (append-nil bytes) (law.reads.complete bytes v [] true g.0) in
    let read : module_section.at here ≡ Some (section v, end) = kind.at_is here (place true bytes) refl ∙ rw inside refl in
    let one = module_section_is_lawful.reads.sound here (section v) end (kind.small, law.are_bytes bytes v g.0) read in
    (subst (λ (l : List ℕ). module_section.Encodes l (section v)) (sym (one.parts ∙ append-nil one.prefix)) one.encodes, ap (λ (l : List ℕ). id ∷ l) g.1 ∙ sym (kind.bytes_are v))

-- the minimal encoding of a body that a u32 counts, after its size and the id, is the section
pub section_written : {V : Type 0} {id : ℕ} (section : V → ModuleSectionParts) (F : Format V) → IsBodyOf id section F → (v : V) (body : List ℕ) → IsCount (length body) → F.Encodes body v → body ≡ F.bytes v → IsSectionAfter id (byte_list_bytes body) (section v)
section_written section F of v body few g is = of v (byte_list_bytes body) ((unsigned_leb128 (length body), body, refl, (u32_written (length body) few).encodes, g), ap byte_list_bytes is)

pub custom_section_written : {T E : Type 0} (r : Result T E) (c : CustomParts) → IsCount (length (custom_body.bytes c)) → OnOk r (IsMinimal custom_body.Encodes custom_body.bytes c) → OnOk r (IsSectionAfter 0 (byte_list_bytes (custom_body.bytes c)) (custom c))
custom_section_written (Ok x) c few h = section_written custom custom_body (is_body_of custom_kind) c (custom_body.bytes c) few h.encodes refl
custom_section_written (Err e) c few h = tt
