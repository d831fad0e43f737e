-- The laws of name sections that are being built.
use Rattle.std.proofs.Common.{◌≡◌, ℕ, suc, ◌+◌, ◌<◌, ◌≤◌, ◌^◌, ◌⊎◌, inl, inr, List, [], ◌∷◌, ◌++◌, length, Result, Ok, Err, OnOk, OnErr, IfErr, sym, ap, subst, ◌∙◌, length-append, arith}
use Rattle.std.specs.List.{All, flat_map}
use Rattle.std.specs.Prelude.{IsErrOf}
use Rattle.std.proofs.lemmas.Grind.{flat_map-append}
use Rattle.std.proofs.lemmas.List.{append-nil}
use Rattle.std.proofs.lemmas.List.Elements.{All-nil, All-cons, All-append}
use Rattle.wasm_codec.specs.declared.encode.EncodeError.TheVariants.{Memory, TooLong}
use Rattle.wasm_codec.specs.Encoding.{byte_list_bytes, IsCount, IsMinimal, IsTooLong}
use Rattle.wasm_codec.specs.Leb128.{unsigned_leb128}
use Rattle.wasm_codec.specs.formats.Combinators.{Format, items}
use Rattle.wasm_externals.specs.formats.Names.{name}
use Rattle.wasm_externals.proofs.NameLaws.{in_name}
use Rattle.wasm_lists.specs.EncodedLists.{EncodedItems, IsMemoryOrTooLong, IsUncounted, body_bytes}
use Rattle.wasm_sections.specs.ListSections.{StandsForItems}
use Rattle.wasm_custom_sections.specs.declared.names.NameError.{NameError}
use Rattle.wasm_custom_sections.specs.declared.names.NameError.TheVariants as errors
use Rattle.wasm_custom_sections.specs.NameSections.{AddsName, AddsNames, AddsSubsection, AreAscending, BuiltNames, HoldsNames, IsNameErrorOf, StandsForNames}
use Rattle.wasm_custom_sections.specs.formats.NameParts.{SubsectionParts, subsection_id, functions, locals, labels, types, tables, memories, globals, elements, data_segments, fields, tags}
use Rattle.wasm_custom_sections.specs.formats.Names.{name_data, name_subsection, naming, indirect_naming}
use Rattle.wasm_lists.proofs.EncodedListLaws.{counted_or, which}
use Rattle.wasm_custom_sections.proofs.GainingLaws.{inner_is, inner_in_range, by_recursion}
use Rattle.wasm_custom_sections.proofs.SubsectionLaws.{IsKind, name_data_is_lawful, module_name_kind, functions_kind, locals_kind, labels_kind, types_kind, tables_kind, memories_kind, globals_kind, elements_kind, data_segments_kind, fields_kind, tags_kind}

pub stands_for_none : (section : BuiltNames) → section.bytes ≡ [] → StandsForNames section []
stands_for_none section none = record { bytes = none; in_range = All-nil name_subsection.InRange; ascending = tt; below = All-nil (λ s. subsection_id s < section.next) }

-- one subsection more, whose id is higher than those before
ascending_more : (least next : ℕ) (before : List SubsectionParts) (s : SubsectionParts) → AreAscending least before → All (λ t. subsection_id t < next) before → least ≤ subsection_id s → next ≤ subsection_id s → AreAscending least (before ++ s ∷ [])
ascending_more least next [] s up below le higher = (le, tt)
ascending_more least next (t ∷ before) s up below le higher =
    let first : subsection_id t < next = below 0 t (omega arith) in
    (up.0, ascending_more (suc (subsection_id t)) next before s up.1 (λ k d lt. below (suc k) d (omega (arith, lt))) (omega (arith, first, higher)) higher)

raised : (old new : ℕ) (before : List SubsectionParts) → old ≤ new → All (λ t. subsection_id t < old) before → All (λ t. subsection_id t < new) before
raised old new before le below = λ k d lt. omega (arith, le, below k d lt)

stands_more : (old new : BuiltNames) (before : List SubsectionParts) (s : SubsectionParts) → new.bytes ≡ old.bytes ++ name_subsection.bytes s → new.next ≡ subsection_id s + 1 → old.next ≤ subsection_id s → name_subsection.InRange s → StandsForNames old before → StandsForNames new (before ++ s ∷ [])
stands_more old new before s bytes next higher fits stands = record {
  bytes = bytes ∙ ap (λ (t : List ℕ). t ++ name_subsection.bytes s) stands.bytes ∙ ap (λ (t : List ℕ). flat_map name_subsection.bytes before ++ t) (sym (append-nil (name_subsection.bytes s))) ∙ sym (flat_map-append name_subsection.bytes before (s ∷ []));
  in_range = All-append name_subsection.InRange before (s ∷ []) stands.in_range (All-cons name_subsection.InRange s [] fits (All-nil name_subsection.InRange));
  ascending = ascending_more 0 old.next before s stands.ascending stands.below (omega arith) higher;
  below = All-append (λ t. subsection_id t < new.next) before (s ∷ []) (raised old.next new.next before (omega (arith, next, higher)) stands.below) (All-cons (λ t. subsection_id t < new.next) s [] (omega (arith, next)) (All-nil (λ t. subsection_id t < new.next)));
}

-- ---- methods that append a subsection

module _ {V : Type 0} {id : ℕ} {make : V → SubsectionParts} {F : Format V} (kind : IsKind id make F) (was old new : BuiltNames) (r : Result (Unit {0}) NameError) (same : was ≡ old) where
  content_stands : {P : Type 0} (Stands : V → Type 0) (content : List ℕ) (s : Result (Unit {0}) NameError) → OnOk s (was.next ≤ id) → (P → (v : V) → Stands v → (content ≡ F.bytes v) × F.InRange v) → OnOk s (new.bytes ≡ was.bytes ++ id ∷ byte_list_bytes content) → OnOk s (new.next ≡ id + 1) → OnOk s (IsCount (length content)) → OnOk s P
      → OnOk s ((v : V) → Stands v → (before : List SubsectionParts) → StandsForNames was before → StandsForNames new (before ++ make v ∷ []))
  content_stands Stands content (Ok x) higher are bytes next few written = λ v stands before all.
      let a = are written v stands in
      let encoding : id ∷ byte_list_bytes content ≡ name_subsection.bytes (make v) = rw a.0 (sym (kind.bytes_are v)) in
      let small : length (F.bytes v) < 2 ^ 32 = subst (λ (t : List ℕ). IsCount (length t)) a.0 few in
      let is : was.next ≤ subsection_id (make v) = subst (λ (n : ℕ). was.next ≤ n) (sym (kind.id_is v)) higher in
      stands_more was new before (make v) (bytes ∙ ap (λ (t : List ℕ). was.bytes ++ t) encoding) (next ∙ ap (λ (n : ℕ). n + 1) (sym (kind.id_is v))) is (kind.in_range v (a.1, small)) all
  content_stands Stands content (Err e) higher are bytes next few written = tt

  adds_content : {P : Type 0} (Stands : V → Type 0) (content : List ℕ) → OnOk r (was.next ≤ id) → (id < was.next → IsErrOf r errors.OutOfOrder) → (P → (v : V) → Stands v → (content ≡ F.bytes v) × F.InRange v) → OnOk r (new.bytes ≡ was.bytes ++ id ∷ byte_list_bytes content) → OnOk r (new.next ≡ id + 1) → OnOk r (IsCount (length content)) → OnOk r P
      → OnErr r (new ≡ was) → IfErr r (IsNameErrorOf id was.next (IsMemoryOrTooLong (IsUncounted (length content)))) → AddsSubsection Stands make id content old new r
  adds_content Stands content higher lower are bytes next few written unchanged refusal =
      subst (λ (s : BuiltNames). AddsSubsection Stands make id content s new r) same
      (record { in_order = higher; out_of_order = lower; bytes = bytes; next = next; stands = content_stands Stands content r higher are bytes next few written; same = unchanged; refused = refusal })

-- why a map isn't appended
names_refused : {X : Type 0} (id next : ℕ) (r : Result X NameError) (len : ℕ) → IfErr r (IsNameErrorOf id next (λ e. ((e ≡ Memory) ⊎ ((Unit {0} → ⊥) × ⊥)) ⊎ IsTooLong len e)) → IfErr r (IsNameErrorOf id next (IsMemoryOrTooLong (IsUncounted len)))
names_refused id next (Ok x) len none = tt
names_refused id next (Err errors.OutOfOrder) len lower = lower
names_refused id next (Err (errors.Encode e)) len (inl (inl memory)) = inl memory
names_refused id next (Err (errors.Encode e)) len (inl (inr (cannot, never))) = absurd never
names_refused id next (Err (errors.Encode e)) len (inr (is, long)) = inr (is, long)

module _ (was old new : BuiltNames) (names : EncodedItems) (r : Result (Unit {0}) NameError) (same : was ≡ old) where
  adds_map : {V : Type 0} {id : ℕ} {make : List V → SubsectionParts} {F : Format V} → IsKind id make (items F) → OnOk r (was.next ≤ id) → (id < was.next → IsErrOf r errors.OutOfOrder) → OnOk r (new.bytes ≡ was.bytes ++ id ∷ byte_list_bytes (body_bytes names)) → OnOk r (new.next ≡ id + 1) → OnOk r (IsCount (length (body_bytes names)))
      → OnOk r (IsCount names.count) → OnErr r (new ≡ was) → IfErr r (IsNameErrorOf id was.next (λ e. ((e ≡ Memory) ⊎ ((Unit {0} → ⊥) × ⊥)) ⊎ IsTooLong (length (body_bytes names)) e)) → AddsNames F make id old names new r
  adds_map {id = id} {F = F} kind higher lower bytes next few counted unchanged refusal =
      adds_content kind was old new r same (StandsForItems F names) (body_bytes names) higher lower (λ small values stands. (inner_is F names values stands, inner_in_range F names values small stands)) bytes next few counted unchanged (names_refused id was.next r (length (body_bytes names)) refusal)

  pub adds_functions : OnOk r (was.next ≤ 1) → (1 < was.next → IsErrOf r errors.OutOfOrder) → OnOk r (new.bytes ≡ was.bytes ++ 1 ∷ byte_list_bytes (body_bytes names)) → OnOk r (new.next ≡ 1 + 1) → OnOk r (IsCount (length (body_bytes names))) → OnOk r (IsCount names.count) → OnErr r (new ≡ was)
      → IfErr r (IsNameErrorOf 1 was.next (λ e. ((e ≡ Memory) ⊎ ((Unit {0} → ⊥) × ⊥)) ⊎ IsTooLong (length (body_bytes names)) e)) → AddsNames naming functions 1 old names new r
  adds_functions = adds_map functions_kind

  pub adds_locals : OnOk r (was.next ≤ 2) → (2 < was.next → IsErrOf r errors.OutOfOrder) → OnOk r (new.bytes ≡ was.bytes ++ 2 ∷ byte_list_bytes (body_bytes names)) → OnOk r (new.next ≡ 2 + 1) → OnOk r (IsCount (length (body_bytes names))) → OnOk r (IsCount names.count) → OnErr r (new ≡ was)
      → IfErr r (IsNameErrorOf 2 was.next (λ e. ((e ≡ Memory) ⊎ ((Unit {0} → ⊥) × ⊥)) ⊎ IsTooLong (length (body_bytes names)) e)) → AddsNames indirect_naming locals 2 old names new r
  adds_locals = adds_map locals_kind

  pub adds_labels : OnOk r (was.next ≤ 3) → (3 < was.next → IsErrOf r errors.OutOfOrder) → OnOk r (new.bytes ≡ was.bytes ++ 3 ∷ byte_list_bytes (body_bytes names)) → OnOk r (new.next ≡ 3 + 1) → OnOk r (IsCount (length (body_bytes names))) → OnOk r (IsCount names.count) → OnErr r (new ≡ was)
      → IfErr r (IsNameErrorOf 3 was.next (λ e. ((e ≡ Memory) ⊎ ((Unit {0} → ⊥) × ⊥)) ⊎ IsTooLong (length (body_bytes names)) e)) → AddsNames indirect_naming labels 3 old names new r
  adds_labels = adds_map labels_kind

  pub adds_types : OnOk r (was.next ≤ 4) → (4 < was.next → IsErrOf r errors.OutOfOrder) → OnOk r (new.bytes ≡ was.bytes ++ 4 ∷ byte_list_bytes (body_bytes names)) → OnOk r (new.next ≡ 4 + 1) → OnOk r (IsCount (length (body_bytes names))) → OnOk r (IsCount names.count) → OnErr r (new ≡ was)
      → IfErr r (IsNameErrorOf 4 was.next (λ e. ((e ≡ Memory) ⊎ ((Unit {0} → ⊥) × ⊥)) ⊎ IsTooLong (length (body_bytes names)) e)) → AddsNames naming types 4 old names new r
  adds_types = adds_map types_kind

  pub adds_tables : OnOk r (was.next ≤ 5) → (5 < was.next → IsErrOf r errors.OutOfOrder) → OnOk r (new.bytes ≡ was.bytes ++ 5 ∷ byte_list_bytes (body_bytes names)) → OnOk r (new.next ≡ 5 + 1) → OnOk r (IsCount (length (body_bytes names))) → OnOk r (IsCount names.count) → OnErr r (new ≡ was)
      → IfErr r (IsNameErrorOf 5 was.next (λ e. ((e ≡ Memory) ⊎ ((Unit {0} → ⊥) × ⊥)) ⊎ IsTooLong (length (body_bytes names)) e)) → AddsNames naming tables 5 old names new r
  adds_tables = adds_map tables_kind

  pub adds_memories : OnOk r (was.next ≤ 6) → (6 < was.next → IsErrOf r errors.OutOfOrder) → OnOk r (new.bytes ≡ was.bytes ++ 6 ∷ byte_list_bytes (body_bytes names)) → OnOk r (new.next ≡ 6 + 1) → OnOk r (IsCount (length (body_bytes names))) → OnOk r (IsCount names.count) → OnErr r (new ≡ was)
      → IfErr r (IsNameErrorOf 6 was.next (λ e. ((e ≡ Memory) ⊎ ((Unit {0} → ⊥) × ⊥)) ⊎ IsTooLong (length (body_bytes names)) e)) → AddsNames naming memories 6 old names new r
  adds_memories = adds_map memories_kind

  pub adds_globals : OnOk r (was.next ≤ 7) → (7 < was.next → IsErrOf r errors.OutOfOrder) → OnOk r (new.bytes ≡ was.bytes ++ 7 ∷ byte_list_bytes (body_bytes names)) → OnOk r (new.next ≡ 7 + 1) → OnOk r (IsCount (length (body_bytes names))) → OnOk r (IsCount names.count) → OnErr r (new ≡ was)
      → IfErr r (IsNameErrorOf 7 was.next (λ e. ((e ≡ Memory) ⊎ ((Unit {0} → ⊥) × ⊥)) ⊎ IsTooLong (length (body_bytes names)) e)) → AddsNames naming globals 7 old names new r
  adds_globals = adds_map globals_kind

  pub adds_elements : OnOk r (was.next ≤ 8) → (8 < was.next → IsErrOf r errors.OutOfOrder) → OnOk r (new.bytes ≡ was.bytes ++ 8 ∷ byte_list_bytes (body_bytes names)) → OnOk r (new.next ≡ 8 + 1) → OnOk r (IsCount (length (body_bytes names))) → OnOk r (IsCount names.count) → OnErr r (new ≡ was)
      → IfErr r (IsNameErrorOf 8 was.next (λ e. ((e ≡ Memory) ⊎ ((Unit {0} → ⊥) × ⊥)) ⊎ IsTooLong (length (body_bytes names)) e)) → AddsNames naming elements 8 old names new r
  adds_elements = adds_map elements_kind

  pub adds_data : OnOk r (was.next ≤ 9) → (9 < was.next → IsErrOf r errors.OutOfOrder) → OnOk r (new.bytes ≡ was.bytes ++ 9 ∷ byte_list_bytes (body_bytes names)) → OnOk r (new.next ≡ 9 + 1) → OnOk r (IsCount (length (body_bytes names))) → OnOk r (IsCount names.count) → OnErr r (new ≡ was)
      → IfErr r (IsNameErrorOf 9 was.next (λ e. ((e ≡ Memory) ⊎ ((Unit {0} → ⊥) × ⊥)) ⊎ IsTooLong (length (body_bytes names)) e)) → AddsNames naming data_segments 9 old names new r
  adds_data = adds_map data_segments_kind

  pub adds_fields : OnOk r (was.next ≤ 10) → (10 < was.next → IsErrOf r errors.OutOfOrder) → OnOk r (new.bytes ≡ was.bytes ++ 10 ∷ byte_list_bytes (body_bytes names)) → OnOk r (new.next ≡ 10 + 1) → OnOk r (IsCount (length (body_bytes names))) → OnOk r (IsCount names.count) → OnErr r (new ≡ was)
      → IfErr r (IsNameErrorOf 10 was.next (λ e. ((e ≡ Memory) ⊎ ((Unit {0} → ⊥) × ⊥)) ⊎ IsTooLong (length (body_bytes names)) e)) → AddsNames indirect_naming fields 10 old names new r
  adds_fields = adds_map fields_kind

  pub adds_tags : OnOk r (was.next ≤ 11) → (11 < was.next → IsErrOf r errors.OutOfOrder) → OnOk r (new.bytes ≡ was.bytes ++ 11 ∷ byte_list_bytes (body_bytes names)) → OnOk r (new.next ≡ 11 + 1) → OnOk r (IsCount (length (body_bytes names))) → OnOk r (IsCount names.count) → OnErr r (new ≡ was)
      → IfErr r (IsNameErrorOf 11 was.next (λ e. ((e ≡ Memory) ⊎ ((Unit {0} → ⊥) × ⊥)) ⊎ IsTooLong (length (body_bytes names)) e)) → AddsNames naming tags 11 old names new r
  adds_tags = adds_map tags_kind

-- why a name isn't appended
name_refused : {X : Type 0} (id next : ℕ) (r : Result X NameError) (text : List ℕ) → IfErr r (IsNameErrorOf id next (λ e. ((e ≡ Memory) ⊎ ((IsCount (length text) → ⊥) × (e ≡ TooLong))) ⊎ IsTooLong (length (name.bytes text)) e)) → IfErr r (IsNameErrorOf id next (IsMemoryOrTooLong (IsUncounted (length (name.bytes text)))))
unfolding name
name_refused id next (Ok x) text none = tt
name_refused id next (Err errors.OutOfOrder) text lower = lower
name_refused id next (Err (errors.Encode e)) text (inl (inl memory)) = inl memory
name_refused id next (Err (errors.Encode e)) text (inl (inr (cannot, is))) = inr (is, which (counted_or (length (name.bytes text))) (λ (few : length (unsigned_leb128 (length text) ++ text) < 2 ^ 32). cannot (omega (arith, few, length-append (unsigned_leb128 (length text)) text))))
name_refused id next (Err (errors.Encode e)) text (inr (is, long)) = inr (is, long)

pub adds_module : (was old new : BuiltNames) (text : List ℕ) (r : Result (Unit {0}) NameError) → was ≡ old → OnOk r (was.next ≤ 0) → (0 < was.next → IsErrOf r errors.OutOfOrder) → OnOk r (new.bytes ≡ was.bytes ++ 0 ∷ byte_list_bytes (name.bytes text)) → OnOk r (new.next ≡ 0 + 1) → OnOk r (IsCount (length (name.bytes text))) → OnOk r (IsMinimal name.Encodes name.bytes text)
    → OnErr r (new ≡ was) → IfErr r (IsNameErrorOf 0 was.next (λ e. ((e ≡ Memory) ⊎ ((IsCount (length text) → ⊥) × (e ≡ TooLong))) ⊎ IsTooLong (length (name.bytes text)) e)) → AddsName old text new r
adds_module was old new text r same higher lower bytes next few written unchanged refusal =
    adds_content module_name_kind was old new r same (λ value. value ≡ text) (name.bytes text) higher lower (λ h v is. (ap name.bytes (sym is), subst name.InRange (sym is) (in_name text h))) bytes next few written unchanged (name_refused 0 was.next r text refusal)

-- ---- sections that are written

-- the contents are the minimal encoding of the subsections
pub holds_names : (section : BuiltNames) → HoldsNames section
holds_names section subsections stands =
    (subst (λ (t : List ℕ). name_data.Encodes t subsections) (sym stands.bytes) (name_data_is_lawful.minimal.encodes subsections (by_recursion name_subsection.InRange subsections stands.in_range)), stands.bytes)
