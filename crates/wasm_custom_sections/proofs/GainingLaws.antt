-- The values that are added to lists that are encoded value by value.
use Rattle.std.proofs.Common.{◌≡◌, ℕ, suc, ◌+◌, ◌⊎◌, inl, inr, List, [], ◌∷◌, ◌++◌, length, Result, Ok, Err, OnOk, OnErr, IfErr, sym, ap, subst, ◌∙◌, arith}
use Rattle.std.specs.List.{All, AllByRecursion}
use Rattle.wasm_codec.specs.declared.encode.EncodeError.{EncodeError}
use Rattle.wasm_codec.specs.declared.encode.EncodeError.TheVariants.{TooLong}
use Rattle.wasm_codec.specs.Encoding.{IsCount, IsMinimal}
use Rattle.wasm_codec.specs.Lawful.{IsLawful}
use Rattle.wasm_codec.specs.Leb128.{unsigned_leb128}
use Rattle.wasm_codec.specs.formats.Combinators.{Format, items}
use Rattle.wasm_codec.proofs.FormatLaws.{Lawful-items}
use Rattle.wasm_lists.specs.EncodedLists.{EncodedItems, IsFull, IsMemoryOrTooLong, body_bytes}
use Rattle.wasm_lists.proofs.EncodedListLaws.{body_is, counted_or, gains_one, stands_none, values_in_range, which}
use Rattle.wasm_lists.proofs.WrittenLists.{in_range_of}
use Rattle.wasm_sections.specs.ListSections.{Adds, GainsItem, StandsForItems}
use Rattle.wasm_custom_sections.specs.Gaining.{AddsNamed, GainsWith}
use Rattle.wasm_custom_sections.specs.NamedSections.{HoldsList, IsNamedSection}
use Rattle.wasm_custom_sections.specs.formats.Names.{naming, naming_of, indirect_naming, indirect_of}
use Rattle.wasm_custom_sections.proofs.NamingLaws.{naming_is_lawful, indirect_there, indirect_bytes}

pub stands_for_none : {V : Type 0} (F : Format V) (list : EncodedItems) → list.count ≡ 0 → list.bytes ≡ [] → StandsForItems F list []
stands_for_none F list count bytes = stands_none F (λ item. Unit {0}) list count bytes

-- why a value isn't added: memory ran out, the list is full, or the value can't be written
abbrev pub IsRefused : Type 0 → EncodedItems → EncodeError → Type 0
IsRefused Can old e = IsMemoryOrTooLong (IsFull old) e ⊎ ((Can → ⊥) × (e ≡ TooLong))

pub refused : {X : Type 0} {Can Long : Type 0} (r : Result X EncodeError) (old : EncodedItems) → ((Can → ⊥) → Long) → IfErr r (IsRefused Can old) → IfErr r (IsMemoryOrTooLong (IsFull old ⊎ Long))
refused (Ok x) old why none = tt
refused (Err e) old why (inl (inl memory)) = inl memory
refused (Err e) old why (inl (inr (is, full))) = inr (is, inl full)
refused (Err e) old why (inr (cannot, is)) = inr (is, inr (why cannot))

never_refused : {X : Type 0} (r : Result X EncodeError) (old : EncodedItems) → IfErr r (λ e. IsMemoryOrTooLong (IsFull old) e ⊎ ((Unit {0} → ⊥) × ⊥)) → IfErr r (IsMemoryOrTooLong (IsFull old))
never_refused (Ok x) old none = tt
never_refused (Err e) old (inl why) = why
never_refused (Err e) old (inr (cannot, never)) = absurd never

pub by_recursion : {A : Type 0} (P : A → Type 0) (xs : List A) → All P xs → AllByRecursion P xs
by_recursion P [] h = tt
by_recursion P (x ∷ xs) h = (h 0 x (omega arith), by_recursion P xs (λ k d lt. h (suc k) d (omega (arith, lt))))

-- ---- a value with a name

module _ {V : Type 0} {F : Format V} (law : IsLawful F) (was old new : EncodedItems) (value : V) (r : Result (Unit {0}) EncodeError) (same : was ≡ old) where
  value_gained : (s : Result (Unit {0}) EncodeError) → OnOk s (new.count ≡ was.count + 1) → OnOk s (new.bytes ≡ was.bytes ++ F.bytes value) → OnOk s (IsMinimal F.Encodes F.bytes value) → OnOk s (GainsItem F was value new)
  value_gained (Ok x) count bytes written = gains_one F (λ item. Unit {0}) was new value count bytes tt (in_range_of F law value written)
  value_gained (Err e) count bytes written = tt

  pub adds_value : {Can Long : Type 0} → ((Can → ⊥) → Long) → OnOk r (new.count ≡ was.count + 1) → OnOk r (new.bytes ≡ was.bytes ++ F.bytes value) → OnOk r (IsMinimal F.Encodes F.bytes value) → OnErr r (new ≡ was) → IfErr r (IsRefused Can was)
      → Adds (GainsItem F) old value new (IsMemoryOrTooLong (IsFull old ⊎ Long)) r
  adds_value {Long = Long} why count bytes written unchanged refusal =
      subst (λ (list : EncodedItems). Adds (GainsItem F) list value new (IsMemoryOrTooLong (IsFull list ⊎ Long)) r) same
      (record { gains = value_gained r count bytes written; same = unchanged; refused = refused r was why refusal })

  pub adds_named : (text : List ℕ) → OnOk r (new.count ≡ was.count + 1) → OnOk r (new.bytes ≡ was.bytes ++ F.bytes value) → OnOk r (IsMinimal F.Encodes F.bytes value) → OnErr r (new ≡ was) → IfErr r (IsRefused (IsCount (length text)) was)
      → AddsNamed F (length text) old value new r
  adds_named text count bytes written unchanged refusal = adds_value (which (counted_or (length text))) count bytes written unchanged refusal

pub adds_naming : (was old new : EncodedItems) (index : ℕ) (text : List ℕ) (r : Result (Unit {0}) EncodeError) → was ≡ old → OnOk r (new.count ≡ was.count + 1) → OnOk r (new.bytes ≡ was.bytes ++ naming.bytes (naming_of (index, text)))
    → OnOk r (IsMinimal naming.Encodes naming.bytes (naming_of (index, text))) → OnErr r (new ≡ was) → IfErr r (IsRefused (IsCount (length text)) was) → AddsNamed naming (length text) old (naming_of (index, text)) new r
adds_naming was old new index text r same count bytes written unchanged refusal = adds_named naming_is_lawful was old new (naming_of (index, text)) r same text count bytes written unchanged refusal

-- ---- a value with a list of such values

-- for each list that the inner one stands for, the bytes appended are the value's encoding, and the value is in range
module _ {V W : Type 0} (F : Format V) (G : Format W) (make : List V → W) (was old inner new : EncodedItems) (encoding : List ℕ) (r : Result (Unit {0}) EncodeError) (same : was ≡ old) where
  with_gained : {P : Type 0} (s : Result (Unit {0}) EncodeError) → (P → (values : List V) → StandsForItems F inner values → (encoding ≡ G.bytes (make values)) × G.InRange (make values)) → OnOk s (new.count ≡ was.count + 1) → OnOk s (new.bytes ≡ was.bytes ++ encoding) → OnOk s P → OnOk s (GainsWith F G make was inner new)
  with_gained (Ok x) are count bytes written = λ values stands.
      let a = are written values stands in
      gains_one G (λ item. Unit {0}) was new (make values) count (bytes ∙ ap (λ (t : List ℕ). was.bytes ++ t) a.0) tt a.1
  with_gained (Err e) are count bytes written = tt

  pub adds_with : {P : Type 0} (Refused : EncodedItems → EncodeError → Type 0) → (P → (values : List V) → StandsForItems F inner values → (encoding ≡ G.bytes (make values)) × G.InRange (make values)) → OnOk r (new.count ≡ was.count + 1) → OnOk r (new.bytes ≡ was.bytes ++ encoding) → OnOk r P → OnErr r (new ≡ was) → IfErr r (Refused was)
      → Adds (GainsWith F G make) old inner new (Refused old) r
  adds_with Refused are count bytes written unchanged refusal =
      subst (λ (list : EncodedItems). Adds (GainsWith F G make) list inner new (Refused list) r) same
      (record { gains = with_gained r are count bytes written; same = unchanged; refused = refusal })

-- the body of the inner list is that of its values
pub inner_is : {V : Type 0} (F : Format V) (inner : EncodedItems) (values : List V) → StandsForItems F inner values → body_bytes inner ≡ (items F).bytes values
inner_is F inner values stands = body_is F (λ item. Unit {0}) inner values stands

pub inner_in_range : {V : Type 0} (F : Format V) (inner : EncodedItems) (values : List V) → IsCount inner.count → StandsForItems F inner values → (items F).InRange values
inner_in_range F inner values few stands = values_in_range F (λ item. Unit {0}) inner values few stands

pub adds_names : (was old inner new : EncodedItems) (index : ℕ) (r : Result (Unit {0}) EncodeError) → was ≡ old → OnOk r (new.count ≡ was.count + 1) → OnOk r (new.bytes ≡ was.bytes ++ (unsigned_leb128 index ++ body_bytes inner)) → OnOk r (IsCount index × IsCount inner.count) → OnErr r (new ≡ was)
    → IfErr r (λ e. IsMemoryOrTooLong (IsFull was) e ⊎ ((Unit {0} → ⊥) × ⊥)) → Adds (GainsWith naming indirect_naming (λ values. indirect_of (index, values))) old inner new (IsMemoryOrTooLong (IsFull old)) r
adds_names was old inner new index r same count bytes written unchanged refusal =
    adds_with naming indirect_naming (λ values. indirect_of (index, values)) was old inner new (unsigned_leb128 index ++ body_bytes inner) r same (λ list. IsMemoryOrTooLong (IsFull list))
    (λ small values stands. (ap (λ (t : List ℕ). unsigned_leb128 index ++ t) (inner_is naming inner values stands) ∙ sym (indirect_bytes (indirect_of (index, values))), indirect_there (indirect_of (index, values)) small.0 (inner_in_range naming inner values small.1 stands)))
    count bytes written unchanged (never_refused r was refusal)

-- the contents of a list section are the minimal encoding of its items
pub holds_list : {V : Type 0} (F : Format V) → IsLawful F → (section : EncodedItems) → IsCount section.count → HoldsList F section
holds_list F law section few values stands =
    let is = inner_is F section values stands in
    (subst (λ (t : List ℕ). (items F).Encodes t values) (sym is) ((Lawful-items law).minimal.encodes values (inner_in_range F section values few stands)), is)

pub list_written : {V X E : Type 0} (P : Type 0) (F : Format V) → IsLawful F → (was section : EncodedItems) → was ≡ section → IsCount was.count → (text title contents : List ℕ) → text ≡ title → contents ≡ body_bytes was → (r : Result X E) → OnOk r (P × IsNamedSection text contents)
    → OnOk r (HoldsList F section × IsNamedSection title (body_bytes section))
list_written P F law was section same few text title contents is body (Ok x) w =
    (holds_list F law section (subst (λ (l : EncodedItems). IsCount l.count) same few), subst (IsNamedSection title) (body ∙ ap body_bytes same) (subst (λ (t : List ℕ). IsNamedSection t contents) is w.1))
list_written P F law was section same few text title contents is body (Err e) w = tt
