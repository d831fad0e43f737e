-- The laws of type sections that are being built.
use Rattle.std.proofs.Common.{◌≡◌, ℕ, ◌+◌, ◌^◌, ◌≤◌, ◌⊎◌, inl, inr, List, [], ◌++◌, length, Result, Ok, Err, OnOk, OnErr, IfErr, refl, sym, ap, ◌∙◌, subst, lit≤, arith}
use Rattle.std.specs.Prelude.{IsErrOf}
use Rattle.std.specs.List.{All, Any, flat_map}
use Rattle.wasm_types.specs.declared.types.composite.ArrayType.{ArrayType}
use Rattle.wasm_types.specs.declared.types.composite.ContType.{ContType}
use Rattle.wasm_types.specs.declared.types.composite.FuncType.{FuncType}
use Rattle.wasm_types.specs.declared.types.composite.CompositeInnerType.TheVariants as inner
use Rattle.wasm_types.specs.declared.types.composite.CompositeInnerType.{CompositeInnerType}
use Rattle.wasm_types.specs.declared.types.recursive.SubType.{SubType}
use Rattle.wasm_types.specs.declared.types.recursive.TypeEntry.{TypeEntry}
use Rattle.wasm_types.specs.declared.types.recursive.TypeEntry.TheVariants as entries
use Rattle.wasm_codec.specs.declared.encode.EncodeError.{EncodeError}
use Rattle.wasm_codec.specs.declared.encode.EncodeError.TheVariants.{TooLong}
use Rattle.wasm_codec.specs.Encoding.{byte_list_bytes, IsCount, IsRefusal, IsMinimal, OnlyTooLong}
use Rattle.wasm_code.specs.formats.Sections.{typed_section_of, type_entries, type_section_id}
use Rattle.wasm_code.specs.Modules.{IsTypedSection}
use Rattle.wasm_encoder.specs.EncodedLists.{AddsAll, EncodesSection, EncodedItems, CountedSection, IsFull, IsMemoryOrTooLong, IsRefusalOfEach, IsRefusalOfOne, IsUncounted, body_bytes}
use Rattle.wasm_encoder.specs.TypeSections.{AddsEntry, AddsEntryOr, StandsFor, Gains, GainsAll, UncountedEntry, UncountedFunc, UncountedSub, type_section_bytes, final_entry}
use Rattle.wasm_types.specs.formats.Types.{composite_type, inner_type, recursive_type, sub_type, type_body}
use Rattle.wasm_types.specs.TypeCounts.{CountedFunc, CountedInner, CountedSub, CountedEntry}
use Rattle.wasm_types.proofs.TypeFormatLaws.{Lawful-inner-type, Lawful-sub-type, Lawful-recursive-type, Lawful-type-body}
use Rattle.wasm_lists.proofs.WrittenLists.{in_range_of}
use Rattle.wasm_sections.specs.formats.ModuleSectionParts.{types}
use Rattle.wasm_sections.proofs.ModuleSectionLaws.{types_kind, is_body_of}
use Rattle.wasm_sections.proofs.ListSectionLaws.{section_encodes as encodes_section}
use Rattle.wasm_encoder.proofs.RefusalLaws.{entries_refused, func_refused, if_refused, sub_refused}
use Rattle.wasm_lists.proofs.EncodedListLaws.{stands_none, gains_one, gains_each, body_is, values_in_range, all_in_range}

pub stands_for_none : (section : EncodedItems) → section.count ≡ 0 → section.bytes ≡ [] → StandsFor section []
stands_for_none section count bytes = stands_none recursive_type CountedEntry section count bytes

-- ---- an entry of one type with nothing before what it is made of

pub final_is : (i : CompositeInnerType) → recursive_type.bytes (final_entry i) ≡ inner_type.bytes i
unfolding recursive_type sub_type composite_type
final_is i = refl

pub final_counted : (i : CompositeInnerType) → CountedInner i → CountedEntry (final_entry i)
final_counted i can = (omega arith, can)

pub final_in_range : (i : CompositeInnerType) → inner_type.InRange i → recursive_type.InRange (final_entry i)
unfolding recursive_type sub_type composite_type
final_in_range i fits = ((((((fits, refl), refl), refl), refl), refl), refl)

sub_in_range : (s : SubType) → sub_type.InRange s → recursive_type.InRange (entries.Sub s)
unfolding recursive_type
sub_in_range s fits = (fits, refl)

-- ---- entries more

gains_entries : {T E : Type 0} (r : Result T E) (old new : EncodedItems) (more : List TypeEntry) → OnOk r (new.count ≡ old.count + length more) → OnOk r (new.bytes ≡ old.bytes ++ flat_map recursive_type.bytes more) → OnOk r (All CountedEntry more) → OnOk r (All (IsMinimal recursive_type.Encodes recursive_type.bytes) more) → OnOk r (GainsAll old more new)
gains_entries (Ok x) old new more count bytes can written = gains_each recursive_type CountedEntry old new more count bytes can (all_in_range recursive_type Lawful-recursive-type more written)
gains_entries (Err e) old new more count bytes can written = tt

pub gains : (old new : EncodedItems) (entry : TypeEntry) → new.count ≡ old.count + 1 → new.bytes ≡ old.bytes ++ recursive_type.bytes entry → CountedEntry entry → recursive_type.InRange entry → Gains old entry new
gains old new entry count bytes can fits = gains_one recursive_type CountedEntry old new entry count bytes can fits

pub gains_final : (old new : EncodedItems) (i : CompositeInnerType) → new.count ≡ old.count + 1 → new.bytes ≡ old.bytes ++ inner_type.bytes i → CountedInner i → IsMinimal inner_type.Encodes inner_type.bytes i → Gains old (final_entry i) new
gains_final old new i count bytes can h = gains old new (final_entry i) count (rw (final_is i) bytes) (final_counted i can) (final_in_range i (in_range_of inner_type Lawful-inner-type i h))

-- the same of results

gains_sub_ok : {T E : Type 0} (r : Result T E) (old new : EncodedItems) (s : SubType) → OnOk r (new.count ≡ old.count + 1) → OnOk r (new.bytes ≡ old.bytes ++ sub_type.bytes s) → OnOk r (CountedSub s) → OnOk r (IsMinimal sub_type.Encodes sub_type.bytes s) → OnOk r (Gains old (entries.Sub s) new)
unfolding recursive_type
gains_sub_ok (Ok x) old new s count bytes can h = gains old new (entries.Sub s) count bytes can (sub_in_range s (in_range_of sub_type Lawful-sub-type s h))
gains_sub_ok (Err e) old new s count bytes can h = tt

gains_final_ok : {T E : Type 0} (r : Result T E) (old new : EncodedItems) (i : CompositeInnerType) → OnOk r (new.count ≡ old.count + 1) → OnOk r (new.bytes ≡ old.bytes ++ inner_type.bytes i) → OnOk r (CountedInner i) → OnOk r (IsMinimal inner_type.Encodes inner_type.bytes i) → OnOk r (Gains old (final_entry i) new)
gains_final_ok (Ok x) old new i count bytes can h = gains_final old new i count bytes can h
gains_final_ok (Err e) old new i count bytes can h = tt

-- ---- what the methods promise

pub adds_entries : (was old new : EncodedItems) (more : List TypeEntry) (r : Result (Unit {0}) EncodeError) → was ≡ old → OnOk r (new.count ≡ was.count + length more) → OnOk r (new.bytes ≡ was.bytes ++ flat_map recursive_type.bytes more) → OnOk r (All CountedEntry more)
    → OnOk r (All (IsMinimal recursive_type.Encodes recursive_type.bytes) more) → OnErr r (new ≡ was) → IfErr r (IsRefusalOfEach CountedEntry OnlyTooLong was more) → (2 ^ 32 ≤ was.count + length more → IsErrOf r TooLong) → AddsAll GainsAll UncountedEntry old more new r
adds_entries was old new more r same count bytes can written unchanged refused too_many =
    subst (λ (list : EncodedItems). AddsAll GainsAll UncountedEntry list more new r) same (record {
      gains = gains_entries r was new more count bytes can written;
      same = unchanged;
      refused = if_refused (IsRefusalOfEach CountedEntry OnlyTooLong was more) (IsMemoryOrTooLong (IsUncounted (was.count + length more) ⊎ Any UncountedEntry more)) r (entries_refused was more) refused;
      too_many = too_many;
    })

module _ (was old new : EncodedItems) (r : Result (Unit {0}) EncodeError) (same : was ≡ old) (count : OnOk r (new.count ≡ was.count + 1)) (unchanged : OnErr r (new ≡ was)) where
  adds_gained : (entry : TypeEntry) (Long : Type 0) → OnOk r (Gains was entry new) → IfErr r (IsMemoryOrTooLong (IsFull was ⊎ Long)) → AddsEntryOr Long old entry new r
  adds_gained entry Long gained refused = subst (λ (list : EncodedItems). AddsEntryOr Long list entry new r) same (record { gains = gained; same = unchanged; refused = refused })

  pub adds_func : (f : FuncType) → OnOk r (new.bytes ≡ was.bytes ++ inner_type.bytes (inner.Func f)) → OnOk r (CountedFunc f) → OnOk r (IsMinimal inner_type.Encodes inner_type.bytes (inner.Func f)) → IfErr r (IsRefusalOfOne CountedFunc OnlyTooLong was f)
      → AddsEntryOr (UncountedFunc f) old (final_entry (inner.Func f)) new r
  adds_func f bytes can written refused =
      adds_gained (final_entry (inner.Func f)) (UncountedFunc f) (gains_final_ok r was new (inner.Func f) count bytes can written)
      (if_refused (IsRefusalOfOne CountedFunc OnlyTooLong was f) (IsMemoryOrTooLong (IsFull was ⊎ UncountedFunc f)) r (func_refused was f) refused)

  pub adds_sub : (s : SubType) → OnOk r (new.bytes ≡ was.bytes ++ sub_type.bytes s) → OnOk r (CountedSub s) → OnOk r (IsMinimal sub_type.Encodes sub_type.bytes s) → IfErr r (IsRefusalOfOne CountedSub OnlyTooLong was s)
      → AddsEntryOr (UncountedSub s) old (entries.Sub s) new r
  adds_sub s bytes can written refused =
      adds_gained (entries.Sub s) (UncountedSub s) (gains_sub_ok r was new s count bytes can written)
      (if_refused (IsRefusalOfOne CountedSub OnlyTooLong was s) (IsMemoryOrTooLong (IsFull was ⊎ UncountedSub s)) r (sub_refused was s) refused)

  -- an entry without a list
  module _ (refused : IfErr r (λ e. IsMemoryOrTooLong (IsFull was) e ⊎ ((Unit {0} → ⊥) × ⊥))) where
    full : (s : Result (Unit {0}) EncodeError) → IfErr s (λ e. IsMemoryOrTooLong (IsFull was) e ⊎ ((Unit {0} → ⊥) × ⊥)) → IfErr s (IsMemoryOrTooLong (IsFull was))
    full (Ok x) none = tt
    full (Err e) (inl why) = why
    full (Err e) (inr (cannot, never)) = absurd never

    adds_short : (entry : TypeEntry) → OnOk r (Gains was entry new) → AddsEntry old entry new r
    adds_short entry gained = subst (λ (list : EncodedItems). AddsEntry list entry new r) same (record { gains = gained; same = unchanged; refused = full r refused })

    counted : (s : Result (Unit {0}) EncodeError) → OnOk s (Unit {0})
    counted (Ok x) = tt
    counted (Err e) = tt

    pub adds_array : (a : ArrayType) → OnOk r (new.bytes ≡ was.bytes ++ inner_type.bytes (inner.Array a)) → OnOk r (IsMinimal inner_type.Encodes inner_type.bytes (inner.Array a)) → AddsEntry old (final_entry (inner.Array a)) new r
    adds_array a bytes written = adds_short (final_entry (inner.Array a)) (gains_final_ok r was new (inner.Array a) count bytes (counted r) written)

    pub adds_cont : (c : ContType) → OnOk r (new.bytes ≡ was.bytes ++ inner_type.bytes (inner.Cont c)) → OnOk r (IsMinimal inner_type.Encodes inner_type.bytes (inner.Cont c)) → AddsEntry old (final_entry (inner.Cont c)) new r
    adds_cont c bytes written = adds_short (final_entry (inner.Cont c)) (gains_final_ok r was new (inner.Cont c) count bytes (counted r) written)

-- ---- the bytes that a section of entries writes

is_minimal : (section : EncodedItems) (entries : List TypeEntry) → StandsFor section entries → body_bytes section ≡ type_body.bytes entries
unfolding type_body
is_minimal section entries s = body_is recursive_type CountedEntry section entries s

pub one_encoding : (section other : EncodedItems) (entries : List TypeEntry) → StandsFor section entries → StandsFor other entries → type_section_bytes other ≡ type_section_bytes section
one_encoding section other entries s o = ap byte_list_bytes (is_minimal other entries o ∙ sym (is_minimal section entries s))

entries_in_range : (section : EncodedItems) (entries : List TypeEntry) → IsCount section.count → StandsFor section entries → type_body.InRange entries
unfolding type_body
entries_in_range section entries few s = values_in_range recursive_type CountedEntry section entries few s

body_encodes : (section : EncodedItems) (entries : List TypeEntry) → IsCount section.count → StandsFor section entries → type_body.Encodes (body_bytes section) entries
body_encodes section entries few s = rw (is_minimal section entries s) (Lawful-type-body.minimal.encodes entries (entries_in_range section entries few s))

pub encodes_entries : (was section : EncodedItems) (old new : List ℕ) (r : Result (Unit {0}) EncodeError) → was ≡ section → IsCount was.count → OnOk r (new ≡ old ++ type_section_bytes was) → OnOk r (CountedSection was)
    → IfErr r (IsRefusal CountedSection OnlyTooLong was) → OnErr r (new ≡ old) → EncodesSection type_body (StandsFor section) 1 types section old new r
unfolding type_body
encodes_entries was section old new r same few ok can refused err =
    subst (λ (list : EncodedItems). EncodesSection type_body (StandsFor list) 1 types list old new r) same
    (encodes_section type_body (StandsFor was) 1 types (is_body_of types_kind) was (is_minimal was) (λ entries s. body_encodes was entries few s) Lawful-type-body.minimal.least old new r ok can refused err)

pub is_decoded : {T E : Type 0} (r : Result T E) (section : EncodedItems) (entries : List TypeEntry) → IsCount section.count → OnOk r (CountedSection section) → StandsFor section entries → OnOk r (IsTypedSection (typed_section_of (type_section_id, type_entries entries)))
is_decoded (Ok x) section entries few counted s = record {
  content = (entries_in_range section entries few s, refl);
  section = record { id = lit≤ tt; body = subst (λ (t : List ℕ). IsCount (length t)) (is_minimal section entries s) counted };
}
is_decoded (Err e) section entries few counted s = tt
