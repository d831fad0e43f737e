-- The laws of sections that are lists and are being built, whatever their items are.
use Rattle.std.proofs.Common.{◌≡◌, ℕ, suc, ◌+◌, ◌^◌, ◌≤◌, List, [], ◌∷◌, ◌++◌, length, map, Result, Ok, Err, OnOk, OnErr, IfErr, refl, sym, ap, ◌∙◌, subst, arith}
use Rattle.std.specs.Prelude.{IsErrOf}
use Rattle.std.specs.List.{All, flat_map}
use Rattle.std.proofs.lemmas.List.{length-map}
use Rattle.std.proofs.lemmas.List.Elements.{All-nil, All-cons}
use Rattle.wasm_codec.specs.declared.encode.EncodeError.{EncodeError}
use Rattle.wasm_codec.specs.declared.encode.EncodeError.TheVariants.{TooLong}
use Rattle.wasm_codec.specs.Encoding.{byte_list_bytes, IsCount, IsRefusal, IsMinimal, IsMinimalOrLonger, OnlyTooLong}
use Rattle.wasm_codec.specs.Lawful.{IsLawful}
use Rattle.wasm_codec.specs.formats.Combinators.{Format, items}
use Rattle.wasm_codec.proofs.FormatLaws.{Lawful-items}
use Rattle.wasm_sections.specs.formats.ModuleSectionParts.{ModuleSectionParts}
use Rattle.wasm_sections.specs.SectionBytes.{IsBodyOf, IsSectionAfter}
use Rattle.wasm_sections.proofs.ModuleSectionLaws.{section_written}
use Rattle.wasm_lists.proofs.WrittenLists.{in_range_of}
use Rattle.wasm_lists.specs.EncodedLists.{EncodedItems, CountedSection, IsRefusalOfEach, body_bytes}
use Rattle.wasm_lists.proofs.EncodedListLaws.{gains_one, gains_each, body_is, values_in_range, all_in_range}
use Rattle.wasm_sections.specs.SectionKinds.{SectionOf}
use Rattle.wasm_sections.specs.ListSections.{StandsForItems, GainsItem, GainsItems, LawfulItem, AddsIf, AddsEachIf, EncodesSection, EncodesItems}

-- ---- what is written of a section

module _ {V : Type 0} (B : Format V) (Stands : V → Type 0) (id : ℕ) (holding : V → ModuleSectionParts) (of : IsBodyOf id holding B) (section : EncodedItems)
    (is : (values : V) → Stands values → body_bytes section ≡ B.bytes values) (encodes : (values : V) → Stands values → B.Encodes (body_bytes section) values) where
  -- the body encodes the values, and with the id it is the section of a module that holds them
  both_written : {T E : Type 0} (r : Result T E) → OnOk r (CountedSection section)
      → OnOk r (((values : V) → Stands values → B.Encodes (body_bytes section) values) × ((values : V) → Stands values → IsSectionAfter id (byte_list_bytes (body_bytes section)) (holding values)))
  both_written (Ok x) counted = (encodes, λ values s. section_written holding B of values (body_bytes section) counted (encodes values s) (is values s))
  both_written (Err e) counted = tt

  pub section_encodes : ((bytes : List ℕ) (values : V) → B.Encodes bytes values → IsMinimalOrLonger bytes (B.bytes values)) → (old new : List ℕ) (r : Result (Unit {0}) EncodeError)
      → OnOk r (new ≡ old ++ byte_list_bytes (body_bytes section)) → OnOk r (CountedSection section) → IfErr r (IsRefusal CountedSection OnlyTooLong section) → OnErr r (new ≡ old)
      → EncodesSection B Stands id holding section old new r
  section_encodes least old new r ok can refused err = record {
    ok = ok;
    can = can;
    written = both_written r can;
    refused = refused;
    err = err;
    is_body = is;
    encodes = encodes;
    minimal = λ values bytes s g. rw (is values s) (least bytes values g);
  }

module _ {V : Type 0} (F : Format V) where
  any : (values : List V) → All (λ (v : V). Unit {0}) values
  any values = λ k d lt. tt

  section_is_body : (section : EncodedItems) (values : List V) → StandsForItems F section values → body_bytes section ≡ (items F).bytes values
  section_is_body section values s = body_is F (λ item. Unit {0}) section values s

  module _ (law : IsLawful F) where
    gains_item : (old new : EncodedItems) (item : V) → new.count ≡ old.count + 1 → new.bytes ≡ old.bytes ++ F.bytes item → IsMinimal F.Encodes F.bytes item → GainsItem F old item new
    gains_item old new item count bytes written = gains_one F (λ item. Unit {0}) old new item count bytes tt (in_range_of F law item written)

    gains_items : (old new : EncodedItems) (values : List V) → new.count ≡ old.count + length values → new.bytes ≡ old.bytes ++ flat_map F.bytes values → All (IsMinimal F.Encodes F.bytes) values → GainsItems F old values new
    gains_items old new values count more written = gains_each F (λ item. Unit {0}) old new values count more (any values) (all_in_range F law values written)

    body_encodes : (section : EncodedItems) → IsCount section.count → (values : List V) → StandsForItems F section values → (items F).Encodes (body_bytes section) values
    body_encodes section few values s = rw (section_is_body section values s) ((Lawful-items law).minimal.encodes values (values_in_range F (λ item. Unit {0}) section values few s))

-- ---- what the methods of a section of items promise

module _ {T V : Type 0} {encoding : T → List ℕ} {IsWritten Fits : T → Type 0} {view : T → V} {S : SectionOf V} (law : LawfulItem encoding IsWritten Fits view S) where
  one_gained : {X E : Type 0} (r : Result X E) (old new : EncodedItems) (item : T) → OnOk r (new.count ≡ old.count + 1) → OnOk r (new.bytes ≡ old.bytes ++ S.format.bytes (view item)) → OnOk r (IsWritten item)
      → OnOk r (Fits item → GainsItem S.format old (view item) new)
  one_gained (Ok x) old new item count bytes written = λ fits. gains_item S.format law.lawful old new (view item) count bytes (law.written item written fits)
  one_gained (Err e) old new item count bytes written = tt

  pub adds_one : (old new : EncodedItems) (item : T) (Refused : EncodeError → Type 0) (r : Result (Unit {0}) EncodeError) → OnOk r (new.count ≡ old.count + 1) → OnOk r (new.bytes ≡ old.bytes ++ encoding item) → OnOk r (IsWritten item) → OnErr r (new ≡ old) → IfErr r Refused
      → AddsIf S.format (Fits item) old (view item) new Refused r
  adds_one old new item Refused r count bytes written same refused =
      let viewed : OnOk r (new.bytes ≡ old.bytes ++ S.format.bytes (view item)) = subst (λ (t : List ℕ). OnOk r (new.bytes ≡ old.bytes ++ t)) (law.bytes item) bytes in
      record { count = count; bytes = viewed; gains = one_gained r old new item count viewed written; same = same; refused = refused }

  pub all_bytes : (xs : List T) → flat_map encoding xs ≡ flat_map S.format.bytes (map view xs)
  all_bytes [] = refl
  all_bytes (x ∷ xs) = ap (λ (t : List ℕ). t ++ flat_map encoding xs) (law.bytes x) ∙ ap (λ (t : List ℕ). S.format.bytes (view x) ++ t) (all_bytes xs)

  pub all_written : (xs : List T) → All IsWritten xs → All Fits xs → All (IsMinimal S.format.Encodes S.format.bytes) (map view xs)
  all_written [] are fit = All-nil (IsMinimal S.format.Encodes S.format.bytes)
  all_written (x ∷ xs) are fit = All-cons (IsMinimal S.format.Encodes S.format.bytes) (view x) (map view xs) (law.written x (are 0 x (omega arith)) (fit 0 x (omega arith))) (all_written xs (λ k d lt. are (suc k) d (omega (arith, lt))) (λ k d lt. fit (suc k) d (omega (arith, lt))))

  each_gained : {X E : Type 0} (r : Result X E) (old new : EncodedItems) (xs : List T) → OnOk r (new.count ≡ old.count + length xs) → OnOk r (new.bytes ≡ old.bytes ++ flat_map S.format.bytes (map view xs)) → OnOk r (All IsWritten xs)
      → OnOk r (All Fits xs → GainsItems S.format old (map view xs) new)
  each_gained (Ok x) old new xs count bytes written = λ fit. gains_items S.format law.lawful old new (map view xs) (count ∙ ap (λ (n : ℕ). old.count + n) (sym (length-map xs view))) bytes (all_written xs written fit)
  each_gained (Err e) old new xs count bytes written = tt

  pub adds_each : (was old new : EncodedItems) (xs : List T) (Can : T → Type 0) (refuses : T → EncodeError → Type 0) (r : Result (Unit {0}) EncodeError) → was ≡ old
      → OnOk r (new.count ≡ was.count + length xs) → OnOk r (new.bytes ≡ was.bytes ++ flat_map encoding xs) → OnOk r (All IsWritten xs) → OnErr r (new ≡ was) → IfErr r (IsRefusalOfEach Can refuses was xs) → (2 ^ 32 ≤ was.count + length xs → IsErrOf r TooLong)
      → AddsEachIf S.format view Fits old xs new (IsRefusalOfEach Can refuses old xs) r
  adds_each was old new xs Can refuses r is count bytes written same refused too_many =
      let viewed : OnOk r (new.bytes ≡ was.bytes ++ flat_map S.format.bytes (map view xs)) = subst (λ (t : List ℕ). OnOk r (new.bytes ≡ was.bytes ++ t)) (all_bytes xs) bytes in
      subst (λ (list : EncodedItems). AddsEachIf S.format view Fits list xs new (IsRefusalOfEach Can refuses list xs) r) is
      (record { count = count; bytes = viewed; gains = each_gained r was new xs count viewed written; same = same; refused = refused; too_many = too_many })

  pub encodes_items : (was section : EncodedItems) (old new : List ℕ) (r : Result (Unit {0}) EncodeError) → was ≡ section → IsCount was.count
      → OnOk r (new ≡ old ++ byte_list_bytes (body_bytes was)) → OnOk r (CountedSection was) → IfErr r (IsRefusal CountedSection OnlyTooLong was) → OnErr r (new ≡ old)
      → EncodesItems S section old new r
  encodes_items was section old new r same few ok can refused err =
      subst (λ (list : EncodedItems). EncodesItems S list old new r) same
      (section_encodes (items S.format) (StandsForItems S.format was) S.id S.holding law.body was (section_is_body S.format was) (body_encodes S.format law.lawful was few) (Lawful-items law.lawful).minimal.least old new r ok can refused err)
