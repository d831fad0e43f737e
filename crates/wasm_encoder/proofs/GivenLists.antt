-- The values that a section or a function stands for, if the items that its iterators give are known.
use Rattle.std.proofs.Common.{◌≡◌, ℕ, ◌+◌, ◌^◌, ◌≤◌, ◌⊎◌, List, [], ◌∷◌, ◌++◌, length, drop, Option, Result, Ok, Err, OnOk, OnErr, IfErr, ap, refl, sym, subst, ◌∙◌}
use Rattle.std.specs.Prelude.{IsErrOf}
use Rattle.std.specs.List.{All}
use mathlib.Core.List.{map-id}
use Rattle.std.specs.Iterator.{Count, Drains, size}
use Rattle.std.proofs.Transfers.{drop-appended}
use Rattle.std.proofs.lemmas.Iterator.{YieldsList, items_from_drains}
use Rattle.wasm_types.specs.declared.types.value.ValType.{ValType}
use Rattle.wasm_types.specs.declared.types.composite.CompositeInnerType.TheVariants as inner
use Rattle.wasm_types.specs.declared.types.recursive.TypeEntry.{TypeEntry}
use Rattle.wasm_types.specs.declared.types.recursive.TypeEntry.TheVariants as entries
use Rattle.wasm_types.specs.declared.types.composite.FieldType.{FieldType}
use Rattle.wasm_types.specs.declared.types.recursive.SubType.{SubType}
use Rattle.wasm_types.specs.formats.Types.{field_type, sub_type, val_type}
use Rattle.wasm_types.specs.TypeCounts.{CountedSub}
use Rattle.wasm_codec.specs.declared.encode.EncodeError.{EncodeError}
use Rattle.wasm_codec.specs.declared.encode.EncodeError.TheVariants.{TooLong}
use Rattle.wasm_codec.specs.Encoding.{IsMinimal, CanEncodeList, OnlyTooLong}
use Rattle.wasm_codec.specs.formats.Numbers.{EncodesU32}
use Rattle.wasm_codec.specs.Leb128.{unsigned_leb128}
use Rattle.wasm_codec.specs.Lists.{items_bytes}
use Rattle.wasm_code.specs.formats.CodeBodies.{local_group}
use Rattle.wasm_lists.specs.Iterators.{AppendsItems, IsItemsRefusal}
use Rattle.wasm_encoder.specs.CodeSections.{FunctionStandsFor, MakesFunction, Restarts, body_of}
use Rattle.wasm_encoder.specs.EncodedLists.{EncodedItems, GivesItems, GivesSome, IsFull, IsMemoryOrTooLong, IsUncounted, OfItems}
use Rattle.wasm_encoder.specs.TypeSections.{AddsFunction, AddsGiven, Gains, OfBoth, StandsFor, UncountedSub, final_entry, struct_entry}
use Rattle.wasm_encoder.proofs.CodeSectionLaws.{locals_stand}
use Rattle.wasm_encoder.proofs.IteratorLaws.{gains_function, gains_group, gains_struct}
use Rattle.wasm_encoder.proofs.RefusalLaws.{both_refused, fields_refused, group_refused, if_refused, locals_refused}

given : {S A : Type 0} {steps : S → Option A → S → Type 0} {s : S} {all : List A} (xs : List A) → Drains steps s xs → YieldsList steps (λ x. x) s all → xs ≡ all
given xs drains yields = sym (map-id xs) ∙ items_from_drains xs (drains.1.0, drains.1.1, λ w. (drains.0, drains.1.2)) yields

-- what holds of the list that the iterator gives holds of these items
holds_of_given : {S A : Type 0} (gives : S → Option A → S → Type 0) (s : S) (Holds : List A → Type 0) → OfItems gives s Holds → (all : List A) → GivesItems gives s all → Holds all
holds_of_given gives s Holds ran all yields = subst Holds (given ran.0 ran.1 yields) ran.2

items_stand : {S A T E : Type 0} (gives : S → Option A → S → Type 0) (s : S) (r : Result T E) (old new : EncodedItems) (entry_of : List A → TypeEntry) → OnOk r (OfItems gives s (λ xs. Gains old (entry_of xs) new))
    → (before : List TypeEntry) (all : List A) → StandsFor old before → GivesItems gives s all → OnOk r (StandsFor new (before ++ entry_of all ∷ []))
items_stand gives s (Ok x) old new entry_of ran before all stands yields =
    let gained : Gains old (entry_of all) new = subst (λ (t : List _). Gains old (entry_of t) new) (given ran.0 ran.1 yields) ran.2 in
    gained.stands before stands
items_stand gives s (Err e) old new entry_of ran before all stands yields = tt

function_stands : {P R T E : Type 0} (gives_params : P → Option ValType → P → Type 0) (gives_results : R → Option ValType → R → Type 0) (params : P) (results : R) (r : Result T E) (old new : EncodedItems)
    → OnOk r (OfBoth gives_params gives_results params results (λ ty. Gains old (final_entry (inner.Func ty)) new)) → (before : List TypeEntry) (ps rs : List ValType) → StandsFor old before → GivesItems gives_params params ps → GivesItems gives_results results rs
    → OnOk r (StandsFor new (before ++ final_entry (inner.Func (record { params = ps; results = rs })) ∷ []))
function_stands gives_params gives_results params results (Ok x) old new ran before ps rs stands first second =
    let by_params : Gains old (final_entry (inner.Func (record { params = ps; results = ran.1 }))) new = subst (λ (t : List ValType). Gains old (final_entry (inner.Func (record { params = t; results = ran.1 }))) new) (given ran.0 ran.2 first) ran.4 in
    let gained : Gains old (final_entry (inner.Func (record { params = ps; results = rs }))) new = subst (λ (t : List ValType). Gains old (final_entry (inner.Func (record { params = ps; results = t }))) new) (given ran.1 ran.3 second) by_params in
    gained.stands before stands
function_stands gives_params gives_results params results (Err e) old new ran before ps rs stands first second = tt

-- ---- what the calls promise that take iterators

abbrev error_of : Result (Unit {0}) EncodeError → EncodeError
error_of (Ok x) = TooLong
error_of (Err e) = e

clash : (r : Result (Unit {0}) EncodeError) (x : Unit {0}) (e : EncodeError) → r ≡ Ok x → r ≡ Err e → ⊥
clash r x e p q = absurd cc

-- the list after other bytes is the list alone, without them
alone : {S : Type 0} (gives : S → Option (ℕ × ValType) → S → Type 0) (Can Written : ℕ × ValType → Type 0) (locals : S) (old all : List ℕ) → AppendsItems local_group.bytes Can Written gives locals old all → AppendsItems local_group.bytes Can Written gives locals [] (drop (length old) all)
alone gives Can Written locals old all given = (given.0, given.1, drop-appended old all (items_bytes local_group.bytes given.0) given.2, given.3, given.4)

-- the locals were appended, or they weren't
module _ {S : Type 0} (gives : S → Option (ℕ × ValType) → S → Type 0) (left : S → Count) (locals : S) (r : Result (Unit {0}) EncodeError) (too_many : 2 ^ 32 ≤ size (left locals) → IsErrOf r TooLong) where
  pub function_made : (none function : List ℕ) (x : Unit {0}) → r ≡ Ok x → none ≡ [] → AppendsItems local_group.bytes (λ (p : ℕ × ValType). Unit {0} × Unit {0}) (λ (p : ℕ × ValType). IsMinimal EncodesU32 unsigned_leb128 p.0 × IsMinimal val_type.Encodes val_type.bytes p.1) gives locals none function
      → MakesFunction gives locals (size (left locals)) (Ok function)
  function_made none function x ok is appended =
      let stand = locals_stand gives (λ p. Unit {0} × Unit {0}) locals none function is appended in
      record { given = stand; stands = holds_of_given gives locals (λ groups. FunctionStandsFor function (body_of groups [])) stand; refused = tt; too_many = λ long. absurd (clash r x TooLong ok (too_many long)) }

  pub function_not_made : (e : EncodeError) → r ≡ Err e → IsItemsRefusal (λ (p : ℕ × ValType). Unit {0} × Unit {0}) (λ p e. ⊥ ⊎ ⊥) gives left locals e → MakesFunction gives locals (size (left locals)) (Err e)
  function_not_made e err refused =
      record { given = tt; stands = λ groups given. tt; refused = locals_refused gives left locals e refused; too_many = λ long. ap Err (sym (ap error_of err) ∙ ap error_of (too_many long)) }

  pub restarted : (old all new : List ℕ) (x : Unit {0}) → r ≡ Ok x → AppendsItems local_group.bytes (λ (p : ℕ × ValType). Unit {0} × Unit {0}) (λ (p : ℕ × ValType). IsMinimal EncodesU32 unsigned_leb128 p.0 × IsMinimal val_type.Encodes val_type.bytes p.1) gives locals old all → new ≡ drop (length old) all
      → Restarts gives locals (size (left locals)) old new (Ok x)
  restarted old all new x ok appended is =
      let Appends = AppendsItems local_group.bytes (λ (p : ℕ × ValType). Unit {0} × Unit {0}) (λ (p : ℕ × ValType). IsMinimal EncodesU32 unsigned_leb128 p.0 × IsMinimal val_type.Encodes val_type.bytes p.1) gives locals [] in
      record { makes = function_made [] new x ok refl (subst Appends (sym is) (alone gives (λ p. Unit {0} × Unit {0}) (λ p. IsMinimal EncodesU32 unsigned_leb128 p.0 × IsMinimal val_type.Encodes val_type.bytes p.1) locals old all appended)); same = tt }

  pub not_restarted : (old new : List ℕ) (e : EncodeError) → r ≡ Err e → IsItemsRefusal (λ (p : ℕ × ValType). Unit {0} × Unit {0}) (λ p e. ⊥ ⊎ ⊥) gives left locals e → new ≡ old → Restarts gives locals (size (left locals)) old new (Err e)
  not_restarted old new e err refused same = record { makes = function_not_made e err refused; same = same }

module _ (was old new : EncodedItems) (r : Result (Unit {0}) EncodeError) (same : was ≡ old) (count : OnOk r (new.count ≡ was.count + 1)) (unchanged : OnErr r (new ≡ was)) where
  adds_items : {S A : Type 0} (gives : S → Option A → S → Type 0) (items : S) (entry_of : List A → TypeEntry) (Long : Type 0) → OnOk r (OfItems gives items (λ xs. Gains old (entry_of xs) new)) → IfErr r (IsMemoryOrTooLong (IsFull was ⊎ Long)) → AddsGiven gives items entry_of Long old new r
  adds_items gives items entry_of Long gained refused = record {
    gains = gained;
    stands = items_stand gives items r old new entry_of gained;
    same = subst (λ (list : EncodedItems). OnErr r (new ≡ list)) same unchanged;
    refused = subst (λ (list : EncodedItems). IfErr r (IsMemoryOrTooLong (IsFull list ⊎ Long))) same refused;
  }

  pub adds_struct : {S : Type 0} (gives : S → Option FieldType → S → Type 0) (left : S → Count) (fields : S)
      → OnOk r (OfItems gives fields (λ xs. (new.bytes ≡ was.bytes ++ 0x5f ∷ items_bytes field_type.bytes xs) × (CanEncodeList (λ x. Unit {0}) xs × All (IsMinimal field_type.Encodes field_type.bytes) xs)))
      → IfErr r (λ e. IsMemoryOrTooLong (IsFull was) e ⊎ IsItemsRefusal (λ x. Unit {0}) (λ x e. ⊥) gives left fields e) → AddsGiven gives fields struct_entry (IsUncounted (size (left fields))) old new r
  adds_struct gives left fields h refused =
      adds_items gives fields struct_entry (IsUncounted (size (left fields))) (gains_struct gives fields r was old new same count h)
      (if_refused (λ e. IsMemoryOrTooLong (IsFull was) e ⊎ IsItemsRefusal (λ x. Unit {0}) (λ x e. ⊥) gives left fields e) (IsMemoryOrTooLong (IsFull was ⊎ IsUncounted (size (left fields)))) r (fields_refused gives left was fields) refused)

  pub adds_group : {S : Type 0} (gives : S → Option SubType → S → Type 0) (left : S → Count) (types : S)
      → OnOk r (OfItems gives types (λ xs. (new.bytes ≡ was.bytes ++ 0x4e ∷ items_bytes sub_type.bytes xs) × (CanEncodeList CountedSub xs × All (IsMinimal sub_type.Encodes sub_type.bytes) xs)))
      → IfErr r (λ e. IsMemoryOrTooLong (IsFull was) e ⊎ IsItemsRefusal CountedSub OnlyTooLong gives left types e) → AddsGiven gives types entries.Rec (IsUncounted (size (left types)) ⊎ GivesSome gives types UncountedSub) old new r
  adds_group gives left types h refused =
      adds_items gives types entries.Rec (IsUncounted (size (left types)) ⊎ GivesSome gives types UncountedSub) (gains_group gives types r was old new same count h)
      (if_refused (λ e. IsMemoryOrTooLong (IsFull was) e ⊎ IsItemsRefusal CountedSub OnlyTooLong gives left types e) (IsMemoryOrTooLong (IsFull was ⊎ (IsUncounted (size (left types)) ⊎ GivesSome gives types UncountedSub))) r (group_refused gives left was types) refused)

  pub adds_function : {P R : Type 0} (gives_params : P → Option ValType → P → Type 0) (gives_results : R → Option ValType → R → Type 0) (left_params : P → Count) (left_results : R → Count) (params : P) (results : R)
      → OnOk r (OfItems gives_params params (λ ps. OfItems gives_results results (λ rs. (new.bytes ≡ was.bytes ++ 0x60 ∷ (items_bytes val_type.bytes ps ++ items_bytes val_type.bytes rs))
      × ((CanEncodeList (λ x. Unit {0}) ps × All (IsMinimal val_type.Encodes val_type.bytes) ps) × (CanEncodeList (λ x. Unit {0}) rs × All (IsMinimal val_type.Encodes val_type.bytes) rs)))))
      → IfErr r (λ e. IsMemoryOrTooLong (IsFull was) e ⊎ (IsItemsRefusal (λ x. Unit {0}) (λ x e. ⊥) gives_params left_params params e ⊎ IsItemsRefusal (λ x. Unit {0}) (λ x e. ⊥) gives_results left_results results e))
      → AddsFunction gives_params gives_results params results (IsUncounted (size (left_params params)) ⊎ IsUncounted (size (left_results results))) old new r
  adds_function gives_params gives_results left_params left_results params results h refused =
      let gained = gains_function gives_params gives_results params results r was old new same count h in
      let why = if_refused (λ e. IsMemoryOrTooLong (IsFull was) e ⊎ (IsItemsRefusal (λ x. Unit {0}) (λ x e. ⊥) gives_params left_params params e ⊎ IsItemsRefusal (λ x. Unit {0}) (λ x e. ⊥) gives_results left_results results e))
      (IsMemoryOrTooLong (IsFull was ⊎ (IsUncounted (size (left_params params)) ⊎ IsUncounted (size (left_results results))))) r (both_refused gives_params gives_results left_params left_results was params results) refused in
      record {
        gains = gained;
        stands = function_stands gives_params gives_results params results r old new gained;
        same = subst (λ (list : EncodedItems). OnErr r (new ≡ list)) same unchanged;
        refused = subst (λ (list : EncodedItems). IfErr r (IsMemoryOrTooLong (IsFull list ⊎ (IsUncounted (size (left_params params)) ⊎ IsUncounted (size (left_results results)))))) same why;
      }
