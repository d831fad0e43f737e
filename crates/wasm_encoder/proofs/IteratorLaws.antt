-- The laws of entries that are made of what iterators give.
use Rattle.std.proofs.Common.{◌≡◌, ℕ, ◌+◌, List, ◌∷◌, ◌++◌, Option, Result, Ok, Err, OnOk, refl, subst, arith}
use Rattle.std.specs.List.{All}
use Rattle.wasm_lists.proofs.WrittenLists.{in_range_of}
use Rattle.wasm_types.proofs.WrittenTypes.{func_written, struct_ok, group_written}
use Rattle.wasm_types.proofs.TypeFormatLaws.{Lawful-inner-type, Lawful-recursive-type}
use Rattle.wasm_types.specs.declared.types.value.ValType.{ValType}
use Rattle.wasm_types.specs.declared.types.composite.FuncType.{FuncType}
use Rattle.wasm_types.specs.declared.types.composite.CompositeInnerType.TheVariants as inner
use Rattle.wasm_types.specs.declared.types.composite.FieldType.{FieldType}
use Rattle.wasm_types.specs.declared.types.composite.StructType.{StructType}
use Rattle.wasm_types.specs.declared.types.recursive.SubType.{SubType}
use Rattle.wasm_types.specs.declared.types.recursive.TypeEntry.{TypeEntry}
use Rattle.wasm_types.specs.declared.types.recursive.TypeEntry.TheVariants as entries
use Rattle.wasm_codec.specs.Encoding.{IsMinimal, CanEncodeList}
use Rattle.wasm_codec.specs.Lists.{items_bytes}
use Rattle.wasm_types.specs.formats.Types.{result_type, field_type, inner_type, sub_type, recursive_type, val_type}
use Rattle.wasm_types.specs.TypeCounts.{CountedSub, CountedEntry}
use Rattle.wasm_encoder.specs.EncodedLists.{EncodedItems, OfItems}
use Rattle.wasm_encoder.specs.TypeSections.{Gains, OfBoth, final_entry, struct_entry}
use Rattle.wasm_encoder.proofs.TypeSectionLaws.{gains, gains_final, final_in_range, final_is}

-- ---- what was written of the items is in range

pub struct_in_range : (fields : List FieldType) → CanEncodeList (λ x. Unit {0}) fields → All (IsMinimal field_type.Encodes field_type.bytes) fields → recursive_type.InRange (struct_entry fields)
struct_in_range fields can h =
    let ty : StructType = record { fields = fields } in
    let written : Result (Unit {0}) (Unit {0}) = Ok tt in
    final_in_range (inner.Struct ty) (in_range_of inner_type Lawful-inner-type (inner.Struct ty) (struct_ok written ty can h))

pub group_in_range : (types : List SubType) → CanEncodeList CountedSub types → All (IsMinimal sub_type.Encodes sub_type.bytes) types → recursive_type.InRange (entries.Rec types)
group_in_range types can h = in_range_of recursive_type Lawful-recursive-type (entries.Rec types) (group_written types can h)

-- ---- one entry more of what iterators give

gains_items : {S A T E : Type 0} (gives : S → Option A → S → Type 0) (items : S) (r : Result T E) (old new : EncodedItems) (entry_of : List A → TypeEntry) (encoding : List A → List ℕ) (Can : List A → Type 0)
    → ((xs : List A) → recursive_type.bytes (entry_of xs) ≡ encoding xs) → ((xs : List A) → Can xs → CountedEntry (entry_of xs)) → ((xs : List A) → Can xs → recursive_type.InRange (entry_of xs)) → OnOk r (new.count ≡ old.count + 1) → OnOk r (OfItems gives items (λ xs. (new.bytes ≡ old.bytes ++ encoding xs) × Can xs))
    → OnOk r (OfItems gives items (λ xs. Gains old (entry_of xs) new))
gains_items gives items (Err e) old new entry_of encoding Can same counted fits count h = tt
gains_items gives items (Ok x) old new entry_of encoding Can same counted fits count h =
    (h.0, h.1, gains old new (entry_of h.0) count (rw (same h.0) h.2.0) (counted h.0 h.2.1) (fits h.0 h.2.1))

pub gains_struct : {S T E : Type 0} (gives : S → Option FieldType → S → Type 0) (fields : S) (r : Result T E) (now old new : EncodedItems) → now ≡ old → OnOk r (new.count ≡ now.count + 1)
    → OnOk r (OfItems gives fields (λ xs. (new.bytes ≡ now.bytes ++ 0x5f ∷ items_bytes field_type.bytes xs) × (CanEncodeList (λ x. Unit {0}) xs × All (IsMinimal field_type.Encodes field_type.bytes) xs))) → OnOk r (OfItems gives fields (λ xs. Gains old (struct_entry xs) new))
unfolding inner_type
gains_struct gives fields r now old new is count h = subst (λ (e : EncodedItems). OnOk r (OfItems gives fields (λ xs. Gains e (struct_entry xs) new))) is
    (gains_items gives fields r now new struct_entry (λ xs. 0x5f ∷ items_bytes field_type.bytes xs) (λ xs. CanEncodeList (λ x. Unit {0}) xs × All (IsMinimal field_type.Encodes field_type.bytes) xs) (λ xs. final_is (inner.Struct (record { fields = xs }))) (λ xs can. (omega arith, can.0.0)) (λ xs can. struct_in_range xs can.0 can.1) count h)

pub gains_group : {S T E : Type 0} (gives : S → Option SubType → S → Type 0) (types : S) (r : Result T E) (now old new : EncodedItems) → now ≡ old → OnOk r (new.count ≡ now.count + 1)
    → OnOk r (OfItems gives types (λ xs. (new.bytes ≡ now.bytes ++ 0x4e ∷ items_bytes sub_type.bytes xs) × (CanEncodeList CountedSub xs × All (IsMinimal sub_type.Encodes sub_type.bytes) xs))) → OnOk r (OfItems gives types (λ xs. Gains old (entries.Rec xs) new))
unfolding recursive_type
gains_group gives types r now old new is count h = subst (λ (e : EncodedItems). OnOk r (OfItems gives types (λ xs. Gains e (entries.Rec xs) new))) is
    (gains_items gives types r now new entries.Rec (λ xs. 0x4e ∷ items_bytes sub_type.bytes xs) (λ xs. CanEncodeList CountedSub xs × All (IsMinimal sub_type.Encodes sub_type.bytes) xs) (λ xs. refl) (λ xs can. can.0) (λ xs can. group_in_range xs can.0 can.1) count h)

function_gained : {P R T E : Type 0} (gives_params : P → Option ValType → P → Type 0) (gives_results : R → Option ValType → R → Type 0) (params : P) (results : R) (r : Result T E) (old new : EncodedItems) → OnOk r (new.count ≡ old.count + 1)
    → OnOk r (OfItems gives_params params (λ ps. OfItems gives_results results (λ rs. (new.bytes ≡ old.bytes ++ 0x60 ∷ (items_bytes val_type.bytes ps ++ items_bytes val_type.bytes rs))
    × ((CanEncodeList (λ x. Unit {0}) ps × All (IsMinimal val_type.Encodes val_type.bytes) ps) × (CanEncodeList (λ x. Unit {0}) rs × All (IsMinimal val_type.Encodes val_type.bytes) rs)))))
    → OnOk r (OfBoth gives_params gives_results params results (λ ty. Gains old (final_entry (inner.Func ty)) new))
unfolding inner_type result_type
function_gained gives_params gives_results params results (Err e) old new count h = tt
function_gained gives_params gives_results params results (Ok x) old new count (ps, drains_params, h) =
    let rs = h.0 in
    let written = h.2.1 in
    let ty : FuncType = record { params = ps; results = rs } in
    (ps, rs, drains_params, h.1, gains_final old new (inner.Func ty) count h.2.0 (written.0.0.0, written.1.0.0) (func_written ty written.0.0 written.1.0 written.0.1 written.1.1))

pub gains_function : {P R T E : Type 0} (gives_params : P → Option ValType → P → Type 0) (gives_results : R → Option ValType → R → Type 0) (params : P) (results : R) (r : Result T E) (now old new : EncodedItems) → now ≡ old → OnOk r (new.count ≡ now.count + 1)
    → OnOk r (OfItems gives_params params (λ ps. OfItems gives_results results (λ rs. (new.bytes ≡ now.bytes ++ 0x60 ∷ (items_bytes val_type.bytes ps ++ items_bytes val_type.bytes rs))
    × ((CanEncodeList (λ x. Unit {0}) ps × All (IsMinimal val_type.Encodes val_type.bytes) ps) × (CanEncodeList (λ x. Unit {0}) rs × All (IsMinimal val_type.Encodes val_type.bytes) rs)))))
    → OnOk r (OfBoth gives_params gives_results params results (λ ty. Gains old (final_entry (inner.Func ty)) new))
gains_function gives_params gives_results params results r now old new is count h =
    subst (λ (e : EncodedItems). OnOk r (OfBoth gives_params gives_results params results (λ ty. Gains e (final_entry (inner.Func ty)) new))) is (function_gained gives_params gives_results params results r now new count h)
