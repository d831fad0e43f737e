-- Types that were written: they are in the range of their format, so what was written is their minimal encoding.
use Rattle.std.proofs.Common.{ℕ, suc, Bool, true, false, List, [], ◌∷◌, length, Option, Some, None, Result, Ok, Err, OnOk, refl, arith}
use Rattle.std.specs.Prelude.{IfSome}
use Rattle.std.specs.List.{All, AllByRecursion}
use Rattle.wasm_types.specs.declared.types.heap.AbstractHeapType.{AbstractHeapType}
use Rattle.wasm_types.specs.declared.types.heap.AbstractHeapType.TheVariants as abstracts
use Rattle.wasm_types.specs.declared.types.heap.HeapType.{HeapType}
use Rattle.wasm_types.specs.declared.types.heap.HeapType.TheVariants.{Abstract, Concrete, Exact}
use Rattle.wasm_types.specs.declared.types.heap.RefType.{RefType}
use Rattle.wasm_types.specs.declared.types.value.ValType.{ValType}
use Rattle.wasm_types.specs.declared.types.value.ValType.TheVariants as values
use Rattle.wasm_types.specs.declared.types.value.StorageType.{StorageType}
use Rattle.wasm_types.specs.declared.types.value.StorageType.TheVariants as storages
use Rattle.wasm_types.specs.declared.types.composite.FieldType.{FieldType}
use Rattle.wasm_types.specs.declared.types.composite.FuncType.{FuncType}
use Rattle.wasm_types.specs.declared.types.composite.StructType.{StructType}
use Rattle.wasm_types.specs.declared.types.composite.ArrayType.{ArrayType}
use Rattle.wasm_types.specs.declared.types.composite.ContType.{ContType}
use Rattle.wasm_types.specs.declared.types.composite.CompositeInnerType.{CompositeInnerType}
use Rattle.wasm_types.specs.declared.types.composite.CompositeInnerType.TheVariants as inner
use Rattle.wasm_types.specs.declared.types.composite.CompositeType.{CompositeType}
use Rattle.wasm_types.specs.declared.types.recursive.SubType.{SubType}
use Rattle.wasm_types.specs.declared.types.recursive.TypeEntry.TheVariants as entries
use Rattle.wasm_codec.specs.Encoding.{CanEncodeList, IsCount, IsMinimal}
use Rattle.wasm_codec.specs.Lawful.{IsLawful}
use Rattle.wasm_codec.specs.formats.Numbers.{EncodesU32}
use Rattle.wasm_codec.specs.Leb128.{unsigned_leb128}
use Rattle.wasm_codec.specs.formats.Combinators.{Format, flagged, optional, u32, index}
use Rattle.wasm_codec.proofs.NumberLaws.{written}
use Rattle.wasm_codec.proofs.FormatLaws.{Lawful-u32, Lawful-index}
use Rattle.wasm_lists.proofs.WrittenLists.{in_range_of}
use Rattle.wasm_types.specs.TypeRanges.{IsU32, HeapTypeFits, ValTypeFits, StorageTypeFits}
use Rattle.wasm_types.specs.TypeCounts.{CountedSub}
use Rattle.wasm_types.specs.formats.Types.{abstract_type, heap_type, reference, ref_type, val_type, result_type, storage_type, mutability, field_type, inner_type, composite_type, sub_type, recursive_type}
use Rattle.wasm_types.proofs.TypeFormatLaws.{Lawful-abstract-type, Lawful-heap-type, Lawful-ref-type, Lawful-val-type, Lawful-storage-type, Lawful-field-type, Lawful-inner-type, Lawful-composite-type, Lawful-sub-type, Lawful-recursive-type}

-- ---- formats

is_written : {V : Type 0} (F : Format V) → IsLawful F → (v : V) → F.InRange v → IsMinimal F.Encodes F.bytes v
is_written F law v fits = written law.minimal v fits

-- items that were written are in range
pub all_in_range : {V : Type 0} (F : Format V) → IsLawful F → (vs : List V) → All (IsMinimal F.Encodes F.bytes) vs → AllByRecursion F.InRange vs
all_in_range F law [] h = tt
all_in_range F law (v ∷ vs) h = (law.in_range (F.bytes v) v (h 0 v (omega arith)).encodes, all_in_range F law vs (λ k d lt. h (suc k) d (omega (arith, lt))))

on_ok : {T E : Type 0} (r : Result T E) (P Q : Type 0) → (P → Q) → OnOk r P → OnOk r Q
on_ok (Ok x) P Q f p = f p
on_ok (Err e) P Q f p = tt

-- ---- heap, reference, value and storage types

abstract_some : (ty : AbstractHeapType) → abstract_type.InRange ty
unfolding abstract_type
abstract_some abstracts.NoCont = refl
abstract_some ty = refl

pub abstract_written : (ty : AbstractHeapType) → IsMinimal abstract_type.Encodes abstract_type.bytes ty
abstract_written ty = is_written abstract_type Lawful-abstract-type ty (abstract_some ty)

pub heap_in_range : (h : HeapType) → HeapTypeFits h → heap_type.InRange h
unfolding heap_type
heap_in_range (Abstract true ty) fits = ((abstract_some ty, refl), refl)
heap_in_range (Abstract false ty) fits = ((abstract_some ty, refl), refl)
heap_in_range (Concrete n) fits = (fits, refl)
heap_in_range (Exact n) fits = (fits, refl)

pub heap_written : (h : HeapType) → HeapTypeFits h → IsMinimal heap_type.Encodes heap_type.bytes h
heap_written h fits = is_written heap_type Lawful-heap-type h (heap_in_range h fits)

of_parts : (nullable : Bool) (h : HeapType) → HeapTypeFits h → ref_type.InRange (reference nullable h)
unfolding ref_type
of_parts false h fits = (heap_in_range h fits, refl)
of_parts true (Abstract true ty) fits = ((abstract_some ty, refl), refl)
of_parts true (Abstract false ty) fits = ((abstract_some ty, refl), refl)
of_parts true (Concrete n) fits = (heap_in_range (Concrete n) fits, refl)
of_parts true (Exact n) fits = (heap_in_range (Exact n) fits, refl)

pub ref_written : (r : RefType) → HeapTypeFits r.heap_type → IsMinimal ref_type.Encodes ref_type.bytes r
ref_written r fits = is_written ref_type Lawful-ref-type r (of_parts r.nullable r.heap_type fits)

pub val_in_range : (v : ValType) → ValTypeFits v → val_type.InRange v
unfolding val_type
val_in_range values.I32 fits = refl
val_in_range values.I64 fits = refl
val_in_range values.F32 fits = refl
val_in_range values.F64 fits = refl
val_in_range values.V128 fits = refl
val_in_range (values.Ref r) fits = (of_parts r.nullable r.heap_type fits, refl)

pub val_written : (v : ValType) → ValTypeFits v → IsMinimal val_type.Encodes val_type.bytes v
val_written v fits = is_written val_type Lawful-val-type v (val_in_range v fits)

storage_in_range : (s : StorageType) → StorageTypeFits s → storage_type.InRange s
unfolding storage_type
storage_in_range storages.I8 fits = refl
storage_in_range storages.I16 fits = refl
storage_in_range (storages.Val v) fits = (val_in_range v fits, refl)

pub storage_written : (s : StorageType) → StorageTypeFits s → IsMinimal storage_type.Encodes storage_type.bytes s
storage_written s fits = is_written storage_type Lawful-storage-type s (storage_in_range s fits)

-- ---- composite types

mutable_in_range : (m : Bool) → mutability.InRange m
unfolding mutability
mutable_in_range true = refl
mutable_in_range false = refl

field_in_range : (f : FieldType) → StorageTypeFits f.element_type → field_type.InRange f
unfolding field_type
field_in_range f fits = ((storage_in_range f.element_type fits, mutable_in_range f.mutable), refl)

pub field_written : (f : FieldType) → StorageTypeFits f.element_type → IsMinimal field_type.Encodes field_type.bytes f
field_written f fits = is_written field_type Lawful-field-type f (field_in_range f fits)

inner_written : (c : CompositeInnerType) → inner_type.InRange c → IsMinimal inner_type.Encodes inner_type.bytes c
inner_written c fits = is_written inner_type Lawful-inner-type c fits

func_in_range : (f : FuncType) → IsCount (length f.params) → IsCount (length f.results) → AllByRecursion val_type.InRange f.params → AllByRecursion val_type.InRange f.results → inner_type.InRange (inner.Func f)
unfolding inner_type result_type
func_in_range f params results p r = (((params, p), (results, r)), refl)

struct_in_range : (s : StructType) → IsCount (length s.fields) → AllByRecursion field_type.InRange s.fields → inner_type.InRange (inner.Struct s)
unfolding inner_type
struct_in_range s count fields = ((count, fields), refl)

array_in_range : (a : ArrayType) → field_type.InRange a.0 → inner_type.InRange (inner.Array a)
unfolding inner_type
array_in_range a field = (field, refl)

cont_in_range : (c : ContType) → index.InRange c.0 → inner_type.InRange (inner.Cont c)
unfolding inner_type
cont_in_range c fits = (fits, refl)

pub func_written : (f : FuncType) → CanEncodeList (λ x. Unit {0}) f.params → CanEncodeList (λ x. Unit {0}) f.results → All (IsMinimal val_type.Encodes val_type.bytes) f.params → All (IsMinimal val_type.Encodes val_type.bytes) f.results → IsMinimal inner_type.Encodes inner_type.bytes (inner.Func f)
func_written f params results p r = inner_written (inner.Func f) (func_in_range f params.0 results.0 (all_in_range val_type Lawful-val-type f.params p) (all_in_range val_type Lawful-val-type f.results r))

pub func_ok : {T E : Type 0} (r : Result T E) (f : FuncType) → CanEncodeList (λ x. Unit {0}) f.params → All (IsMinimal val_type.Encodes val_type.bytes) f.params → OnOk r (CanEncodeList (λ x. Unit {0}) f.results) → OnOk r (All (IsMinimal val_type.Encodes val_type.bytes) f.results)
    → OnOk r (IsMinimal inner_type.Encodes inner_type.bytes (inner.Func f))
func_ok (Err e) f params p results s = tt
func_ok (Ok x) f params p results s = func_written f params results p s

pub struct_ok : {T E : Type 0} (r : Result T E) (s : StructType) → OnOk r (CanEncodeList (λ x. Unit {0}) s.fields) → OnOk r (All (IsMinimal field_type.Encodes field_type.bytes) s.fields)
    → OnOk r (IsMinimal inner_type.Encodes inner_type.bytes (inner.Struct s))
struct_ok (Err e) s count fields = tt
struct_ok (Ok x) s count fields = inner_written (inner.Struct s) (struct_in_range s count.0 (all_in_range field_type Lawful-field-type s.fields fields))

pub array_written : (a : ArrayType) → StorageTypeFits a.0.element_type → IsMinimal inner_type.Encodes inner_type.bytes (inner.Array a)
array_written a fits = inner_written (inner.Array a) (array_in_range a (field_in_range a.0 fits))

pub cont_written : (c : ContType) → IsMinimal index.Encodes index.bytes c.0 → IsMinimal inner_type.Encodes inner_type.bytes (inner.Cont c)
cont_written c h = inner_written (inner.Cont c) (cont_in_range c (in_range_of index Lawful-index c.0 h))

-- ---- a shared type, its descriptor and what it describes

with_flag : {V : Type 0} (F : Format V) (shared : Bool) (v : V) → F.InRange v → (flagged 0x65 F).InRange (shared, v)
with_flag F true v fits = (fits, refl)
with_flag F false v fits = (fits, refl)

with_index : {V : Type 0} (flag : ℕ) (F : Format V) (index : Option ℕ) (v : V) → IfSome index IsU32 → F.InRange v → (optional flag u32 F).InRange (index, v)
with_index flag F (Some n) v index fits = ((index, fits), refl)
with_index flag F None v index fits = (fits, refl)

composite_in_range : (c : CompositeType) → IfSome c.describes IsU32 → IfSome c.descriptor IsU32 → inner_type.InRange c.inner → composite_type.InRange c
unfolding composite_type
composite_in_range c describes descriptor fits = (
  with_flag (optional 0x4c u32 (optional 0x4d u32 inner_type)) c.shared (c.describes, (c.descriptor, c.inner))
      (with_index 0x4c (optional 0x4d u32 inner_type) c.describes (c.descriptor, c.inner) describes (with_index 0x4d inner_type c.descriptor c.inner descriptor fits)),
  refl,
)

pub composite_ok : {T E : Type 0} (r : Result T E) (c : CompositeType) → IfSome c.describes IsU32 → IfSome c.descriptor IsU32 → OnOk r (IsMinimal inner_type.Encodes inner_type.bytes c.inner) → OnOk r (IsMinimal composite_type.Encodes composite_type.bytes c)
composite_ok r c describes descriptor h = on_ok r _ _ (λ h. is_written composite_type Lawful-composite-type c (composite_in_range c describes descriptor (in_range_of inner_type Lawful-inner-type c.inner h))) h

-- ---- subtypes and entries

by_parts : (is_final : Bool) (supertypes : List ℕ) (c : CompositeType) → IsCount (length supertypes) → AllByRecursion u32.InRange supertypes → composite_type.InRange c → sub_type.InRange (record { is_final = is_final; supertype_idxs = supertypes; composite_type = c })
unfolding sub_type
by_parts false indexes c count fit fits = (((count, fit), fits), refl)
by_parts true [] c count fit fits = (fits, refl)
by_parts true (index ∷ indexes) c count fit fits = (((count, fit), fits), refl)

pub sub_ok : {T E : Type 0} (r : Result T E) (s : SubType) → IsCount (length s.supertype_idxs) → All (IsMinimal EncodesU32 unsigned_leb128) s.supertype_idxs → OnOk r (IsMinimal composite_type.Encodes composite_type.bytes s.composite_type) → OnOk r (IsMinimal sub_type.Encodes sub_type.bytes s)
sub_ok r s count indexes h = on_ok r _ _ (λ h. is_written sub_type Lawful-sub-type s (by_parts s.is_final s.supertype_idxs s.composite_type count (all_in_range u32 Lawful-u32 s.supertype_idxs indexes) (in_range_of composite_type Lawful-composite-type s.composite_type h))) h

alone_in_range : (s : SubType) → sub_type.InRange s → recursive_type.InRange (entries.Sub s)
unfolding recursive_type
alone_in_range s fits = (fits, refl)

group_in_range : (types : List SubType) → IsCount (length types) → AllByRecursion sub_type.InRange types → recursive_type.InRange (entries.Rec types)
unfolding recursive_type
group_in_range types count fits = ((count, fits), refl)

pub alone_ok : {T E : Type 0} (r : Result T E) (s : SubType) → OnOk r (IsMinimal sub_type.Encodes sub_type.bytes s) → OnOk r (IsMinimal recursive_type.Encodes recursive_type.bytes (entries.Sub s))
alone_ok r s h = on_ok r _ _ (λ h. is_written recursive_type Lawful-recursive-type (entries.Sub s) (alone_in_range s (in_range_of sub_type Lawful-sub-type s h))) h

pub group_written : (types : List SubType) → CanEncodeList CountedSub types → All (IsMinimal sub_type.Encodes sub_type.bytes) types → IsMinimal recursive_type.Encodes recursive_type.bytes (entries.Rec types)
group_written types count h = is_written recursive_type Lawful-recursive-type (entries.Rec types) (group_in_range types count.0 (all_in_range sub_type Lawful-sub-type types h))

pub group_ok : {T E : Type 0} (r : Result T E) (types : List SubType) → OnOk r (CanEncodeList CountedSub types) → OnOk r (All (IsMinimal sub_type.Encodes sub_type.bytes) types) → OnOk r (IsMinimal recursive_type.Encodes recursive_type.bytes (entries.Rec types))
group_ok (Err e) types count h = tt
group_ok (Ok x) types count h = group_written types count h
