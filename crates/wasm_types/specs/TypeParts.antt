-- The parts that types are written from, and the values among which a byte is looked up.
use Rattle.std.specs.Prelude.{ℕ, Bool, true, false, ◌&&◌, is_some, List, [], ◌∷◌, Option, Some, None}
use Rattle.wasm_types.specs.declared.types.heap.AbstractHeapType.{AbstractHeapType}
use Rattle.wasm_types.specs.declared.types.heap.AbstractHeapType.TheVariants as abstracts
use Rattle.wasm_types.specs.declared.types.heap.HeapType.{HeapType}
use Rattle.wasm_types.specs.declared.types.heap.HeapType.TheVariants.{Abstract, Concrete, Exact}
use Rattle.wasm_types.specs.declared.types.heap.RefType.{RefType}
use Rattle.wasm_types.specs.declared.types.value.ValType.{ValType}
use Rattle.wasm_types.specs.declared.types.value.ValType.TheVariants as values
use Rattle.wasm_types.specs.declared.types.value.StorageType.{StorageType}
use Rattle.wasm_types.specs.declared.types.value.StorageType.TheVariants as storages
use Rattle.wasm_types.specs.declared.types.composite.FieldType.{FieldType}
use Rattle.wasm_types.specs.declared.types.composite.CompositeInnerType.{CompositeInnerType}
use Rattle.wasm_types.specs.declared.types.composite.CompositeInnerType.TheVariants as inner
use Rattle.wasm_types.specs.declared.types.composite.CompositeType.{CompositeType}
use Rattle.wasm_types.specs.declared.types.recursive.SubType.{SubType}
use Rattle.wasm_types.specs.declared.types.recursive.TypeEntry.{TypeEntry}
use Rattle.wasm_types.specs.declared.types.recursive.TypeEntry.TheVariants as entries

-- All abstract heap types.
abbrev pub abstract_types : List AbstractHeapType
abstract_types =
    abstracts.NoCont ∷ abstracts.NoExn ∷ abstracts.NoFunc ∷ abstracts.NoExtern ∷ abstracts.None ∷ abstracts.Func ∷ abstracts.Extern
    ∷ abstracts.Any ∷ abstracts.Eq ∷ abstracts.I31 ∷ abstracts.Struct ∷ abstracts.Array ∷ abstracts.Exn ∷ abstracts.Cont ∷ []

abbrev pub abstract_parts : HeapType → Option (Bool × AbstractHeapType)
abstract_parts (Abstract shared ty) = Some (shared, ty)
abstract_parts h = None

abbrev pub concrete_part : HeapType → Option ℕ
concrete_part (Concrete n) = Some n
concrete_part h = None

abbrev pub exact_part : HeapType → Option ℕ
exact_part (Exact n) = Some n
exact_part h = None

abbrev pub nullable_part : RefType → Option HeapType
nullable_part r = elim r.nullable [ true ↦ Some r.heap_type | false ↦ None ]

abbrev pub has_short_form : RefType → Bool
has_short_form r = r.nullable && is_some (abstract_parts r.heap_type)

abbrev pub number_types : List ValType
number_types = values.I32 ∷ values.I64 ∷ values.F32 ∷ values.F64 ∷ values.V128 ∷ []

abbrev pub ref_part : ValType → Option RefType
ref_part (values.Ref r) = Some r
ref_part v = None

abbrev pub packed_types : List StorageType
packed_types = storages.I8 ∷ storages.I16 ∷ []

abbrev pub val_part : StorageType → Option ValType
val_part (storages.Val v) = Some v
val_part s = None

abbrev pub func_parts : CompositeInnerType → Option (List ValType × List ValType)
func_parts (inner.Func f) = Some (f.params, f.results)
func_parts c = None

abbrev pub struct_part : CompositeInnerType → Option (List FieldType)
struct_part (inner.Struct s) = Some s.fields
struct_part c = None

abbrev pub array_part : CompositeInnerType → Option FieldType
array_part (inner.Array a) = Some a.0
array_part c = None

abbrev pub cont_part : CompositeInnerType → Option ℕ
cont_part (inner.Cont c) = Some c.0
cont_part c = None

abbrev pub inner_byte : CompositeInnerType → ℕ
inner_byte (inner.Func f) = 0x60
inner_byte (inner.Struct s) = 0x5f
inner_byte (inner.Array a) = 0x5e
inner_byte (inner.Cont c) = 0x5d

-- The supertypes and the composite type of a subtype.
abbrev pub sub_parts : SubType → Option (List ℕ × CompositeType)
sub_parts s = Some (s.supertype_idxs, s.composite_type)

abbrev pub has_supertypes : List ℕ → Bool
has_supertypes [] = false
has_supertypes (x ∷ supertypes) = true

abbrev pub rec_part : TypeEntry → Option (List SubType)
rec_part (entries.Rec types) = Some types
rec_part (entries.Sub s) = None

abbrev pub sub_part : TypeEntry → Option SubType
sub_part (entries.Sub s) = Some s
sub_part (entries.Rec types) = None
