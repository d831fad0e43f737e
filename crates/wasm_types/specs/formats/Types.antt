-- Types in the binary format, each stated once, under the standard's production (WebAssembly Core 3.0, Types). The
-- additions of proposals follow it: shared types, exact types, continuations, descriptors.
use Rattle.std.specs.Prelude.{ℕ, Bool, true, false, not, ◌&&◌, List, [], ◌∷◌, Option, Some, None}
use Rattle.wasm_types.specs.declared.types.heap.AbstractHeapType.{AbstractHeapType}
use Rattle.wasm_types.specs.declared.types.heap.AbstractHeapType.TheVariants as abstracts
use Rattle.wasm_types.specs.declared.types.heap.HeapType.{HeapType}
use Rattle.wasm_types.specs.declared.types.heap.HeapType.TheVariants.{Abstract, Concrete, Exact}
use Rattle.wasm_types.specs.declared.types.heap.RefType.{RefType}
use Rattle.wasm_types.specs.declared.types.value.ValType.{ValType}
use Rattle.wasm_types.specs.declared.types.value.ValType.TheVariants as values
use Rattle.wasm_types.specs.declared.types.value.StorageType.{StorageType}
use Rattle.wasm_types.specs.declared.types.value.StorageType.TheVariants as storages
use Rattle.wasm_types.specs.declared.types.composite.FieldType.{FieldType}
use Rattle.wasm_types.specs.declared.types.composite.CompositeInnerType.{CompositeInnerType}
use Rattle.wasm_types.specs.declared.types.composite.CompositeInnerType.TheVariants as inner
use Rattle.wasm_types.specs.declared.types.composite.CompositeType.{CompositeType}
use Rattle.wasm_types.specs.declared.types.recursive.SubType.{SubType}
use Rattle.wasm_types.specs.declared.types.recursive.TypeEntry.{TypeEntry}
use Rattle.wasm_types.specs.declared.types.recursive.TypeEntry.TheVariants as entries
use Rattle.wasm_codec.specs.formats.Grammar.{Grammar}
use Rattle.wasm_codec.specs.Lists.{IsListPrefix, ListMinimalIf, IsListPrefixMinimalIf}
use Rattle.wasm_codec.specs.formats.Combinators.{Format, ◌⊗◌, made, any_of, or_else, no_other, after, after_long, tagged, variant, variant_after, flagged, optional, one_byte, byte_or, u32, index, items}
use Rattle.wasm_types.specs.TypeParts.{abstract_types, abstract_parts, concrete_part, exact_part, nullable_part, has_short_form, number_types, ref_part, packed_types, val_part, func_parts, struct_part, array_part, cont_part, inner_byte, sub_parts, has_supertypes, rec_part, sub_part}

-- ---- heap types

-- The byte of an abstract heap type.
-- absheaptype ::= 0x69 ⇒ exn | 0x6A ⇒ array | 0x6B ⇒ struct | 0x6C ⇒ i31 | 0x6D ⇒ eq | 0x6E ⇒ any | 0x6F ⇒ extern
--              |  0x70 ⇒ func | 0x71 ⇒ none | 0x72 ⇒ noextern | 0x73 ⇒ nofunc | 0x74 ⇒ noexn
-- by a proposal: 0x68 ⇒ cont | 0x75 ⇒ nocont
abbrev pub abstract_byte : AbstractHeapType → Option ℕ
abstract_byte abstracts.NoCont = Some 0x75
abstract_byte abstracts.NoExn = Some 0x74
abstract_byte abstracts.NoFunc = Some 0x73
abstract_byte abstracts.NoExtern = Some 0x72
abstract_byte abstracts.None = Some 0x71
abstract_byte abstracts.Func = Some 0x70
abstract_byte abstracts.Extern = Some 0x6f
abstract_byte abstracts.Any = Some 0x6e
abstract_byte abstracts.Eq = Some 0x6d
abstract_byte abstracts.I31 = Some 0x6c
abstract_byte abstracts.Struct = Some 0x6b
abstract_byte abstracts.Array = Some 0x6a
abstract_byte abstracts.Exn = Some 0x69
abstract_byte abstracts.Cont = Some 0x68

-- An abstract heap type.
unfoldable pub abstract_type : Format AbstractHeapType
abstract_type = one_byte abstract_byte abstract_types

abbrev pub abstract_of : Bool × AbstractHeapType → HeapType
abstract_of p = Abstract p.0 p.1

-- A heap type.
-- heaptype ::= ht:absheaptype ⇒ ht | x:s33 ⇒ x (if x is not negative)
-- by proposals: 0x65 ht:absheaptype ⇒ shared ht | 0x62 x:u32 ⇒ exact x
unfoldable pub heap_type : Format HeapType
heap_type = any_of
    (variant Concrete concrete_part index
    (variant_after 0x62 Exact exact_part u32
    (or_else (made abstract_of abstract_parts (flagged 0x65 abstract_type)))))

-- ---- reference types

-- The reference type of this nullability and heap type.
abbrev pub reference : Bool → HeapType → RefType
reference nullable heap_type = record { nullable = nullable; heap_type = heap_type }

-- The short form of a reference type: a nullable abstract one.
abbrev pub short_form : Format RefType
short_form = made (λ p. reference true (abstract_of p)) (λ r. abstract_parts r.heap_type) (flagged 0x65 abstract_type)

-- A reference type.
-- reftype ::= 0x63 ht:heaptype ⇒ ref null ht | 0x64 ht:heaptype ⇒ ref ht | ht:absheaptype ⇒ ref null ht
-- The first is a long form of what the last encodes.
unfoldable pub ref_type : Format RefType
ref_type = any_of
    (after_long (λ r. r.nullable && not (has_short_form r)) 0x63 (made (reference true) nullable_part heap_type)
    (after (λ r. not r.nullable) 0x64 (made (reference false) (λ r. Some r.heap_type) heap_type)
    (or_else short_form)))

-- ---- value types

-- The byte of a number type or a vector type.
-- numtype ::= 0x7C ⇒ f64 | 0x7D ⇒ f32 | 0x7E ⇒ i64 | 0x7F ⇒ i32
-- vectype ::= 0x7B ⇒ v128
abbrev pub number_byte : ValType → Option ℕ
number_byte values.I32 = Some 0x7f
number_byte values.I64 = Some 0x7e
number_byte values.F32 = Some 0x7d
number_byte values.F64 = Some 0x7c
number_byte values.V128 = Some 0x7b
number_byte (values.Ref r) = None

-- A value type.
-- valtype ::= nt:numtype ⇒ nt | vt:vectype ⇒ vt | rt:reftype ⇒ rt
unfoldable pub val_type : Format ValType
val_type = any_of (byte_or number_byte number_types (or_else (made values.Ref ref_part ref_type)))

-- ---- composite types

-- A list of value types.
-- resulttype ::= t*:list(valtype) ⇒ t*
unfoldable pub result_type : Format (List ValType)
result_type = items val_type

-- The byte of a packed type.
-- packtype ::= 0x77 ⇒ i16 | 0x78 ⇒ i8
abbrev pub packed_byte : StorageType → Option ℕ
packed_byte storages.I8 = Some 0x78
packed_byte storages.I16 = Some 0x77
packed_byte (storages.Val v) = None

-- A storage type.
-- storagetype ::= t:valtype ⇒ t | pt:packtype ⇒ pt
unfoldable pub storage_type : Format StorageType
storage_type = any_of (byte_or packed_byte packed_types (or_else (made storages.Val val_part val_type)))

-- The byte of a mutability.
-- mut ::= 0x00 ⇒ ε | 0x01 ⇒ mut
abbrev pub mutability_byte : Bool → Option ℕ
mutability_byte false = Some 0x00
mutability_byte true = Some 0x01

-- A mutability.
unfoldable pub mutability : Format Bool
mutability = one_byte mutability_byte (false ∷ true ∷ [])

abbrev pub field_of : StorageType × Bool → FieldType
field_of p = record { element_type = p.0; mutable = p.1 }

-- A field type.
-- fieldtype ::= zt:storagetype mut?:mut ⇒ mut? zt
unfoldable pub field_type : Format FieldType
field_type = made field_of (λ f. Some (f.element_type, f.mutable)) (storage_type ⊗ mutability)

abbrev pub func_of : List ValType × List ValType → CompositeInnerType
func_of p = inner.Func (record { params = p.0; results = p.1 })

abbrev pub struct_of : List FieldType → CompositeInnerType
struct_of fields = inner.Struct (record { fields = fields })

abbrev pub array_of : FieldType → CompositeInnerType
array_of field = inner.Array (record { 0 = field })

abbrev pub cont_of : ℕ → CompositeInnerType
cont_of index = inner.Cont (record { 0 = index })

-- A function, structure, array or continuation type.
-- comptype ::= 0x5E ft:fieldtype ⇒ array ft | 0x5F ft*:list(fieldtype) ⇒ struct ft*
--           |  0x60 t1*:resulttype t2*:resulttype ⇒ func t1* → t2*
-- by a proposal: 0x5D x:s33 ⇒ cont x (if x is not negative)
unfoldable pub inner_type : Format CompositeInnerType
inner_type = any_of
    (tagged inner_byte 0x60 (made func_of func_parts (result_type ⊗ result_type))
    (tagged inner_byte 0x5f (made struct_of struct_part (items field_type))
    (tagged inner_byte 0x5e (made array_of array_part field_type)
    (tagged inner_byte 0x5d (made cont_of cont_part index)
    no_other))))

abbrev pub composite_of : Bool × (Option ℕ × (Option ℕ × CompositeInnerType)) → CompositeType
composite_of p = record { inner = p.1.1.1; shared = p.0; descriptor = p.1.1.0; describes = p.1.0 }

-- A composite type.
-- By proposals, 0x65 comes before a comptype that is shared, 0x4C x:u32 before one that describes x, and 0x4D x:u32
-- before one that x describes.
unfoldable pub composite_type : Format CompositeType
composite_type = made composite_of (λ c. Some (c.shared, (c.describes, (c.descriptor, c.inner)))) (flagged 0x65 (optional 0x4c u32 (optional 0x4d u32 inner_type)))

-- ---- recursive types

-- The subtype of this finality, with these supertypes and this composite type.
abbrev pub sub_of : Bool → List ℕ × CompositeType → SubType
sub_of is_final p = record { is_final = is_final; supertype_idxs = p.0; composite_type = p.1 }

-- A subtype.
-- subtype ::= 0x4F x*:list(typeidx) ct:comptype ⇒ sub final x* ct | 0x50 x*:list(typeidx) ct:comptype ⇒ sub x* ct
--          |  ct:comptype ⇒ sub final ε ct
-- Without supertypes the first is a long form of the last.
unfoldable pub sub_type : Format SubType
sub_type = any_of
    (after (λ s. not s.is_final) 0x50 (made (sub_of false) sub_parts (items u32 ⊗ composite_type))
    (after_long (λ s. has_supertypes s.supertype_idxs) 0x4f (made (sub_of true) sub_parts (items u32 ⊗ composite_type))
    (or_else (made (λ c. sub_of true ([], c)) (λ s. Some s.composite_type) composite_type))))

-- An entry of a type section: a group of subtypes, or one subtype.
-- rectype ::= 0x4E st*:list(subtype) ⇒ rec st* | st:subtype ⇒ rec st
-- Here a group of one type and that type alone are different values.
unfoldable pub recursive_type : Format TypeEntry
recursive_type = any_of (variant_after 0x4e entries.Rec rec_part (items sub_type) (or_else (made entries.Sub sub_part sub_type)))

-- The body of a type section: a count, then as many entries.
-- typesec ::= ty*:section_1(list(rectype)) ⇒ ty*, without the id and the size of the section
unfoldable pub type_body : Format (List TypeEntry)
type_body = items recursive_type

-- The prefix is empty, or it is a count and at most as many type entries.
abbrev pub IsTypeBodyPrefix : List ℕ → Type 0
IsTypeBodyPrefix = IsListPrefix recursive_type.Encodes

-- The bytes encode these type entries, with the count and each entry minimally encoded.
abbrev pub MinimalTypeBody : Grammar (List TypeEntry)
MinimalTypeBody = ListMinimalIf true recursive_type

-- The prefix is empty, or it is a count and at most as many type entries, all minimally encoded.
abbrev pub IsMinimalTypeBodyPrefix : List ℕ → Type 0
IsMinimalTypeBodyPrefix = IsListPrefixMinimalIf true recursive_type
