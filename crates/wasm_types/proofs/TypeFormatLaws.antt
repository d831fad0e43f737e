-- The laws of the formats of types: a line for each alternative.
use Rattle.std.proofs.Common.{◌≡◌, ℕ, ◌≤◌, Bool, true, false, not, ◌&&◌, List, [], ◌∷◌, ◌++◌, length, length-append, ◌↔◌, Some, refl, subst, lit≤, arith}
use Rattle.wasm_types.specs.declared.types.heap.AbstractHeapType.{AbstractHeapType}
use Rattle.wasm_types.specs.declared.types.heap.AbstractHeapType.TheVariants as abstracts
use Rattle.wasm_types.specs.declared.types.heap.HeapType.{HeapType}
use Rattle.wasm_types.specs.declared.types.heap.HeapType.TheVariants.{Abstract, Concrete, Exact}
use Rattle.wasm_types.specs.declared.types.heap.RefType.{RefType}
use Rattle.wasm_types.specs.declared.types.value.ValType.{ValType}
use Rattle.wasm_types.specs.declared.types.value.ValType.TheVariants as values
use Rattle.wasm_types.specs.declared.types.value.StorageType.{StorageType}
use Rattle.wasm_types.specs.declared.types.value.StorageType.TheVariants as storages
use Rattle.wasm_types.specs.declared.types.composite.CompositeType.{CompositeType}
use Rattle.wasm_types.specs.declared.types.recursive.SubType.{SubType}
use Rattle.wasm_types.specs.declared.types.recursive.TypeEntry.{TypeEntry}
use Rattle.wasm_types.specs.declared.types.recursive.TypeEntry.TheVariants as entries
use Rattle.wasm_codec.specs.formats.Grammar.{Mapped}
use Rattle.wasm_codec.specs.formats.Grammar.{TakesBytes}
use Rattle.wasm_codec.specs.formats.Combinators.{Choice, ◌⊗◌, made, or_else, after, flagged, u32, items}
use Rattle.wasm_codec.proofs.FormatLaws.{IsFound, Every-made, Every-after, Every-either, Lawful-or-after, Lawful-or-after-long, Lawful-or-else, Lawful-variant-after, Lawful-made, Lawful-both, Lawful-variant, Lawful-flagged, Lawful-optional, Lawful-one-byte, Lawful-byte-or, Lawful-u32, Lawful-index, Lawful-items, Tagged-or, Tagged-never, takes_bytes, not_longer}
use Rattle.wasm_codec.proofs.MinimalIfLaws.{list_minimal_only}
use Rattle.wasm_types.specs.formats.Types.{abstract_byte, abstract_type, abstract_of, heap_type, reference, short_form, ref_type, number_byte, val_type, result_type, packed_byte, storage_type, mutability_byte, mutability, field_of, field_type, func_of, struct_of, array_of, cont_of, inner_type, composite_of, composite_type, sub_of, sub_type, recursive_type, type_body, MinimalTypeBody}
use Rattle.wasm_types.specs.TypeParts.{abstract_types, abstract_parts, concrete_part, exact_part, nullable_part, has_short_form, number_types, ref_part, packed_types, val_part, func_parts, struct_part, array_part, cont_part, inner_byte, sub_parts, has_supertypes, rec_part, sub_part}
use Rattle.wasm_codec.specs.Lawful.{IsLawful}

-- ---- heap types

abstract_found : (ty : AbstractHeapType) → IsFound abstract_byte abstract_types ty
abstract_found abstracts.NoCont = (refl, refl)
abstract_found abstracts.NoExn = (refl, refl)
abstract_found abstracts.NoFunc = (refl, refl)
abstract_found abstracts.NoExtern = (refl, refl)
abstract_found abstracts.None = (refl, refl)
abstract_found abstracts.Func = (refl, refl)
abstract_found abstracts.Extern = (refl, refl)
abstract_found abstracts.Any = (refl, refl)
abstract_found abstracts.Eq = (refl, refl)
abstract_found abstracts.I31 = (refl, refl)
abstract_found abstracts.Struct = (refl, refl)
abstract_found abstracts.Array = (refl, refl)
abstract_found abstracts.Exn = (refl, refl)
abstract_found abstracts.Cont = (refl, refl)

pub Lawful-abstract-type : IsLawful abstract_type
unfolding abstract_type
Lawful-abstract-type = Lawful-one-byte abstract_byte abstract_types abstract_found

Lawful-shared : IsLawful (flagged 0x65 abstract_type)
unfolding abstract_type
Lawful-shared = Lawful-flagged 0x65 (lit≤ tt) refl refl Lawful-abstract-type

pub Lawful-heap-type : IsLawful heap_type
unfolding heap_type abstract_type
Lawful-heap-type =
    (Lawful-variant Concrete concrete_part (λ n. refl) refl (Every-either (Every-after (Every-made (λ n. refl))) (Every-made (λ p. refl))) Lawful-index
    (Lawful-variant-after 0x62 Exact exact_part (λ n. refl) (lit≤ tt) refl (Every-made (λ p. refl)) Lawful-u32
    (Lawful-or-else refl (Lawful-made abstract_of abstract_parts (λ p. refl) Lawful-shared)))).lawful

-- ---- reference types

abbrev others : Choice RefType
others = after (λ r. not r.nullable) 0x64 (made (reference false) (λ r. Some r.heap_type) heap_type) (or_else short_form)

-- a nullable abstract one has a shorter form
nullable_loses : (back : List ℕ) (h : HeapType) → heap_type.Encodes back h → not (has_short_form (reference true h)) ≡ false → others.InRange (reference true h) × (length (others.bytes (reference true h)) ≤ length back)
unfolding heap_type
nullable_loses back (Abstract shared ty) g e = (((Lawful-heap-type.in_range back (Abstract shared ty) g).0, refl), not_longer back _ (Lawful-heap-type.minimal.least back (Abstract shared ty) g))
nullable_loses back (Concrete n) g e = absurd cc
nullable_loses back (Exact n) g e = absurd cc

long_loses : (bytes : List ℕ) (r : RefType) → Mapped (reference true) heap_type.Encodes bytes r → r.nullable && not (has_short_form r) ≡ false → others.InRange r × (length (others.bytes r) ≤ length bytes)
long_loses bytes r g = subst (λ (r : RefType). r.nullable && not (has_short_form r) ≡ false → others.InRange r × (length (others.bytes r) ≤ length bytes)) g.2 (λ e. nullable_loses bytes g.0 g.1 e)

pub Lawful-ref-type : IsLawful ref_type
unfolding ref_type abstract_type
Lawful-ref-type =
    (Lawful-or-after-long (λ r. r.nullable && not (has_short_form r)) 0x63 (lit≤ tt) refl long_loses (Every-either (Every-after (Every-made (λ h. refl))) (Every-made (λ p. refl))) (Lawful-made (reference true) nullable_part (λ h. refl) Lawful-heap-type)
    (Lawful-or-after (λ r. not r.nullable) 0x64 (lit≤ tt) refl (Every-made (λ h. refl)) (Every-made (λ p. refl)) (Lawful-made (reference false) (λ r. Some r.heap_type) (λ h. refl) Lawful-heap-type)
    (Lawful-or-else refl (Lawful-made (λ p. reference true (abstract_of p)) (λ r. abstract_parts r.heap_type) (λ p. refl) Lawful-shared)))).lawful

-- ---- value types

number_found : (v : ValType) → IsFound number_byte number_types v
number_found values.I32 = (refl, refl)
number_found values.I64 = (refl, refl)
number_found values.F32 = (refl, refl)
number_found values.F64 = (refl, refl)
number_found values.V128 = (refl, refl)
number_found (values.Ref r) = tt

pub Lawful-val-type : IsLawful val_type
unfolding val_type ref_type abstract_type
Lawful-val-type = (Lawful-byte-or number_byte number_types number_found refl (Every-made (λ r. refl)) (Lawful-or-else refl (Lawful-made values.Ref ref_part (λ r. refl) Lawful-ref-type))).lawful

-- ---- composite types

pub Lawful-result-type : IsLawful result_type
unfolding result_type
Lawful-result-type = Lawful-items Lawful-val-type

packed_found : (s : StorageType) → IsFound packed_byte packed_types s
packed_found storages.I8 = (refl, refl)
packed_found storages.I16 = (refl, refl)
packed_found (storages.Val v) = tt

pub Lawful-storage-type : IsLawful storage_type
unfolding storage_type val_type ref_type abstract_type
Lawful-storage-type = (Lawful-byte-or packed_byte packed_types packed_found refl (Every-made (λ v. refl)) (Lawful-or-else refl (Lawful-made storages.Val val_part (λ v. refl) Lawful-val-type))).lawful

mutability_found : (m : Bool) → IsFound mutability_byte (false ∷ true ∷ []) m
mutability_found false = (refl, refl)
mutability_found true = (refl, refl)

pub Lawful-mutability : IsLawful mutability
unfolding mutability
Lawful-mutability = Lawful-one-byte mutability_byte (false ∷ true ∷ []) mutability_found

pub Lawful-field-type : IsLawful field_type
unfolding field_type
Lawful-field-type = Lawful-made field_of (λ f. Some (f.element_type, f.mutable)) (λ p. refl) (Lawful-both Lawful-storage-type Lawful-mutability)

pub Lawful-inner-type : IsLawful inner_type
unfolding inner_type
Lawful-inner-type =
    (Tagged-or inner_byte 0x60 refl (lit≤ tt) (Every-made (λ p. refl)) (Lawful-made func_of func_parts (λ p. refl) (Lawful-both Lawful-result-type Lawful-result-type))
    (Tagged-or inner_byte 0x5f refl (lit≤ tt) (Every-made (λ fields. refl)) (Lawful-made struct_of struct_part (λ fields. refl) (Lawful-items Lawful-field-type))
    (Tagged-or inner_byte 0x5e refl (lit≤ tt) (Every-made (λ field. refl)) (Lawful-made array_of array_part (λ field. refl) Lawful-field-type)
    (Tagged-or inner_byte 0x5d refl (lit≤ tt) (Every-made (λ index. refl)) (Lawful-made cont_of cont_part (λ index. refl) Lawful-index)
    Tagged-never)))).choice.lawful

pub Lawful-composite-type : IsLawful composite_type
unfolding composite_type inner_type
Lawful-composite-type =
    Lawful-made composite_of (λ c. Some (c.shared, (c.describes, (c.descriptor, c.inner)))) (λ p. refl)
    (Lawful-flagged 0x65 (lit≤ tt) refl refl
    (Lawful-optional 0x4c (lit≤ tt) refl refl Lawful-u32
    (Lawful-optional 0x4d (lit≤ tt) refl refl Lawful-u32 Lawful-inner-type)))

-- ---- recursive types

abbrev without_supertypes : Choice SubType
without_supertypes = or_else (made (λ c. sub_of true ([], c)) (λ s. Some s.composite_type) composite_type)

Lawful-supertypes : IsLawful (items u32 ⊗ composite_type)
Lawful-supertypes = Lawful-both (Lawful-items Lawful-u32) Lawful-composite-type

-- without supertypes 0x4F and an empty list are left out
none_loses : (bytes : List ℕ) (supertypes : List ℕ) (c : CompositeType) → (items u32 ⊗ composite_type).Encodes bytes (supertypes, c) → has_supertypes supertypes ≡ false → without_supertypes.InRange (sub_of true (supertypes, c)) × (length (without_supertypes.bytes (sub_of true (supertypes, c))) ≤ length bytes)
none_loses bytes [] c g e =
    let whole : length ((items u32).bytes [] ++ composite_type.bytes c) ≤ length bytes = not_longer bytes _ (Lawful-supertypes.minimal.least bytes ([], c) g) in
    let less : length (composite_type.bytes c) ≤ length bytes = omega (arith, whole, length-append ((items u32).bytes []) (composite_type.bytes c)) in
    ((Lawful-composite-type.in_range g.1 c g.4, refl), less)
none_loses bytes (x ∷ supertypes) c g e = absurd cc

final_loses : (bytes : List ℕ) (s : SubType) → Mapped (sub_of true) (items u32 ⊗ composite_type).Encodes bytes s → has_supertypes s.supertype_idxs ≡ false → without_supertypes.InRange s × (length (without_supertypes.bytes s) ≤ length bytes)
final_loses bytes s g = subst (λ (s : SubType). has_supertypes s.supertype_idxs ≡ false → without_supertypes.InRange s × (length (without_supertypes.bytes s) ≤ length bytes)) g.2 (λ e. none_loses bytes g.0.0 g.0.1 g.1 e)

pub Lawful-sub-type : IsLawful sub_type
unfolding sub_type composite_type inner_type
Lawful-sub-type =
    (Lawful-or-after (λ s. not s.is_final) 0x50 (lit≤ tt) refl (Every-made (λ p. refl)) (Every-either (Every-after (Every-made (λ p. refl))) (Every-made (λ c. refl))) (Lawful-made (sub_of false) sub_parts (λ p. refl) Lawful-supertypes)
    (Lawful-or-after-long (λ s. has_supertypes s.supertype_idxs) 0x4f (lit≤ tt) refl final_loses (Every-made (λ c. refl)) (Lawful-made (sub_of true) sub_parts (λ p. refl) Lawful-supertypes)
    (Lawful-or-else refl (Lawful-made (λ c. sub_of true ([], c)) (λ s. Some s.composite_type) (λ c. refl) Lawful-composite-type)))).lawful

pub Lawful-recursive-type : IsLawful recursive_type
unfolding recursive_type sub_type composite_type inner_type
Lawful-recursive-type =
    (Lawful-variant-after 0x4e entries.Rec rec_part (λ types. refl) (lit≤ tt) refl (Every-made (λ s. refl)) (Lawful-items Lawful-sub-type)
    (Lawful-or-else refl (Lawful-made entries.Sub sub_part (λ s. refl) Lawful-sub-type))).lawful

pub Lawful-type-body : IsLawful type_body
unfolding type_body
Lawful-type-body = Lawful-items Lawful-recursive-type

-- the encodings by minimal ones alone are the minimal encodings
pub is_minimal_body : (bytes : List ℕ) (entries : List TypeEntry) → MinimalTypeBody bytes entries ↔ (type_body.Encodes bytes entries × (bytes ≡ type_body.bytes entries))
unfolding type_body
is_minimal_body = list_minimal_only Lawful-recursive-type

-- ---- no value is encoded by no bytes

pub val_type_takes : TakesBytes val_type.Encodes
unfolding val_type ref_type abstract_type
val_type_takes = takes_bytes Lawful-val-type refl

pub field_type_takes : TakesBytes field_type.Encodes
unfolding field_type storage_type val_type ref_type abstract_type
field_type_takes = takes_bytes Lawful-field-type refl

pub sub_type_takes : TakesBytes sub_type.Encodes
unfolding sub_type composite_type inner_type
sub_type_takes = takes_bytes Lawful-sub-type refl

pub recursive_type_takes : TakesBytes recursive_type.Encodes
unfolding recursive_type sub_type composite_type inner_type
recursive_type_takes = takes_bytes Lawful-recursive-type refl

-- the laws of types that are items of lists, for functions that name them
pub ruleset type_laws = (Lawful-val-type, val_type_takes, Lawful-field-type, field_type_takes, Lawful-sub-type, sub_type_takes, Lawful-recursive-type, recursive_type_takes)
