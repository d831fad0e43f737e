-- Value types that `==` takes for equal are equal.
use Rattle.std.proofs.Common.{◌≡◌, Bool, true, false, refl, ap}
use Rattle.std.proofs.lemmas.Bool.{eqb-true}
use Rattle.wasm_types.specs.declared.types.value.ValType.{ValType}
use Rattle.wasm_types.specs.declared.types.value.ValType.TheVariants.{I32, I64, F32, F64, V128, Ref}
use Rattle.wasm_types.specs.declared.types.heap.RefType.{RefType}
use Rattle.wasm_types.specs.declared.types.heap.HeapType.{HeapType}
use Rattle.wasm_types.specs.declared.types.heap.HeapType.TheVariants.{Abstract, Concrete, Exact}
use Rattle.wasm_types.specs.declared.types.heap.AbstractHeapType.{AbstractHeapType}
use Rattle.wasm_types.specs.declared.types.heap.AbstractHeapType.TheVariants as heaps
use Rattle.wasm_types.specs.contracts.types.value.ValTypePartialEq.TheImpl as values
use Rattle.wasm_types.specs.contracts.types.heap.RefTypePartialEq.TheImpl as references
use Rattle.wasm_types.specs.contracts.types.heap.HeapTypePartialEq.TheImpl as heap_types
use Rattle.wasm_types.specs.contracts.types.heap.AbstractHeapTypePartialEq.TheImpl as abstract_types

abstract_same : (a b : AbstractHeapType) → abstract_types.ghosts.eq a b ≡ true → a ≡ b
abstract_same heaps.Func heaps.Func e = refl
abstract_same heaps.Extern heaps.Extern e = refl
abstract_same heaps.Any heaps.Any e = refl
abstract_same heaps.None heaps.None e = refl
abstract_same heaps.NoExtern heaps.NoExtern e = refl
abstract_same heaps.NoFunc heaps.NoFunc e = refl
abstract_same heaps.Eq heaps.Eq e = refl
abstract_same heaps.Struct heaps.Struct e = refl
abstract_same heaps.Array heaps.Array e = refl
abstract_same heaps.I31 heaps.I31 e = refl
abstract_same heaps.Exn heaps.Exn e = refl
abstract_same heaps.NoExn heaps.NoExn e = refl
abstract_same heaps.Cont heaps.Cont e = refl
abstract_same heaps.NoCont heaps.NoCont e = refl
abstract_same a b e = absurd cc

heap_same : (a b : HeapType) → heap_types.ghosts.eq a b ≡ true → a ≡ b
heap_same (Abstract true t) (Abstract true v) e = ap (Abstract true) (abstract_same t v e)
heap_same (Abstract false t) (Abstract false v) e = ap (Abstract false) (abstract_same t v e)
heap_same (Concrete m) (Concrete n) e = ap Concrete (eqb-true m n e)
heap_same (Exact m) (Exact n) e = ap Exact (eqb-true m n e)
heap_same a b e = absurd cc

abbrev reference_of : Bool → HeapType → RefType
reference_of nullable t = record { nullable = nullable; heap_type = t }

reference_same : (a b : RefType) → references.ghosts.eq a b ≡ true → a ≡ b
reference_same a b e = by a.nullable b.nullable a.heap_type b.heap_type e where
  by : (m n : Bool) (s t : HeapType) → references.ghosts.eq (reference_of m s) (reference_of n t) ≡ true → reference_of m s ≡ reference_of n t
  by true true s t e = ap (reference_of true) (heap_same s t e)
  by false false s t e = ap (reference_of false) (heap_same s t e)
  by m n s t e = absurd cc

pub type_same : (a b : ValType) → values.ghosts.eq a b ≡ true → a ≡ b
type_same I32 I32 e = refl
type_same I64 I64 e = refl
type_same F32 F32 e = refl
type_same F64 F64 e = refl
type_same V128 V128 e = refl
type_same (Ref a) (Ref b) e = ap Ref (reference_same a b e)
type_same a b e = absurd cc
