-- Lists of value types of one byte each.
use Rattle.std.proofs.Common.{◌≡◌, ℕ, ◌≤◌, Bool, true, false, cond, ltb, List, [], ◌∷◌, ◌++◌, length, take, drop, Some, None, refl, sym, subst, arith}
use Rattle.std.proofs.lemmas.List.{take-append-drop, length-take}
use Rattle.std.proofs.lemmas.Bool.{ltb-false}
use Rattle.wasm_codec.specs.Places.{Place, place, byte_at, u32_at, times_at}
use Rattle.wasm_codec.specs.formats.Bodies.{body_at}
use Rattle.wasm_codec.proofs.Laws.{bind_some, some_is}
use Rattle.wasm_types.specs.declared.types.value.ValType.{ValType}
use Rattle.wasm_types.specs.formats.Types.{val_type, result_type, func_of, inner_type, composite_of, composite_type, sub_of, sub_type}

-- the byte alone is this value type
abbrev pub IsType : ℕ → ValType → Type 0
IsType b ty = (s : Bool) (more : List ℕ) → val_type.at (place s (b ∷ more)) ≡ Some (ty, place s more)

-- each byte is the value type at its index
abbrev pub AreTypes : List ℕ → List ValType → Type 0
AreTypes [] [] = Unit {0}
AreTypes [] (ty ∷ types) = ⊥
AreTypes (b ∷ bytes) [] = ⊥
AreTypes (b ∷ bytes) (ty ∷ types) = IsType b ty × AreTypes bytes types

pub one_more : (bytes : List ℕ) (types : List ValType) (b : ℕ) (ty : ValType) → AreTypes bytes types → IsType b ty → AreTypes (bytes ++ b ∷ []) (types ++ ty ∷ [])
one_more [] [] b ty all is = (is, tt)
one_more [] (u ∷ types) b ty all is = absurd all
one_more (a ∷ bytes) [] b ty all is = absurd all
one_more (a ∷ bytes) (u ∷ types) b ty all is = (all.0, one_more bytes types b ty all.1 is)

types_read : (bytes : List ℕ) (types : List ValType) (s : Bool) (more : List ℕ) → AreTypes bytes types → times_at val_type.at (length bytes) (place s (bytes ++ more)) ≡ Some (types, place s more)
unfolding times_at
types_read [] [] s more all = refl
types_read [] (ty ∷ types) s more all = absurd all
types_read (b ∷ bytes) [] s more all = absurd all
types_read (b ∷ bytes) (ty ∷ types) s more all = rw (all.0 s (bytes ++ more), types_read bytes types s more all.1) refl

behind_count : (p mid : Place) (n : ℕ) (types : List ValType) → u32_at p ≡ Some (n, mid) → n ≤ length mid.left → AreTypes (take n mid.left) types → result_type.at p ≡ Some (types, place mid.minimal (drop n mid.left))
unfolding result_type
behind_count p mid n types e le all =
    let len : length (take n mid.left) ≡ n = omega (arith, length-take n mid.left) in
    let t = types_read (take n mid.left) types mid.minimal (drop n mid.left) all in
    let u : times_at val_type.at n mid ≡ Some (types, place mid.minimal (drop n mid.left)) = rw (len, take-append-drop n mid.left) at t in
    rw (e, u) refl

guard_none : {A : Type 0} (test : Bool) (x y : A) → cond test None (Some x) ≡ Some y → (test ≡ false) × (x ≡ y)
guard_none true x y e = absurd cc
guard_none false x y e = (refl, some_is x y e)

pub list_read : (p q : Place) (bytes : List ℕ) (types : List ValType) → body_at p ≡ Some (bytes, q) → AreTypes bytes types → result_type.at p ≡ Some (types, q)
list_read p q bytes types e all =
    let s = bind_some (u32_at p) (λ size. cond (ltb (length size.1.left) size.0) None (Some (take size.0 size.1.left, place size.1.minimal (drop size.0 size.1.left)))) (bytes, q) e in
    let g = guard_none (ltb (length s.0.1.left) s.0.0) (take s.0.0 s.0.1.left, place s.0.1.minimal (drop s.0.0 s.0.1.left)) (bytes, q) s.2 in
    let same : (take s.0.0 s.0.1.left, place s.0.1.minimal (drop s.0.0 s.0.1.left)) ≡ (bytes, q) = g.1 in
    let all_taken : AreTypes (take s.0.0 s.0.1.left) types = subst (λ (x : List ℕ × Place). AreTypes x.0 types) (sym same) all in
    subst (λ (x : List ℕ × Place). result_type.at p ≡ Some (types, x.1)) same (behind_count p s.0.1 s.0.0 types s.1 (ltb-false _ _ g.0) all_taken)

pub function_read : (p first middle q : Place) (params results : List ValType) → byte_at p ≡ Some (0x60, first) → result_type.at first ≡ Some (params, middle) → result_type.at middle ≡ Some (results, q) → sub_type.at p ≡ Some (sub_of true ([], composite_of (false, (None, (None, func_of (params, results))))), q)
unfolding sub_type composite_type inner_type
function_read p first middle q params results e f g = rw (e, f, g) refl
