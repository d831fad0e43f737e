-- Heap types and value types that are seen at once to be in their minimal encodings.
use Rattle.std.proofs.Common.{◌≡◌, ◌⊎◌, ℕ, suc, ◌+◌, ◌-◌, ◌*◌, ◌%◌, ◌/◌, ◌^◌, ◌<◌, ◌≤◌, Bool, true, false, List, [], ◌∷◌, length, get_or, drop, Option, Some, None, IfSome, refl, sym, subst, ◌∙◌, inl, inr, arith}
use Rattle.std.proofs.lemmas.Bool.{lt-ltb, le-ltb, le-leb, cases_lt}
use Rattle.wasm_codec.specs.Places.{Place, place, byte_at, index_at}
use Rattle.wasm_codec.specs.Leb128.{digits_at, digits_of, signed_leb128}
use Rattle.wasm_codec.specs.Scanning.{Scans}
use Rattle.wasm_codec.specs.declared.rewriter.scan.Scanned.TheVariants.{Minimal}
use Rattle.wasm_codec.specs.formats.Combinators.{begins_index, index}
use Rattle.wasm_codec.proofs.NumberReading.{index_low, index_high}
use Rattle.wasm_types.specs.declared.types.heap.AbstractHeapType.TheVariants as abstracts
use Rattle.wasm_types.specs.declared.types.heap.HeapType.TheVariants.{Abstract, Concrete}
use Rattle.wasm_types.specs.declared.types.value.ValType.TheVariants as values
use Rattle.wasm_types.specs.formats.Types.{abstract_type, heap_type, reference, ref_type, val_type}
use Rattle.wasm_types.proofs.ScannedTypes.{Between, none_between, one_more}

-- ---- type indexes

two_digits : (most a b : ℕ) (more : List ℕ) → 128 ≤ a → b < 128 → digits_at (suc (suc most)) (a ∷ b ∷ more) ≡ Some (a ∷ b ∷ [], more)
unfolding digits_at
two_digits most a b more le lt = rw (le-ltb a 128 le, lt-ltb b 128 lt) refl

two_written : (turn : Bool) (top n : ℕ) → top ≤ n → n / 128 < top → length (digits_of turn top 9 n) ≡ 2
unfolding digits_of
two_written turn top n le lt = rw (le-ltb n top le, lt-ltb (n / 128) top lt) refl

index_two : (a b : ℕ) (more : List ℕ) → 128 ≤ a → a < 256 → b < 64 → (192 ≤ a) ⊎ (0 < b) → index_at (place true (a ∷ b ∷ more)) ≡ Some (a - 128 + 128 * b, place true more)
unfolding index_at signed_leb128
index_two a b more from to low fewest =
    let n = a - 128 + 128 * b in
    let value : a % 128 + 128 * (b % 128 + 128 * 0) ≡ n = omega (arith, from, to, low) in
    let two : length (digits_of false 64 9 n) ≡ 2 = two_written false 64 n (some fewest) (omega (arith, to, low)) in
    rw (two_digits 3 a b more from (omega (arith, low)), lt-ltb b 64 low, value, lt-ltb n (2 ^ 32) (omega (arith, to, low)), two) refl
  where
    some : (192 ≤ a) ⊎ (0 < b) → 64 ≤ a - 128 + 128 * b
    some (inl high) = omega (arith, high)
    some (inr more) = omega (arith, more)

pub index_one_scanned : (bytes : List ℕ) → 0 < length bytes → get_or bytes 0 0 < 64 → Scans index bytes (Some (Minimal 1))
index_one_scanned [] some lt = absurd (omega (arith, some))
index_one_scanned (b ∷ bytes) some lt = (omega arith, (b, index_low (place true (b ∷ bytes)) (place true bytes) b lt refl))

pub index_two_scanned : (bytes : List ℕ) → 1 < length bytes → 128 ≤ get_or bytes 0 0 → get_or bytes 0 0 < 256 → get_or bytes 1 0 < 64 → (192 ≤ get_or bytes 0 0) ⊎ (0 < get_or bytes 1 0) → Scans index bytes (Some (Minimal 2))
index_two_scanned [] some from to low fewest = absurd (omega (arith, some))
index_two_scanned (a ∷ []) some from to low fewest = absurd (omega (arith, some))
index_two_scanned (a ∷ b ∷ bytes) some from to low fewest = (omega arith, (a - 128 + 128 * b, index_two a b bytes from to low fewest))

-- the first byte of a type index isn't that of a type
pub begins : (b : ℕ) (bytes : List ℕ) (v : ℕ) (p : Place) → index_at (place true (b ∷ bytes)) ≡ Some (v, p) → begins_index (Some b) ≡ true
begins b bytes v p e = elim (cases_lt b 64) [
  | inl low ↦ rw (lt-ltb b 64 low) refl
  | inr high ↦ elim (cases_lt b 128) [
    | inl middle ↦ let none = sym e ∙ index_high (place true (b ∷ bytes)) (place true bytes) b high middle refl in absurd cc
    | inr more ↦ rw (le-ltb b 64 high, le-leb 128 b more) refl
  ]
]

pub no_index : (v : ℕ) (p : Place) → index_at (place true []) ≡ Some (v, p) → ⊥
unfolding index_at digits_at
no_index v p e = absurd cc

-- ---- heap types of one byte

abbrev IsHeap : ℕ → Type 0
IsHeap b = (more : List ℕ) → Scans heap_type (b ∷ more) (Some (Minimal 1))

abstract_heap : Between IsHeap 0x68 0x76
unfolding heap_type abstract_type byte_at
abstract_heap =
    one_more IsHeap 0x68 0x75 (λ more. (omega arith, (Abstract false abstracts.NoCont, refl)))
    (one_more IsHeap 0x68 0x74 (λ more. (omega arith, (Abstract false abstracts.NoExn, refl)))
    (one_more IsHeap 0x68 0x73 (λ more. (omega arith, (Abstract false abstracts.NoFunc, refl)))
    (one_more IsHeap 0x68 0x72 (λ more. (omega arith, (Abstract false abstracts.NoExtern, refl)))
    (one_more IsHeap 0x68 0x71 (λ more. (omega arith, (Abstract false abstracts.None, refl)))
    (one_more IsHeap 0x68 0x70 (λ more. (omega arith, (Abstract false abstracts.Func, refl)))
    (one_more IsHeap 0x68 0x6f (λ more. (omega arith, (Abstract false abstracts.Extern, refl)))
    (one_more IsHeap 0x68 0x6e (λ more. (omega arith, (Abstract false abstracts.Any, refl)))
    (one_more IsHeap 0x68 0x6d (λ more. (omega arith, (Abstract false abstracts.Eq, refl)))
    (one_more IsHeap 0x68 0x6c (λ more. (omega arith, (Abstract false abstracts.I31, refl)))
    (one_more IsHeap 0x68 0x6b (λ more. (omega arith, (Abstract false abstracts.Struct, refl)))
    (one_more IsHeap 0x68 0x6a (λ more. (omega arith, (Abstract false abstracts.Array, refl)))
    (one_more IsHeap 0x68 0x69 (λ more. (omega arith, (Abstract false abstracts.Exn, refl)))
    (one_more IsHeap 0x68 0x68 (λ more. (omega arith, (Abstract false abstracts.Cont, refl)))
    (none_between IsHeap 0x68))))))))))))))

pub one_heap : (bytes : List ℕ) → 0 < length bytes → 0x68 ≤ get_or bytes 0 0 → get_or bytes 0 0 < 0x76 → Scans heap_type bytes (Some (Minimal 1))
one_heap [] some le lt = absurd (omega (arith, some))
one_heap (b ∷ bytes) some le lt = abstract_heap b le lt bytes

-- ---- types with a type index

concrete_heap : (bytes : List ℕ) (n : ℕ) → Scans index bytes (Some (Minimal n)) → Scans heap_type bytes (Some (Minimal n))
unfolding heap_type byte_at
concrete_heap [] n r = absurd (no_index r.1.0 (place true (drop n [])) r.1.1)
concrete_heap (b ∷ bytes) n r = (r.0, (Concrete r.1.0, rw (begins b bytes r.1.0 (place true (drop n (b ∷ bytes))) r.1.1, r.1.1) refl))

pub concrete_found : (bytes : List ℕ) (r : Option ℕ) → IfSome r (λ n. Scans index bytes (Some (Minimal n))) → IfSome r (λ n. Scans heap_type bytes (Some (Minimal n)))
concrete_found bytes None h = tt
concrete_found bytes (Some n) h = concrete_heap bytes n h

behind_null : (bytes : List ℕ) (n : ℕ) → Scans index bytes (Some (Minimal n)) → Scans val_type (0x63 ∷ bytes) (Some (Minimal (1 + n)))
unfolding val_type ref_type heap_type byte_at
behind_null [] n r = absurd (no_index r.1.0 (place true (drop n [])) r.1.1)
behind_null (b ∷ bytes) n r =
    let all : 1 + n ≡ suc n = omega arith in
    (omega (arith, r.0), (values.Ref (reference true (Concrete r.1.0)), rw (all, begins b bytes r.1.0 (place true (drop n (b ∷ bytes))) r.1.1, r.1.1) refl))

behind_bare : (bytes : List ℕ) (n : ℕ) → Scans heap_type bytes (Some (Minimal n)) → Scans val_type (0x64 ∷ bytes) (Some (Minimal (1 + n)))
unfolding val_type ref_type byte_at
behind_bare bytes n r =
    let all : 1 + n ≡ suc n = omega arith in
    (omega (arith, r.0), (values.Ref (reference false r.1.0), rw (all, r.1.1) refl))

pub nullable_scanned : (bytes : List ℕ) (n : ℕ) → 0 < length bytes → get_or bytes 0 0 ≡ 0x63 → Scans index (drop 1 bytes) (Some (Minimal n)) → Scans val_type bytes (Some (Minimal (1 + n)))
nullable_scanned [] n some first r = absurd (omega (arith, some))
nullable_scanned (a ∷ bytes) n some first r = subst (λ (k : ℕ). Scans val_type (k ∷ bytes) (Some (Minimal (1 + n)))) (sym first) (behind_null bytes n r)

pub bare_scanned : (bytes : List ℕ) (n : ℕ) → 0 < length bytes → get_or bytes 0 0 ≡ 0x64 → Scans heap_type (drop 1 bytes) (Some (Minimal n)) → Scans val_type bytes (Some (Minimal (1 + n)))
bare_scanned [] n some first r = absurd (omega (arith, some))
bare_scanned (a ∷ bytes) n some first r = subst (λ (k : ℕ). Scans val_type (k ∷ bytes) (Some (Minimal (1 + n)))) (sym first) (behind_bare bytes n r)

pub whole_scanned : (bytes : List ℕ) → 0 < length bytes → ((more : List ℕ) → Scans val_type (get_or bytes 0 0 ∷ more) (Some (Minimal 1))) → Scans val_type bytes (Some (Minimal 1))
whole_scanned [] some whole = absurd (omega (arith, some))
whole_scanned (b ∷ bytes) some whole = whole bytes
