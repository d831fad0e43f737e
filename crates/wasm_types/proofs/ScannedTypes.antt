-- Function types that are seen at once to be in their minimal encodings.
use Rattle.std.proofs.Common.{◌≡◌, ◌⊎◌, ℕ, zero, suc, ◌+◌, ◌-◌, ◌<◌, ◌≤◌, true, false, List, [], ◌∷◌, ◌++◌, length, get_or, take, drop, drop-drop, length-drop, Some, None, refl, sym, subst, inl, inr, arith}
use Rattle.std.specs.List.{AllByRecursion}
use Rattle.std.proofs.lemmas.List.{take_more}
use Rattle.std.proofs.lemmas.Bool.{cases_lt}
use Rattle.wasm_codec.specs.Places.{place, byte_at, times_at}
use Rattle.wasm_codec.specs.Scanning.{Scans}
use Rattle.wasm_codec.specs.declared.rewriter.scan.Scanned.TheVariants.{Minimal}
use Rattle.wasm_codec.proofs.NumberReading.{u32_one}
use Rattle.wasm_types.specs.declared.types.heap.AbstractHeapType.{AbstractHeapType}
use Rattle.wasm_types.specs.declared.types.heap.AbstractHeapType.TheVariants as abstracts
use Rattle.wasm_types.specs.declared.types.heap.HeapType.TheVariants.{Abstract}
use Rattle.wasm_types.specs.declared.types.value.ValType.{ValType}
use Rattle.wasm_types.specs.declared.types.value.ValType.TheVariants as values
use Rattle.wasm_types.specs.declared.types.recursive.TypeEntry.TheVariants as entries
use Rattle.wasm_types.specs.formats.Types.{abstract_type, reference, ref_type, val_type, result_type, func_of, inner_type, composite_of, composite_type, sub_of, sub_type, recursive_type}

-- ---- bytes that are a value type each

abbrev pub IsWhole : ℕ → Type 0
IsWhole b = (more : List ℕ) → Scans val_type (b ∷ more) (Some (Minimal 1))

-- it holds of each number from one up to another
abbrev pub Between : (ℕ → Type 0) → ℕ → ℕ → Type 0
Between P low high = (b : ℕ) → low ≤ b → b < high → P b

pub none_between : (P : ℕ → Type 0) (n : ℕ) → Between P n n
none_between P n b le lt = absurd (omega (arith, le, lt))

pub one_more : (P : ℕ → Type 0) (low n : ℕ) → P n → Between P low n → Between P low (n + 1)
one_more P low n holds before b le lt = elim (cases_lt b n) [
  | inl less ↦ before b le less
  | inr high ↦
      let same : n ≡ b = omega (arith, high, lt) in
      subst P same holds
]

abbrev nullable : AbstractHeapType → ValType
nullable ty = values.Ref (reference true (Abstract false ty))

abstract_whole : Between IsWhole 0x68 0x76
unfolding val_type ref_type abstract_type byte_at
abstract_whole =
    one_more IsWhole 0x68 0x75 (λ more. (omega arith, (nullable abstracts.NoCont, refl)))
    (one_more IsWhole 0x68 0x74 (λ more. (omega arith, (nullable abstracts.NoExn, refl)))
    (one_more IsWhole 0x68 0x73 (λ more. (omega arith, (nullable abstracts.NoFunc, refl)))
    (one_more IsWhole 0x68 0x72 (λ more. (omega arith, (nullable abstracts.NoExtern, refl)))
    (one_more IsWhole 0x68 0x71 (λ more. (omega arith, (nullable abstracts.None, refl)))
    (one_more IsWhole 0x68 0x70 (λ more. (omega arith, (nullable abstracts.Func, refl)))
    (one_more IsWhole 0x68 0x6f (λ more. (omega arith, (nullable abstracts.Extern, refl)))
    (one_more IsWhole 0x68 0x6e (λ more. (omega arith, (nullable abstracts.Any, refl)))
    (one_more IsWhole 0x68 0x6d (λ more. (omega arith, (nullable abstracts.Eq, refl)))
    (one_more IsWhole 0x68 0x6c (λ more. (omega arith, (nullable abstracts.I31, refl)))
    (one_more IsWhole 0x68 0x6b (λ more. (omega arith, (nullable abstracts.Struct, refl)))
    (one_more IsWhole 0x68 0x6a (λ more. (omega arith, (nullable abstracts.Array, refl)))
    (one_more IsWhole 0x68 0x69 (λ more. (omega arith, (nullable abstracts.Exn, refl)))
    (one_more IsWhole 0x68 0x68 (λ more. (omega arith, (nullable abstracts.Cont, refl)))
    (none_between IsWhole 0x68))))))))))))))

number_whole : Between IsWhole 0x7b 0x80
unfolding val_type byte_at
number_whole =
    one_more IsWhole 0x7b 0x7f (λ more. (omega arith, (values.I32, refl)))
    (one_more IsWhole 0x7b 0x7e (λ more. (omega arith, (values.I64, refl)))
    (one_more IsWhole 0x7b 0x7d (λ more. (omega arith, (values.F32, refl)))
    (one_more IsWhole 0x7b 0x7c (λ more. (omega arith, (values.F64, refl)))
    (one_more IsWhole 0x7b 0x7b (λ more. (omega arith, (values.V128, refl)))
    (none_between IsWhole 0x7b)))))

pub is_whole : (b : ℕ) → 0x68 ≤ b → b < 0x80 → (b < 0x76) ⊎ (0x7b ≤ b) → IsWhole b
is_whole b le lt (inl low) = abstract_whole b le low
is_whole b le lt (inr high) = number_whole b high lt

-- ---- lists of them

abbrev pub AreWhole : List ℕ → Type 0
AreWhole = AllByRecursion IsWhole

whole_also : (types : List ℕ) (b : ℕ) → AreWhole types → IsWhole b → AreWhole (types ++ b ∷ [])
whole_also [] b all whole = (whole, tt)
whole_also (a ∷ types) b all whole = (all.0, whole_also types b all.1 whole)

pub whole_taken : (bytes : List ℕ) (i : ℕ) → 1 + i < length bytes → AreWhole (take i (drop 1 bytes)) → IsWhole (get_or bytes (1 + i) 0) → AreWhole (take (i + 1) (drop 1 bytes))
whole_taken [] i within all whole = absurd (omega (arith, within))
whole_taken (n ∷ bytes) i within all whole =
    let next : 1 + i ≡ suc i = omega arith in
    rw (take_more bytes i 0 (omega (arith, within))) (whole_also (take i bytes) (get_or bytes i 0) all (rw next at whole))

types_read : (count : ℕ) (bytes : List ℕ) → count ≤ length bytes → AreWhole (take count bytes) → (vs : List ValType) × (times_at val_type.at count (place true bytes) ≡ Some (vs, place true (drop count bytes)))
unfolding times_at
types_read zero bytes within all = ([], refl)
types_read (suc count) [] within all = absurd (omega (arith, within))
types_read (suc count) (b ∷ bytes) within all =
    let v = (all.0 bytes).1 in
    let vs = types_read count bytes (omega (arith, within)) all.1 in
    (v.0 ∷ vs.0, rw (v.1, vs.1) refl)

behind_count : (count : ℕ) (bytes : List ℕ) → count < 128 → count ≤ length bytes → AreWhole (take count bytes) → Scans result_type (count ∷ bytes) (Some (Minimal (1 + count)))
unfolding result_type
behind_count count bytes lt within all =
    let next : 1 + count ≡ suc count = omega arith in
    let t = types_read count bytes within all in
    (omega (arith, within), (t.0, rw (next, u32_one (place true (count ∷ bytes)) (place true bytes) count lt refl, t.1) refl))

pub result_scanned : (bytes : List ℕ) (count : ℕ) → 0 < length bytes → get_or bytes 0 0 ≡ count → count < 128 → count ≤ length bytes - 1 → AreWhole (take count (drop 1 bytes)) → Scans result_type bytes (Some (Minimal (1 + count)))
result_scanned [] count some is lt within all = absurd (omega (arith, some))
result_scanned (first ∷ bytes) count some is lt within all =
    subst (λ (n : ℕ). Scans result_type (n ∷ bytes) (Some (Minimal (1 + count)))) (sym is) (behind_count count bytes lt (omega (arith, within)) all)

-- ---- function types

behind_function : (bytes : List ℕ) (params results : ℕ) → Scans result_type bytes (Some (Minimal params)) → Scans result_type (drop params bytes) (Some (Minimal results)) → Scans recursive_type (0x60 ∷ bytes) (Some (Minimal (1 + params + results)))
unfolding recursive_type sub_type composite_type inner_type byte_at
behind_function bytes params results p r =
    let all : 1 + params + results ≡ suc (params + results) = omega arith in
    let left : drop results (drop params bytes) ≡ drop (params + results) bytes = drop-drop results params bytes in (
      omega (arith, p.0, r.0, length-drop params bytes),
      (
        entries.Sub (sub_of true ([], composite_of (false, (None, (None, func_of (p.1.0, r.1.0)))))),
        rw (p.1.1, r.1.1, all, left) refl,
      ),
    )

pub function_scanned : (bytes : List ℕ) (params results : ℕ) → 0 < length bytes → get_or bytes 0 0 ≡ 0x60 → Scans result_type (drop 1 bytes) (Some (Minimal params)) → Scans result_type (drop (1 + params) bytes) (Some (Minimal results)) → Scans recursive_type bytes (Some (Minimal (1 + params + results)))
function_scanned [] params results some is p r = absurd (omega (arith, some))
function_scanned (first ∷ bytes) params results some is p r =
    let next : 1 + params ≡ suc params = omega arith in
    subst (λ (b : ℕ). Scans recursive_type (b ∷ bytes) (Some (Minimal (1 + params + results)))) (sym is) (behind_function bytes params results p (rw next at r))
