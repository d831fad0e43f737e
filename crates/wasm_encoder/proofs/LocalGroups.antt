-- Locals in groups of equal types that follow each other.
use Rattle.std.proofs.Common.{◌≡◌, ℕ, zero, suc, ◌+◌, ◌<◌, ◌≤◌, ◌⊎◌, inl, inr, List, [], ◌∷◌, ◌++◌, length, get_or, take, replicate, Option, Some, Result, Ok, Err, refl, sym, ap, subst, ◌∙◌, append_assoc, length-append, arith}
use Rattle.std.specs.Prelude.{IsErrAnd, SomeIff}
use Rattle.std.specs.List.{All, Any}
use Rattle.std.proofs.lemmas.Grind.{flat_map-append}
use Rattle.std.proofs.lemmas.List.{append-nil, take_more}
use Rattle.wasm_types.specs.declared.types.value.ValType.{ValType}
use Rattle.wasm_types.specs.declared.types.value.ValType.TheVariants.{I32}
use Rattle.wasm_types.specs.formats.Types.{val_type}
use Rattle.wasm_codec.specs.declared.encode.EncodeError.{EncodeError}
use Rattle.wasm_codec.specs.Encoding.{CanEncodeList, IsListRefusal, IsMinimal}
use Rattle.wasm_codec.specs.formats.Combinators.{items}
use Rattle.wasm_codec.specs.formats.Numbers.{EncodesU32}
use Rattle.wasm_codec.specs.Leb128.{unsigned_leb128}
use Rattle.wasm_codec.specs.Lists.{items_bytes}
use Rattle.wasm_code.specs.formats.CodeBodies.{local_group}
use Rattle.wasm_code.proofs.CodeBodyWriting.{locals_in_range}
use Rattle.wasm_encoder.specs.EncodedLists.{IsMemoryOrTooLong, IsUncounted}
use Rattle.wasm_encoder.specs.CodeSections.{AreApart, AreGroups, MakesLocals, StartsOtherwise, spread}

one_longer : (n : ℕ) (t : ValType) → replicate (suc n) t ≡ replicate n t ++ t ∷ []
one_longer zero t = refl
one_longer (suc n) t = ap (λ (l : List ValType). t ∷ l) (one_longer n t)

spread_last : (groups : List (ℕ × ValType)) (n : ℕ) (t : ValType) → spread (groups ++ (n, t) ∷ []) ≡ spread groups ++ replicate n t
spread_last groups n t = flat_map-append (λ g. replicate g.0 g.1) groups ((n, t) ∷ []) ∙ ap (λ (l : List ValType). spread groups ++ l) (append-nil (replicate n t))

-- ---- one type more

apart_longer : (groups : List (ℕ × ValType)) (n : ℕ) (t : ValType) → AreApart (groups ++ (n, t) ∷ []) → AreApart (groups ++ (n + 1, t) ∷ [])
apart_longer [] n t h = (omega arith, (tt, tt))
apart_longer (g ∷ groups) n t h = (h.0, (starts groups h.1.0, apart_longer groups n t h.1.1)) where
  starts : (groups : List (ℕ × ValType)) → StartsOtherwise g.1 (groups ++ (n, t) ∷ []) → StartsOtherwise g.1 (groups ++ (n + 1, t) ∷ [])
  starts [] other = other
  starts (x ∷ more) other = other

apart_further : (groups : List (ℕ × ValType)) (n : ℕ) (t u : ValType) → (t ≡ u → ⊥) → AreApart (groups ++ (n, t) ∷ []) → AreApart ((groups ++ (n, t) ∷ []) ++ (1, u) ∷ [])
apart_further [] n t u differ h = (h.0, (differ, (omega arith, (tt, tt))))
apart_further (g ∷ groups) n t u differ h = (h.0, (starts groups h.1.0, apart_further groups n t u differ h.1.1)) where
  starts : (groups : List (ℕ × ValType)) → StartsOtherwise g.1 (groups ++ (n, t) ∷ []) → StartsOtherwise g.1 ((groups ++ (n, t) ∷ []) ++ (1, u) ∷ [])
  starts [] other = other
  starts (x ∷ more) other = other

-- the last group gets one local more
longer : (groups : List (ℕ × ValType)) (n : ℕ) (t : ValType) (types : List ValType) → AreGroups (groups ++ (n, t) ∷ []) types → AreGroups (groups ++ (n + 1, t) ∷ []) (types ++ t ∷ [])
longer groups n t types h =
    let k : n + 1 ≡ suc n = omega arith in
    record {
      spread = spread_last groups (n + 1) t ∙ ap (λ (m : ℕ). spread groups ++ replicate m t) k ∙ ap (λ (l : List ValType). spread groups ++ l) (one_longer n t) ∙ sym (append_assoc (spread groups) (replicate n t) (t ∷ []))
          ∙ ap (λ (l : List ValType). l ++ t ∷ []) (sym (spread_last groups n t) ∙ h.spread);
      apart = apart_longer groups n t h.apart;
    }

-- another group follows
further : (groups : List (ℕ × ValType)) (n : ℕ) (t u : ValType) (types : List ValType) → (t ≡ u → ⊥) → AreGroups (groups ++ (n, t) ∷ []) types → AreGroups ((groups ++ (n, t) ∷ []) ++ (1, u) ∷ []) (types ++ u ∷ [])
further groups n t u types differ h = record {
  spread = spread_last (groups ++ (n, t) ∷ []) 1 u ∙ ap (λ (l : List ValType). l ++ u ∷ []) h.spread;
  apart = apart_further groups n t u differ h.apart;
}

-- the number that a checked sum holds
pub sum_is : (P : Type 0) (o : Option ℕ) (x y : ℕ) → o ≡ Some x → SomeIff o P y → x ≡ y
sum_is P o x y e h = (subst (λ (t : Option ℕ). SomeIff t P y) e h).1

-- the loop over the types after the first: the next type is that of the last group, or another
module _ (kept : List (ℕ × ValType)) (n i : ℕ) (t first : ValType) (others : List ValType) (lt : i < length others) (so_far : AreGroups (kept ++ (n, t) ∷ []) (first ∷ take i others)) where
  pub longer_at : (new : List (ℕ × ValType)) (m : ℕ) (u : ValType) → new ≡ kept → m ≡ n + 1 → u ≡ t → get_or others i I32 ≡ t → AreGroups (new ++ (m, u) ∷ []) (first ∷ take (i + 1) others)
  longer_at new m u same count last next =
      let all : first ∷ take (i + 1) others ≡ (first ∷ take i others) ++ t ∷ [] = ap (λ (l : List ValType). first ∷ l) (take_more others i I32 lt ∙ ap (λ (v : ValType). take i others ++ v ∷ []) next) in
      rw (same, count, last, all) (longer kept n t (first ∷ take i others) so_far)

  pub further_at : (new : List (ℕ × ValType)) (m : ℕ) (u : ValType) → new ≡ kept ++ (n, t) ∷ [] → m ≡ 1 → u ≡ get_or others i I32 → (get_or others i I32 ≡ t → ⊥) → AreGroups (new ++ (m, u) ∷ []) (first ∷ take (i + 1) others)
  further_at new m u same count last differ =
      let all : first ∷ take (i + 1) others ≡ (first ∷ take i others) ++ get_or others i I32 ∷ [] = ap (λ (l : List ValType). first ∷ l) (take_more others i I32 lt) in
      rw (same, count, last, all) (further kept n t (get_or others i I32) (first ∷ take i others) (λ e. differ (sym e)) so_far)

-- ---- how many groups there are

length_of : (n : ℕ) (t : ValType) → length (replicate n t) ≡ n
length_of zero t = refl
length_of (suc n) t = ap (λ (k : ℕ). suc k) (length_of n t)

no_more : (groups : List (ℕ × ValType)) → AreApart groups → length groups ≤ length (spread groups)
no_more [] h = omega arith
no_more (g ∷ groups) h =
    let rest = no_more groups h.1.1 in
    let all : length (replicate g.0 g.1 ++ spread groups) ≡ g.0 + length (spread groups) = length-append (replicate g.0 g.1) (spread groups) ∙ ap (λ (k : ℕ). k + length (spread groups)) (length_of g.0 g.1) in
    let some = h.0 in
    omega (arith, rest, all, some)

-- ---- the function that is made

pub locals_made : (none function : List ℕ) (groups kept : List (ℕ × ValType)) (types : List ValType) → none ≡ [] → groups ≡ kept → AreGroups kept types → function ≡ none ++ items_bytes local_group.bytes groups
    → CanEncodeList (λ (p : ℕ × ValType). Unit {0} × Unit {0}) groups → All (λ (p : ℕ × ValType). IsMinimal EncodesU32 unsigned_leb128 p.0 × IsMinimal val_type.Encodes val_type.bytes p.1) groups → MakesLocals types (Ok function)
locals_made none function groups kept types empty same are is can written = record {
  made = (
    groups,
    (
      subst (λ (l : List (ℕ × ValType)). AreGroups l types) (sym same) are,
      record {
        bytes = is ∙ ap (λ (t : List ℕ). t ++ (items local_group).bytes groups) empty ∙ sym (append-nil ((items local_group).bytes groups));
        locals = can.0;
        calls = tt;
        locals_in_range = locals_in_range groups written;
        calls_in_range = tt;
      },
    ),
  );
  refused = tt;
}

-- no group is refused by itself
none_refused : (groups : List (ℕ × ValType)) → Any (λ (p : ℕ × ValType). ((Unit {0} × Unit {0}) → ⊥) × (⊥ ⊎ ⊥)) groups → ⊥
none_refused groups (k, p, lt, at, (cannot, either)) = cannot (tt, tt)

pub locals_not_made : (groups kept : List (ℕ × ValType)) (types : List ValType) (e : EncodeError) → groups ≡ kept → AreGroups kept types → IsListRefusal (λ (p : ℕ × ValType). Unit {0} × Unit {0}) (λ p e. ⊥ ⊎ ⊥) groups e → MakesLocals types (Err e)
locals_not_made groups kept types e same are refused = record { made = tt; refused = why refused } where
  why : IsListRefusal (λ (p : ℕ × ValType). Unit {0} × Unit {0}) (λ p e. ⊥ ⊎ ⊥) groups e → IsMemoryOrTooLong (IsUncounted (length types)) e
  why (inl memory) = inl memory
  why (inr (inl (is, long))) =
      let few = no_more kept are.apart in
      let count : length groups ≡ length kept = ap length same in
      let all : length (spread kept) ≡ length types = ap length are.spread in
      inr (is, omega (arith, few, count, all, long))
  why (inr (inr some)) = absurd (none_refused groups some)

-- a call returns the error of another
pub handed_on : (types : List ValType) (r : Result (List ℕ) EncodeError) (e : EncodeError) → IsErrAnd r (λ x. x ≡ e) → MakesLocals types (Err e) → MakesLocals types r
handed_on types (Ok x) e is made = absurd is
handed_on types (Err x) e is made = subst (λ (y : EncodeError). MakesLocals types (Err y)) (sym is) made
