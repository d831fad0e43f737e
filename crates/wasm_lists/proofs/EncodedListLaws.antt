-- The laws of lists that are being encoded value by value.
use Rattle.std.proofs.Common.{◌≡◌, ℕ, suc, ◌+◌, ◌^◌, ◌⊎◌, inl, inr, List, [], ◌∷◌, ◌++◌, length, length-append, refl, sym, ap, ◌∙◌, subst, arith}
use Rattle.std.specs.List.{All, AllByRecursion, Any, flat_map}
use Rattle.std.proofs.lemmas.Bool.{cases_lt}
use Rattle.wasm_codec.specs.declared.encode.EncodeError.{EncodeError}
use Rattle.std.proofs.lemmas.Grind.{flat_map-append}
use Rattle.std.proofs.lemmas.List.{append-nil}
use Rattle.std.proofs.lemmas.List.Elements.{All-nil, All-cons, All-append}
use Rattle.wasm_codec.specs.Encoding.{IsCount, IsMinimal, OnlyTooLong}
use Rattle.wasm_codec.specs.Lawful.{IsLawful}
use Rattle.wasm_codec.specs.formats.Combinators.{Format, items}
use Rattle.wasm_lists.proofs.WrittenLists.{in_range_of}
use Rattle.wasm_lists.specs.EncodedLists.{EncodedItems, StandsForAll, GainsOne, GainsEach, IsFull, IsMemoryOrTooLong, IsRefusalOfOne, IsRefusalOfEach, IsUncounted, body_bytes}

pub stands_none : {V : Type 0} (F : Format V) (Can : V → Type 0) (list : EncodedItems) → list.count ≡ 0 → list.bytes ≡ [] → StandsForAll F Can list []
stands_none F Can list count bytes = record { count = count; bytes = bytes; can = All-nil Can; in_range = All-nil F.InRange }

-- some values more
pub stands_more : {V : Type 0} (F : Format V) (Can : V → Type 0) (old new : EncodedItems) (before more : List V) → StandsForAll F Can old before → new.count ≡ old.count + length more → new.bytes ≡ old.bytes ++ flat_map F.bytes more → All Can more → All F.InRange more → StandsForAll F Can new (before ++ more)
stands_more F Can old new before more s count bytes can fits = record {
  count = omega (arith, length-append before more, s.count, count);
  bytes = bytes ∙ ap (λ (t : List ℕ). t ++ flat_map F.bytes more) s.bytes ∙ sym (flat_map-append F.bytes before more);
  can = All-append Can before more s.can can;
  in_range = All-append F.InRange before more s.in_range fits;
}

pub gains_each : {V : Type 0} (F : Format V) (Can : V → Type 0) (old new : EncodedItems) (more : List V) → new.count ≡ old.count + length more → new.bytes ≡ old.bytes ++ flat_map F.bytes more → All Can more → All F.InRange more → GainsEach F Can old more new
gains_each F Can old new more count bytes can fits = record { count = count; bytes = bytes; can = can; in_range = fits; stands = λ before s. stands_more F Can old new before more s count bytes can fits }

-- one value more
pub stands_one_more : {V : Type 0} (F : Format V) (Can : V → Type 0) (old new : EncodedItems) (before : List V) (value : V) → StandsForAll F Can old before → new.count ≡ old.count + 1 → new.bytes ≡ old.bytes ++ F.bytes value → Can value → F.InRange value → StandsForAll F Can new (before ++ value ∷ [])
stands_one_more F Can old new before value s count bytes can fits =
    stands_more F Can old new before (value ∷ []) s count (bytes ∙ ap (λ (t : List ℕ). old.bytes ++ t) (sym (append-nil (F.bytes value)))) (All-cons Can value [] can (All-nil Can)) (All-cons F.InRange value [] fits (All-nil F.InRange))

pub gains_one : {V : Type 0} (F : Format V) (Can : V → Type 0) (old new : EncodedItems) (value : V) → new.count ≡ old.count + 1 → new.bytes ≡ old.bytes ++ F.bytes value → Can value → F.InRange value → GainsOne F Can old value new
gains_one F Can old new value count bytes can fits = record { count = count; bytes = bytes; can = can; in_range = fits; stands = λ before s. stands_one_more F Can old new before value s count bytes can fits }

-- the body is the list of the values
pub body_is : {V : Type 0} (F : Format V) (Can : V → Type 0) (list : EncodedItems) (values : List V) → StandsForAll F Can list values → body_bytes list ≡ (items F).bytes values
body_is F Can list values s = rw (s.count, s.bytes) refl

by_recursion : {A : Type 0} (P : A → Type 0) (xs : List A) → All P xs → AllByRecursion P xs
by_recursion P [] h = tt
by_recursion P (x ∷ xs) h = (h 0 x (omega arith), by_recursion P xs (λ k d lt. h (suc k) d (omega (arith, lt))))

-- the list of the values is in range, as a u32 counts them
pub values_in_range : {V : Type 0} (F : Format V) (Can : V → Type 0) (list : EncodedItems) (values : List V) → IsCount list.count → StandsForAll F Can list values → (items F).InRange values
values_in_range F Can list values few s = (subst IsCount s.count few, by_recursion F.InRange values s.in_range)

-- values whose bytes were written as their minimal encodings are in range
pub all_in_range : {V : Type 0} (F : Format V) → IsLawful F → (values : List V) → All (IsMinimal F.Encodes F.bytes) values → All F.InRange values
all_in_range F law values h = λ k d lt. in_range_of F law _ (h k d lt)

-- ---- why a value isn't added: it can be written, or a part of it is too long

pub which : {A B : Type 0} → A ⊎ B → (A → ⊥) → B
which (inl a) cannot = absurd (cannot a)
which (inr b) cannot = b

pub both_or : {A B C D : Type 0} → A ⊎ C → B ⊎ D → (A × B) ⊎ (C ⊎ D)
both_or (inl a) (inl b) = inl (a, b)
both_or (inl a) (inr d) = inr (inr d)
both_or (inr c) second = inr (inl c)

pub counted_or : (n : ℕ) → IsCount n ⊎ IsUncounted n
counted_or n = cases_lt n (2 ^ 32)

pub of_one : {T Not : Type 0} (Can : T → Type 0) (old : EncodedItems) (value : T) (e : EncodeError) → Can value ⊎ Not → IsRefusalOfOne Can OnlyTooLong old value e → IsMemoryOrTooLong (IsFull old ⊎ Not) e
of_one Can old value e decided (inl (inl memory)) = inl memory
of_one Can old value e decided (inl (inr (is, full))) = inr (is, inl full)
of_one Can old value e decided (inr (cannot, is)) = inr (is, inr (which decided cannot))

pub of_each : {T : Type 0} (Can Not : T → Type 0) (old : EncodedItems) (values : List T) (e : EncodeError) → ((x : T) → Can x ⊎ Not x) → IsRefusalOfEach Can OnlyTooLong old values e → IsMemoryOrTooLong (IsUncounted (old.count + length values) ⊎ Any Not values) e
of_each Can Not old values e decide (inl (inl memory)) = inl memory
of_each Can Not old values e decide (inl (inr (is, long))) = inr (is, inl long)
of_each Can Not old values e decide (inr (k, x, lt, at, (cannot, is))) = inr (is, inr (k, x, lt, at, which (decide x) cannot))
