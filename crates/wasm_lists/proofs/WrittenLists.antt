-- Values that are written, and lists that are written item by item.
use Rattle.std.proofs.Common.{◌≡◌, ℕ, ◌^◌, ◌<◌, List, [], ◌∷◌, ◌++◌, length, Option, ap, ◌∙◌, append_assoc, subst, inl, inr, arith, ◌⊎◌}
use Rattle.std.specs.Iterator.{Yields}
use Rattle.std.proofs.lemmas.List.{flat_map_more}
use Rattle.std.proofs.lemmas.List.Quantifiers.{Any-push}
use Rattle.std.specs.List.{flat_map}
use Rattle.wasm_codec.specs.declared.encode.EncodeError.{EncodeError}
use Rattle.wasm_codec.specs.declared.encode.EncodeError.TheVariants.{Memory}
use Rattle.wasm_codec.specs.Encoding.{Refuses, OnlyTooLong, IsRefusal, IsListRefusal, CanEncodeList, IsMinimal}
use Rattle.wasm_codec.specs.Lawful.{IsLawful}
use Rattle.wasm_codec.specs.formats.Combinators.{Format}
use Rattle.wasm_lists.specs.Iterators.{IsRefusalOfGiven}

-- a value that was written is in range
pub in_range_of : {V : Type 0} (F : Format V) → IsLawful F → (v : V) → IsMinimal F.Encodes F.bytes v → F.InRange v
in_range_of F law v h = law.in_range (F.bytes v) v h.encodes

-- an item that the iterator gave is refused
pub item_refused : {S A : Type 0} (Can : A → Type 0) (refuses : A → EncodeError → Type 0) (gives : S → Option A → S → Type 0) (s t : S) (xs : List A) (x : A) (e : EncodeError) → Yields gives s (xs ++ x ∷ []) t → IsRefusal Can refuses x e → (e ≡ Memory) ⊎ IsRefusalOfGiven Can refuses gives s e
item_refused Can refuses gives s t xs x e given (inl memory) = inl memory
item_refused Can refuses gives s t xs x e given (inr refused) = inr (xs ++ x ∷ [], t, given, Any-push (λ y. Refuses Can refuses y e) xs x refused)

-- a list that is refused for its number or for an item can't be written
pub list_refused : {T : Type 0} (Can : T → Type 0) (xs : List T) (e : EncodeError) → IsListRefusal Can OnlyTooLong xs e → IsRefusal (CanEncodeList Can) OnlyTooLong xs e
list_refused Can xs e (inl memory) = inl memory
list_refused Can xs e (inr (inl (is, long))) = inr (λ can. let few : length xs < 2 ^ 32 = can.0 in omega (arith, few, long), is)
list_refused Can xs e (inr (inr (k, x, lt, at, (cannot, is)))) = inr (λ can. cannot (subst Can at (can.1 k x lt)), is)

-- one item more was written
pub one_more : {T : Type 0} (encoding : T → List ℕ) (old count : List ℕ) (before : List T) (item : T) (mid new : List ℕ) → mid ≡ old ++ (count ++ flat_map encoding before) → new ≡ mid ++ encoding item → new ≡ old ++ (count ++ flat_map encoding (before ++ item ∷ []))
one_more encoding old count before item mid new m n =
    n ∙ ap (λ (t : List ℕ). t ++ encoding item) m ∙ append_assoc old (count ++ flat_map encoding before) (encoding item) ∙ ap (λ (t : List ℕ). old ++ t) (flat_map_more encoding count before item)
