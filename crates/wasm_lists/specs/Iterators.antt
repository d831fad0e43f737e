-- The lists that are written from iterators.
use Rattle.std.specs.Prelude.{◌≡◌, ℕ, ◌⊎◌, ◌++◌, List, Option, length}
use Rattle.std.specs.List.{All, Any, flat_map}
use Rattle.std.specs.Iterator.{Count, size, Drains, Yields}
use Rattle.wasm_codec.specs.declared.encode.EncodeError.{EncodeError}
use Rattle.wasm_codec.specs.declared.encode.EncodeError.TheVariants.{Memory}
use Rattle.wasm_codec.specs.Lists.{items_bytes}
use Rattle.wasm_codec.specs.Encoding.{IsTooLong, Refuses, CanEncodeList}

-- This holds of an iterator that is made of the value.
abbrev pub OfIterator : {V S : Type 0} → (V → S → Type 0) → V → (S → Type 0) → Type 0
OfIterator {V} {S} makes value P = (items : S) × makes value items × P items

module _ {S A : Type 0} (encoding : A → List ℕ) (Can IsWritten : A → Type 0) (gives : S → Option A → S → Type 0) where
  -- The call appends the list that the iterator gives: its count, then each item.
  abbrev pub AppendsItems : S → List ℕ → List ℕ → Type 0
  AppendsItems s old new = (xs : List A) × Drains gives s xs × (new ≡ old ++ items_bytes encoding xs) × CanEncodeList Can xs × All IsWritten xs

  -- The call appends each item that the iterator gives, and returns their number.
  abbrev pub AppendsJoined : S → List ℕ → List ℕ → ℕ → Type 0
  AppendsJoined s old new count = (xs : List A) × Drains gives s xs × (new ≡ old ++ flat_map encoding xs) × (count ≡ length xs) × All Can xs × All IsWritten xs

module _ {S A : Type 0} (Can : A → Type 0) (refuses : A → EncodeError → Type 0) (gives : S → Option A → S → Type 0) where
  -- An item that the iterator gave can't be written, and this is the error for it.
  abbrev pub IsRefusalOfGiven : S → EncodeError → Type 0
  IsRefusalOfGiven s e = (xs : List A) × (t : S) × Yields gives s xs t × Any (λ x. Refuses Can refuses x e) xs

  -- Memory ran out, there are too many items, or an item that the iterator gave can't be written.
  abbrev pub IsItemsRefusal : (S → Count) → S → EncodeError → Type 0
  IsItemsRefusal left s e = (e ≡ Memory) ⊎ (IsTooLong (size (left s)) e ⊎ IsRefusalOfGiven s e)
