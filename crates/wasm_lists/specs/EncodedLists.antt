-- Lists that are encoded value by value, such as sections: their number and their bytes, the values that they stand
-- for, and the reasons why a value isn't added (WebAssembly Core 3.0, Lists).
use Rattle.std.specs.Prelude.{◌≡◌, ℕ, ◌+◌, ◌^◌, ◌≤◌, ◌⊎◌, List, [], ◌∷◌, ◌++◌, length, Option}
use Rattle.std.specs.List.{All, Any, flat_map}
use Rattle.std.specs.Iterator.{Drains, Yields}
use Rattle.wasm_codec.specs.declared.encode.EncodeError.{EncodeError}
use Rattle.wasm_codec.specs.declared.encode.EncodeError.TheVariants.{Memory, TooLong}
use Rattle.wasm_codec.specs.Encoding.{IsCount, Refuses}
use Rattle.wasm_codec.specs.Leb128.{unsigned_leb128}
use Rattle.wasm_codec.specs.formats.Combinators.{Format}

-- The number of values, and their bytes.
pub record EncodedItems : Type 0 where
  pub count : ℕ
  pub bytes : List ℕ

-- The body of a section: the count, then the bytes of the values (Lists).
abbrev pub body_bytes : EncodedItems → List ℕ
body_bytes list = unsigned_leb128 list.count ++ list.bytes

-- A u32 counts the bytes of the section's body.
abbrev pub CountedSection : EncodedItems → Type 0
CountedSection section = IsCount (length (body_bytes section))

module _ {V : Type 0} (F : Format V) (Can : V → Type 0) where
  -- The list stands for these values: it has their number and encodings, and each can be written and is in range.
  pub record StandsForAll (list : EncodedItems) (values : List V) : Type 0 where
    pub count : list.count ≡ length values
    pub bytes : list.bytes ≡ flat_map F.bytes values
    pub can : All Can values
    pub in_range : All F.InRange values

  -- The new list is the old one and one more value.
  pub record GainsOne (old : EncodedItems) (value : V) (new : EncodedItems) : Type 0 where
    pub count : new.count ≡ old.count + 1
    pub bytes : new.bytes ≡ old.bytes ++ F.bytes value
    pub can : Can value
    pub in_range : F.InRange value
    pub stands : (before : List V) → StandsForAll old before → StandsForAll new (before ++ value ∷ [])

  -- The new list is the old one and these more values.
  pub record GainsEach (old : EncodedItems) (more : List V) (new : EncodedItems) : Type 0 where
    pub count : new.count ≡ old.count + length more
    pub bytes : new.bytes ≡ old.bytes ++ flat_map F.bytes more
    pub can : All Can more
    pub in_range : All F.InRange more
    pub stands : (before : List V) → StandsForAll old before → StandsForAll new (before ++ more)

-- ---- items from iterators

module _ {S A : Type 0} (gives : S → Option A → S → Type 0) where
  -- The property holds of the list that the iterator gives.
  abbrev pub OfItems : S → (List A → Type 0) → Type 0
  OfItems items Holds = (xs : List A) × Drains gives items xs × Holds xs

  -- The iterator gives an item that has the property.
  abbrev pub GivesSome : S → (A → Type 0) → Type 0
  GivesSome items Holds = (xs : List A) × (t : S) × Yields gives items xs t × Any Holds xs

-- ---- reasons why a value isn't added

-- The number doesn't fit in a u32.
abbrev pub IsUncounted : ℕ → Type 0
IsUncounted n = 2 ^ 32 ≤ n

-- The list already has the greatest number of values, 4,294,967,295.
abbrev pub IsFull : EncodedItems → Type 0
IsFull list = list.count + 1 ≡ 2 ^ 32

-- Memory ran out, or the error is `TooLong` for this reason.
abbrev pub IsMemoryOrTooLong : Type 0 → EncodeError → Type 0
IsMemoryOrTooLong Why e = (e ≡ Memory) ⊎ ((e ≡ TooLong) × Why)

module _ {T : Type 0} (Can : T → Type 0) (refuses : T → EncodeError → Type 0) where
  -- Memory ran out, the list is full, or the value can't be written.
  abbrev pub IsRefusalOfOne : EncodedItems → T → EncodeError → Type 0
  IsRefusalOfOne old value e = IsMemoryOrTooLong (IsFull old) e ⊎ Refuses Can refuses value e

  -- Memory ran out, a u32 wouldn't count the values, or one of them can't be written.
  abbrev pub IsRefusalOfEach : EncodedItems → List T → EncodeError → Type 0
  IsRefusalOfEach old values e = IsMemoryOrTooLong (IsUncounted (old.count + length values)) e ⊎ Any (λ x. Refuses Can refuses x e) values
