-- Sections that are built item by item (WebAssembly Core 3.0, Lists).
use Rattle.std.specs.Prelude.{◌≡◌, ◌++◌, ◌+◌, ◌^◌, ◌≤◌, ◌⊎◌, ℕ, List, length, map, Result, OnOk, OnErr, IfErr, IsErrOf}
use Rattle.std.specs.List.{All, flat_map}
use Rattle.wasm_codec.specs.declared.encode.EncodeError.{EncodeError}
use Rattle.wasm_codec.specs.declared.encode.EncodeError.TheVariants.{TooLong}
use Rattle.wasm_codec.specs.Encoding.{byte_list_bytes, IsRefusal, IsMinimal, IsMinimalOrLonger, OnlyTooLong}
use Rattle.wasm_codec.specs.Lawful.{IsLawful}
use Rattle.wasm_codec.specs.formats.Combinators.{Format, items}
use Rattle.wasm_sections.specs.formats.ModuleSectionParts.{ModuleSectionParts}
use Rattle.wasm_sections.specs.SectionKinds.{SectionOf}
use Rattle.wasm_sections.specs.SectionBytes.{IsBodyOf, IsSectionAfter}
pub use Rattle.wasm_lists.specs.EncodedLists.{IsFull, IsMemoryOrTooLong, IsUncounted}
use Rattle.wasm_lists.specs.EncodedLists.{EncodedItems, StandsForAll, GainsOne, GainsEach, CountedSection, body_bytes}

module _ {V : Type 0} (F : Format V) where
  -- The section stands for these items: it has their number and encodings, and each is in range.
  abbrev pub StandsForItems : EncodedItems → List V → Type 0
  StandsForItems = StandsForAll F (λ item. Unit {0})

  -- The new section is the old one and one more item.
  abbrev pub GainsItem : EncodedItems → V → EncodedItems → Type 0
  GainsItem = GainsOne F (λ item. Unit {0})

  -- The new section is the old one and these more items.
  abbrev pub GainsItems : EncodedItems → List V → EncodedItems → Type 0
  GainsItems = GainsEach F (λ item. Unit {0})

  -- The body of the section encodes the items that it stands for.
  abbrev pub HoldsItems : EncodedItems → Type 0
  HoldsItems section = (values : List V) → StandsForItems section values → (items F).Encodes (body_bytes section) values

  -- After this id, the section's size and body are the minimal encoding of the module's section with these items.
  abbrev pub IsSectionOfItems : ℕ → (List V → ModuleSectionParts) → EncodedItems → Type 0
  IsSectionOfItems id holding section = (values : List V) → StandsForItems section values → IsSectionAfter id (byte_list_bytes (body_bytes section)) (holding values)

-- ---- items

-- The items have a lawful encoding, and a section of this kind has a list of them as its body.
pub record LawfulItem {T V : Type 0} (encoding : T → List ℕ) (IsWritten Fits : T → Type 0) (view : T → V) (S : SectionOf V) : Type 0 where
  -- The format is lawful.
  pub lawful : IsLawful S.format
  -- An item is encoded as its value.
  pub bytes : (item : T) → encoding item ≡ S.format.bytes (view item)
  -- An item that was written and fits has its value's minimal encoding.
  pub written : (item : T) → IsWritten item → Fits item → IsMinimal S.format.Encodes S.format.bytes (view item)
  -- A section with this id has a list of items as its body.
  pub body : IsBodyOf S.id S.holding (items S.format)

-- Each item that was written has its value's minimal encoding.
abbrev pub LawfulEntry : {T V : Type 0} → (T → V) → SectionOf V → Type 0
LawfulEntry view S = LawfulItem (λ item. S.format.bytes (view item)) (λ item. IsMinimal S.format.Encodes S.format.bytes (view item)) (λ item. Unit {0}) view S

-- Each item that was written has its value's minimal encoding, if it fits.
abbrev pub LawfulIf : {T V : Type 0} → (T → V) → SectionOf V → (T → Type 0) → Type 0
LawfulIf view S Fits = LawfulItem (λ item. S.format.bytes (view item)) (λ item. Fits item → IsMinimal S.format.Encodes S.format.bytes (view item)) Fits view S

-- ---- methods that add

-- A method that adds something to what is built.
pub record Adds {B X : Type 0} (Gains : B → X → B → Type 0) (old : B) (added : X) (new : B) (Refused : EncodeError → Type 0) (result : Result (Unit {0}) EncodeError) : Type 0 where
  -- It encodes what was added, after what it had before.
  pub gains : OnOk result (Gains old added new)
  -- On error it is unchanged.
  pub same : OnErr result (new ≡ old)
  -- It fails with one of these errors.
  pub refused : IfErr result Refused

-- A method that adds an item. It fails with `TooLong` only if the section is full.
abbrev pub AddsItem : {V : Type 0} → SectionOf V → EncodedItems → V → EncodedItems → Result (Unit {0}) EncodeError → Type 0
AddsItem S old item new = Adds (GainsItem S.format) old item new (IsMemoryOrTooLong (IsFull old))

-- A method that adds an item. It fails with `TooLong` if the section is full, or the item is too long for this reason.
abbrev pub AddsOr : {V : Type 0} → SectionOf V → Type 0 → EncodedItems → V → EncodedItems → Result (Unit {0}) EncodeError → Type 0
AddsOr S Long old item new = Adds (GainsItem S.format) old item new (IsMemoryOrTooLong (IsFull old ⊎ Long))

-- A method that adds an item, which is too long if a u32 doesn't count each list in it.
abbrev pub AddsCounted : {V : Type 0} → SectionOf V → (V → Type 0) → EncodedItems → V → EncodedItems → Result (Unit {0}) EncodeError → Type 0
AddsCounted S IsCounted old item new = Adds (GainsItem S.format) old item new (IsMemoryOrTooLong (IsFull old ⊎ (IsCounted item → ⊥)))

module _ {V : Type 0} (F : Format V) where
  -- A method that adds an item, which has an encoding if `Fits` holds.
  pub record AddsIf (Fits : Type 0) (old : EncodedItems) (item : V) (new : EncodedItems) (Refused : EncodeError → Type 0) (result : Result (Unit {0}) EncodeError) : Type 0 where
    -- The section has one item more.
    pub count : OnOk result (new.count ≡ old.count + 1)
    -- The bytes of the item follow those before.
    pub bytes : OnOk result (new.bytes ≡ old.bytes ++ F.bytes item)
    -- If the item has an encoding, the section encodes the item too.
    pub gains : OnOk result (Fits → GainsItem F old item new)
    -- On error the section is unchanged.
    pub same : OnErr result (new ≡ old)
    -- It fails with one of these errors.
    pub refused : IfErr result Refused

  -- A method that adds items, all of them or none. An item has an encoding if it fits.
  pub record AddsEachIf {T : Type 0} (view : T → V) (Fits : T → Type 0) (old : EncodedItems) (added : List T) (new : EncodedItems) (Refused : EncodeError → Type 0) (result : Result (Unit {0}) EncodeError) : Type 0 where
    -- The section has these items more.
    pub count : OnOk result (new.count ≡ old.count + length added)
    -- The bytes of the items follow those before.
    pub bytes : OnOk result (new.bytes ≡ old.bytes ++ flat_map F.bytes (map view added))
    -- If the items have encodings, the section encodes the items too.
    pub gains : OnOk result (All Fits added → GainsItems F old (map view added) new)
    -- On error the section is unchanged.
    pub same : OnErr result (new ≡ old)
    -- It fails with one of these errors.
    pub refused : IfErr result Refused
    -- It fails with `TooLong` if a u32 wouldn't count the items.
    pub too_many : 2 ^ 32 ≤ old.count + length added → IsErrOf result TooLong

-- ---- sections that are written

-- A section's `encode`. `B` is the format of its body, and it stands for `values` if `Stands values`.
pub record EncodesSection {V : Type 0} (B : Format V) (Stands : V → Type 0) (id : ℕ) (holding : V → ModuleSectionParts) (section : EncodedItems) (old new : List ℕ) (result : Result (Unit {0}) EncodeError) : Type 0 where
  -- It appends the size of the body, and the body.
  pub ok : OnOk result (new ≡ old ++ byte_list_bytes (body_bytes section))
  -- A u32 counts the bytes of the body.
  pub can : OnOk result (CountedSection section)
  -- The body encodes the values. With the id it is the minimal encoding of a section that holds them.
  pub written : OnOk result (((values : V) → Stands values → B.Encodes (body_bytes section) values) × ((values : V) → Stands values → IsSectionAfter id (byte_list_bytes (body_bytes section)) (holding values)))
  -- It fails with `Memory`, or with `TooLong` if the body is too long.
  pub refused : IfErr result (IsRefusal CountedSection OnlyTooLong section)
  -- On error the bytes are unchanged.
  pub err : OnErr result (new ≡ old)
  -- The body is that of the values.
  pub is_body : (values : V) → Stands values → body_bytes section ≡ B.bytes values
  -- The body encodes the values.
  pub encodes : (values : V) → Stands values → B.Encodes (body_bytes section) values
  -- Every other encoding of the values is longer.
  pub minimal : (values : V) (bytes : List ℕ) → Stands values → B.Encodes bytes values → IsMinimalOrLonger bytes (body_bytes section)

-- The `encode` of a section that is a list of items.
abbrev pub EncodesItems : {V : Type 0} → SectionOf V → EncodedItems → List ℕ → List ℕ → Result (Unit {0}) EncodeError → Type 0
EncodesItems S section = EncodesSection (items S.format) (StandsForItems S.format section) S.id S.holding section

-- Such a section was written: its body encodes its items, and with the id it is the minimal encoding of a section.
abbrev pub IsWrittenList : {V : Type 0} → SectionOf V → EncodedItems → Type 0
IsWrittenList S section = HoldsItems S.format section × IsSectionOfItems S.format S.id S.holding section
