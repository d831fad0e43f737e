-- Type sections that are built: the number of their entries, and their bytes (WebAssembly Core 3.0, Type Section).
use Rattle.std.specs.Prelude.{◌≡◌, ◌++◌, ◌∷◌, ℕ, ◌⊎◌, List, [], length, Option, None, Bool, true, false, Result, OnOk, OnErr, IfErr}
use Rattle.std.specs.List.{Any}
use Rattle.std.specs.Iterator.{Drains}
use Rattle.wasm_types.specs.declared.types.value.ValType.{ValType}
use Rattle.wasm_types.specs.declared.types.value.StorageType.{StorageType}
use Rattle.wasm_types.specs.declared.types.composite.FieldType.{FieldType}
use Rattle.wasm_types.specs.declared.types.composite.FuncType.{FuncType}
use Rattle.wasm_types.specs.declared.types.recursive.SubType.{SubType}
use Rattle.wasm_types.specs.declared.types.composite.CompositeInnerType.{CompositeInnerType}
use Rattle.wasm_types.specs.declared.types.composite.CompositeInnerType.TheVariants as inner
use Rattle.wasm_types.specs.declared.types.recursive.TypeEntry.{TypeEntry}
use Rattle.wasm_types.specs.declared.types.recursive.TypeEntry.TheVariants as entries
use Rattle.wasm_codec.specs.declared.encode.EncodeError.{EncodeError}
use Rattle.wasm_codec.specs.Encoding.{byte_list_bytes}
use Rattle.wasm_types.specs.formats.Types.{recursive_type, type_body}
use Rattle.wasm_types.specs.TypeCounts.{CountedEntry}
use Rattle.wasm_sections.specs.formats.ModuleSectionParts.{types as holding_types}
use Rattle.wasm_sections.specs.SectionBytes.{IsSectionAfter}
use Rattle.wasm_encoder.specs.EncodedLists.{Adds, EncodedItems, StandsForAll, GainsOne, GainsEach, GivesItems, OfItems, IsFull, IsMemoryOrTooLong, IsUncounted, body_bytes}

-- The section stands for these entries: it has their number and encodings, and each can be written and is in range.
abbrev pub StandsFor : EncodedItems → List TypeEntry → Type 0
StandsFor = StandsForAll recursive_type CountedEntry

-- The new section is the old one and one more entry.
abbrev pub Gains : EncodedItems → TypeEntry → EncodedItems → Type 0
Gains = GainsOne recursive_type CountedEntry

-- The new section is the old one and these more entries.
abbrev pub GainsAll : EncodedItems → List TypeEntry → EncodedItems → Type 0
GainsAll = GainsEach recursive_type CountedEntry

-- The body of the section encodes the entries that it stands for.
abbrev pub HoldsEntries : EncodedItems → Type 0
HoldsEntries section = (entries : List TypeEntry) → StandsFor section entries → type_body.Encodes (body_bytes section) entries

-- The size of the section's body, then the body (Sections).
abbrev pub type_section_bytes : EncodedItems → List ℕ
type_section_bytes section = byte_list_bytes (body_bytes section)

-- After the id, the section's size and body are the minimal encoding of the module's section with these entries.
abbrev pub IsTypeSection : EncodedItems → Type 0
IsTypeSection section = (entries : List TypeEntry) → StandsFor section entries → IsSectionAfter 1 (type_section_bytes section) (holding_types entries)

-- ---- entries of one type: final, without supertypes, not shared, with no descriptor

-- The entry of one final type that has no supertypes and no descriptor and isn't shared.
abbrev pub final_entry : CompositeInnerType → TypeEntry
final_entry inner = entries.Sub (record { is_final = true; supertype_idxs = []; composite_type = record { inner = inner; shared = false; descriptor = None; describes = None } })

-- The entry of one final structure type with these fields.
abbrev pub struct_entry : List FieldType → TypeEntry
struct_entry fields = final_entry (inner.Struct (record { fields = fields }))

-- The entry of one final array type with this element.
abbrev pub array_entry : StorageType → Bool → TypeEntry
array_entry ty mutable = final_entry (inner.Array (record { 0 = record { element_type = ty; mutable = mutable } }))

-- ---- types from iterators

module _ {P R : Type 0} (gives_params : P → Option ValType → P → Type 0) (gives_results : R → Option ValType → R → Type 0) where
  -- The property holds of the function type that the two iterators give.
  abbrev pub OfBoth : P → R → (FuncType → Type 0) → Type 0
  OfBoth params results Holds = (ps : List ValType) × (rs : List ValType) × Drains gives_params params ps × Drains gives_results results rs × Holds (record { params = ps; results = rs })

-- ---- methods that add an entry

-- A method that adds an entry. It fails with `TooLong` only if the section is full.
abbrev pub AddsEntry : EncodedItems → TypeEntry → EncodedItems → Result (Unit {0}) EncodeError → Type 0
AddsEntry old entry new = Adds Gains old entry new (IsMemoryOrTooLong (IsFull old))

-- A method that adds an entry. It fails with `TooLong` if the section is full, or the entry is too long for this reason.
abbrev pub AddsEntryOr : Type 0 → EncodedItems → TypeEntry → EncodedItems → Result (Unit {0}) EncodeError → Type 0
AddsEntryOr Long old entry new = Adds Gains old entry new (IsMemoryOrTooLong (IsFull old ⊎ Long))

-- A method that adds an entry of the items that an iterator gives.
pub record AddsGiven {S A : Type 0} (gives : S → Option A → S → Type 0) (items : S) (entry_of : List A → TypeEntry) (Long : Type 0) (old new : EncodedItems) (result : Result (Unit {0}) EncodeError) : Type 0 where
  -- The entry is that of the items that the iterator gives until it ends.
  pub gains : OnOk result (OfItems gives items (λ xs. Gains old (entry_of xs) new))
  -- If it is known what the iterator gives, as for `vec.into_iter()`, the entry is that of these items.
  pub stands : (before : List TypeEntry) (given : List A) → StandsFor old before → GivesItems gives items given → OnOk result (StandsFor new (before ++ entry_of given ∷ []))
  -- On error the section is unchanged.
  pub same : OnErr result (new ≡ old)
  -- It fails with `Memory`, or with `TooLong` if the section is full or for this reason.
  pub refused : IfErr result (IsMemoryOrTooLong (IsFull old ⊎ Long))

-- A method that adds the function type of the parameters and results that two iterators give.
pub record AddsFunction {P R : Type 0} (gives_params : P → Option ValType → P → Type 0) (gives_results : R → Option ValType → R → Type 0) (params : P) (results : R) (Long : Type 0) (old new : EncodedItems) (result : Result (Unit {0}) EncodeError) : Type 0 where
  -- The entry is that of the types that the iterators give until they end.
  pub gains : OnOk result (OfBoth gives_params gives_results params results (λ ty. Gains old (final_entry (inner.Func ty)) new))
  -- If it is known what the iterators give, as for `slice.iter().copied()`, these are the parameters and the results.
  pub stands : (before : List TypeEntry) (ps rs : List ValType) → StandsFor old before → GivesItems gives_params params ps → GivesItems gives_results results rs → OnOk result (StandsFor new (before ++ final_entry (inner.Func (record { params = ps; results = rs })) ∷ []))
  -- On error the section is unchanged.
  pub same : OnErr result (new ≡ old)
  -- It fails with `Memory`, or with `TooLong` if the section is full or for this reason.
  pub refused : IfErr result (IsMemoryOrTooLong (IsFull old ⊎ Long))

-- ---- types with a list that is too long

-- A u32 doesn't count the parameters or the results.
abbrev pub UncountedFunc : FuncType → Type 0
UncountedFunc f = IsUncounted (length f.params) ⊎ IsUncounted (length f.results)

-- A u32 doesn't count the items of a list in the type.
abbrev pub UncountedInner : CompositeInnerType → Type 0
UncountedInner (inner.Func f) = UncountedFunc f
UncountedInner (inner.Struct s) = IsUncounted (length s.fields)
UncountedInner (inner.Array a) = ⊥
UncountedInner (inner.Cont c) = ⊥

-- A u32 doesn't count the supertypes, or the items of a list in the type.
abbrev pub UncountedSub : SubType → Type 0
UncountedSub s = IsUncounted (length s.supertype_idxs) ⊎ UncountedInner s.composite_type.inner

-- A u32 doesn't count the subtypes, or the items of a list in one of them.
abbrev pub UncountedEntry : TypeEntry → Type 0
UncountedEntry (entries.Sub s) = UncountedSub s
UncountedEntry (entries.Rec types) = IsUncounted (length types) ⊎ Any UncountedSub types
