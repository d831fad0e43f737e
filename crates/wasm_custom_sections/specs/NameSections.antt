-- Name sections that are built subsection by subsection (WebAssembly Core 3.0, Name Section).
use Rattle.std.specs.Prelude.{◌≡◌, ℕ, suc, ◌+◌, ◌<◌, ◌≤◌, List, [], ◌∷◌, ◌++◌, length, Result, OnOk, OnErr, IfErr, IsErrOf}
use Rattle.std.specs.List.{All, flat_map}
use Rattle.wasm_codec.specs.declared.encode.EncodeError.{EncodeError}
use Rattle.wasm_codec.specs.Encoding.{byte_list_bytes}
use Rattle.wasm_codec.specs.formats.Combinators.{Format, minimal_only}
use Rattle.wasm_externals.specs.formats.Names.{name}
use Rattle.wasm_lists.specs.EncodedLists.{EncodedItems, IsMemoryOrTooLong, IsUncounted, body_bytes}
use Rattle.wasm_sections.specs.ListSections.{StandsForItems}
use Rattle.wasm_custom_sections.specs.declared.names.NameError.{NameError}
use Rattle.wasm_custom_sections.specs.declared.names.NameError.TheVariants as errors
use Rattle.wasm_custom_sections.specs.formats.NameParts.{SubsectionParts, module_name, subsection_id}
use Rattle.wasm_custom_sections.specs.formats.Names.{name_data, name_subsection}

-- The bytes of the subsections, and the least id that the next one may have.
pub record BuiltNames : Type 0 where
  pub bytes : List ℕ
  pub next : ℕ

-- The ids ascend, from this one on.
abbrev pub AreAscending : ℕ → List SubsectionParts → Type 0
AreAscending least [] = Unit {0}
AreAscending least (s ∷ more) = (least ≤ subsection_id s) × AreAscending (suc (subsection_id s)) more

-- The section stands for these subsections: it has their encodings, each is in range, and each id is higher than the
-- one before.
pub record StandsForNames (section : BuiltNames) (subsections : List SubsectionParts) : Type 0 where
  pub bytes : section.bytes ≡ flat_map name_subsection.bytes subsections
  pub in_range : All name_subsection.InRange subsections
  pub ascending : AreAscending 0 subsections
  pub below : All (λ s. subsection_id s < section.next) subsections

-- The contents are the minimal encoding of the subsections that the section stands for.
abbrev pub HoldsNames : BuiltNames → Type 0
HoldsNames section = (subsections : List SubsectionParts) → StandsForNames section subsections → (minimal_only name_data).Encodes section.bytes subsections

-- The error of a subsection with this id, where the next id is `next`: that it is lower, or one that writing names.
abbrev pub IsNameErrorOf : ℕ → ℕ → (EncodeError → Type 0) → NameError → Type 0
IsNameErrorOf id next Refuses errors.OutOfOrder = id < next
IsNameErrorOf id next Refuses (errors.Encode e) = Refuses e

-- A method that appends a subsection with this id and content. The content is that of `make value` if it stands for
-- `value`.
pub record AddsSubsection {V : Type 0} (Stands : V → Type 0) (make : V → SubsectionParts) (id : ℕ) (content : List ℕ) (old new : BuiltNames) (result : Result (Unit {0}) NameError) : Type 0 where
  -- It succeeds only if the id is higher than those before.
  pub in_order : OnOk result (old.next ≤ id)
  -- It fails with `OutOfOrder` if the id isn't higher than those before.
  pub out_of_order : id < old.next → IsErrOf result errors.OutOfOrder
  -- It appends the id, the size of the content, and the content.
  pub bytes : OnOk result (new.bytes ≡ old.bytes ++ id ∷ byte_list_bytes content)
  -- The next id must be higher.
  pub next : OnOk result (new.next ≡ id + 1)
  -- The section stands for one subsection more.
  pub stands : OnOk result ((value : V) → Stands value → (before : List SubsectionParts) → StandsForNames old before → StandsForNames new (before ++ make value ∷ []))
  -- On error the section is unchanged.
  pub same : OnErr result (new ≡ old)
  -- Otherwise it fails with `Memory`, or with `TooLong` if a u32 doesn't count the bytes of the content.
  pub refused : IfErr result (IsNameErrorOf id old.next (IsMemoryOrTooLong (IsUncounted (length content))))

-- A method that appends a map.
abbrev pub AddsNames : {V : Type 0} → Format V → (List V → SubsectionParts) → ℕ → BuiltNames → EncodedItems → BuiltNames → Result (Unit {0}) NameError → Type 0
AddsNames F make id old names new = AddsSubsection (StandsForItems F names) make id (body_bytes names) old new

-- A method that appends the module's name.
abbrev pub AddsName : BuiltNames → List ℕ → BuiltNames → Result (Unit {0}) NameError → Type 0
AddsName old text new = AddsSubsection (λ value. value ≡ text) module_name 0 (name.bytes text) old new
