-- Modules whose custom sections `name` and `producers` have minimally encoded contents.
use Rattle.std.specs.Prelude.{◌≡◌, ◌≤◌, ◌+◌, ◌⊎◌, ℕ, List, [], ◌∷◌, ◌++◌, length, codes, Option, Some, None, Result, Ok, Err, IfOk, Bool, true, false}
use Rattle.std.specs.Global.{Vec}
use Rattle.wasm_codec.specs.Outcomes.{IfRefused, IsLongestPrefix}
use Rattle.wasm_codec.specs.Places.{Place, place}
use Rattle.wasm_codec.specs.Rewriter.{Rewriting}
use Rattle.wasm_codec.specs.declared.reader.ReadError.{ReadError}
use Rattle.wasm_codec.specs.declared.reader.cursor.Fault.{Fault}
use Rattle.wasm_codec.specs.declared.reader.cursor.Fault.TheVariants as faults
use Rattle.wasm_codec.specs.formats.Bodies.{sized}
use Rattle.wasm_codec.specs.formats.Grammar.{Joined}
use Rattle.std.specs.declared.alloc.AllocError.{AllocError}
use Rattle.wasm_codec.specs.formats.Combinators.{Format, ◌⊗◌, a_byte, items}
use Rattle.wasm_externals.specs.formats.Names.{name}
use Rattle.wasm_code.specs.Modules.{IsModulePrefix}
use Rattle.wasm_code.specs.formats.Modules.{raw_module, raw_section}
use Rattle.wasm_code.specs.formats.Sections.{SectionParts}
use Rattle.wasm_sections.specs.formats.EntryParts.{CustomParts}
use Rattle.wasm_sections.specs.formats.Sections.{custom_body}
use Rattle.wasm_custom_sections.specs.KnownSections.{Holds}
use Rattle.wasm_custom_sections.specs.NamedSections.{named}
use Rattle.wasm_custom_sections.specs.declared.contents.Decoded.{Decoded}
use Rattle.wasm_custom_sections.specs.declared.contents.Decoded.TheVariants as decoded
use Rattle.wasm_custom_sections.specs.formats.Names.{name_data}
use Rattle.wasm_custom_sections.specs.formats.Producers.{producers_field}

-- The section is a custom section of this name, and its contents encode a value.
pub record HasContents {V : Type 0} (text : List ℕ) (F : Format V) (section : SectionParts) : Type 0 where
  pub is_custom : section.id ≡ 0
  pub custom : CustomParts
  pub holds : custom_body.Encodes section.body custom
  pub value : V
  pub contents : Holds text F custom value

-- The section is a section `name` whose contents decode.
abbrev pub HasNames : SectionParts → Type 0
HasNames = HasContents (codes "name") name_data

-- The section is a section `producers` whose contents decode.
abbrev pub HasProducers : SectionParts → Type 0
HasProducers = HasContents (codes "producers") (items producers_field)

-- The section has contents of this format, and the other one is this section with their minimal encoding.
pub record Minimises {V : Type 0} (text : List ℕ) (F : Format V) (section minimal : SectionParts) : Type 0 where
  pub has : HasContents text F section
  pub is : minimal ≡ record { id = 0; body = custom_body.bytes (named text (F.bytes has.value)) }

-- The contents of a section `name` or `producers` that decode get their minimal encoding. Any other section stays.
abbrev pub IsMinimised : SectionParts → SectionParts → Type 0
IsMinimised section minimal =
    Minimises (codes "name") name_data section minimal
    ⊎ (Minimises (codes "producers") (items producers_field) section minimal
    ⊎ ((minimal ≡ section) × (HasNames section → ⊥) × (HasProducers section → ⊥)))

-- The second list has the sections of the first, each minimised, in their order.
pub data AreMinimised : List SectionParts → List SectionParts → Type 0 where
  none : AreMinimised [] []
  more : {s m : SectionParts} {sections minimal : List SectionParts} → IsMinimised s m → AreMinimised sections minimal → AreMinimised (s ∷ sections) (m ∷ minimal)

-- The bytes are the module of these sections, each minimised and its size minimally encoded. They are at most so many.
pub record HasMinimalContents (sections : List SectionParts) (bytes : List ℕ) (most : ℕ) : Type 0 where
  pub minimal : List SectionParts
  pub minimised : AreMinimised sections minimal
  pub written : bytes ≡ raw_module.bytes minimal
  pub no_longer : length bytes ≤ most

-- If the bytes encode sections, the result is the module of these sections with minimal contents, and no longer.
abbrev pub MinimisesContents : List ℕ → List ℕ → Type 0
MinimisesContents bytes result = (sections : List SectionParts) → raw_module.Encodes bytes sections → HasMinimalContents sections result (length bytes)

-- The result of a call that rewrites a module to the one with minimal contents.
pub record RewritesContents (bytes : List ℕ) (result : Result (Vec ℕ) ReadError) : Type 0 where
  -- The bytes encode sections, and the result is their module with minimal contents.
  pub given : IfOk result (λ minimal. (sections : List SectionParts) × raw_module.Encodes bytes sections × HasMinimalContents sections minimal.items (length bytes))
  -- It refuses at the length of the longest prefix that decodes.
  pub prefix : IfRefused result (IsLongestPrefix IsModulePrefix bytes)
  -- It refuses only bytes that encode no sections.
  pub unencoded : IfRefused result (λ _. (sections : List SectionParts) → raw_module.Encodes bytes sections → ⊥)

-- ---- one section

-- A section with its contents decoded: its id, its size, its name and its contents.
abbrev pub section_with : {V : Type 0} → Format V → Format (ℕ × (List ℕ × V))
section_with F = a_byte ⊗ sized (name ⊗ F)

-- The contents of the section are decoded so.
abbrev pub IsDecodedAs : SectionParts → Option Decoded → Type 0
IsDecodedAs section (Some decoded.Names) = HasNames section
IsDecodedAs section (Some decoded.Producers) = HasProducers section
IsDecodedAs section None = (HasNames section → ⊥) × (HasProducers section → ⊥)

-- If the bytes begin with a section, its contents are decoded so.
abbrev pub DecodesNext : List ℕ → Option Decoded → Type 0
DecodesNext bytes found = (section : SectionParts) (after : Place) → raw_section.at (place true bytes) ≡ Some (section, after) → IsDecodedAs section found

-- The next section was read, and it was written minimised.
pub record WritesNext (old new : Rewriting) : Type 0 where
  pub section : SectionParts
  pub after : Place
  pub is_read : raw_section.at old.place ≡ Some (section, after)
  pub minimal : SectionParts
  pub minimised : IsMinimised section minimal
  pub written : new.done ≡ old.done ++ raw_section.bytes minimal
  pub left : new.place.left ≡ after.left
  pub no_longer : length new.done + length new.place.left ≤ length old.done + length old.place.left
  pub rest : new.rest ≡ old.rest

-- The call minimises the next section. It fails with `Malformed` if there is none, or with `Memory`.
abbrev pub MinimisesNext : Rewriting → Rewriting → Result (Unit {0}) Fault → Type 0
MinimisesNext old new (Ok done) = WritesNext old new
MinimisesNext old new (Err (faults.Malformed m)) = raw_section.at old.place ≡ None
MinimisesNext old new (Err faults.Memory) = Unit {0}

-- ---- all sections

-- The first sections of the module were written, each minimised. The bytes written and left are at most `most`.
pub record Minimising (most : ℕ) (sections : List SectionParts) (here : Rewriting) : Type 0 where
  pub before : List SectionParts
  pub rest : List SectionParts
  pub parts : sections ≡ before ++ rest
  pub encodes : Joined raw_section.Encodes here.place.left rest
  pub minimal : List SectionParts
  pub minimised : AreMinimised before minimal
  pub written : here.done ≡ raw_module.bytes minimal
  pub no_longer : length here.done + length here.place.left ≤ most

-- The same of each list of sections that the bytes encode.
abbrev pub MinimisesSoFar : List ℕ → Rewriting → Type 0
MinimisesSoFar bytes here = (sections : List SectionParts) → raw_module.Encodes bytes sections → Minimising (length bytes) sections here

-- The sections that were left were written minimised.
pub record WritesRest (old new : Rewriting) : Type 0 where
  pub rest : new.rest ≡ old.rest
  pub end : new.place.left ≡ []
  pub minimises : (bytes : List ℕ) → MinimisesSoFar bytes old → MinimisesSoFar bytes new

-- The call minimises the sections that are left. It returns `false` if they aren't those of a module.
abbrev pub MinimisesRest : Rewriting → Rewriting → Result Bool AllocError → Type 0
MinimisesRest old new (Ok true) = WritesRest old new
MinimisesRest old new (Ok false) = (bytes : List ℕ) → MinimisesSoFar bytes old → (sections : List SectionParts) → raw_module.Encodes bytes sections → ⊥
MinimisesRest old new (Err e) = Unit {0}
