-- Custom sections that keep offsets, which are stale once bytes have moved.
use Rattle.std.specs.Prelude.{◌≡◌, ◌⊎◌, ℕ, Bool, true, false, List, [], ◌∷◌, String, codes, length, string_bytes}
use Rattle.std.specs.Global.{Global}
use Rattle.wasm_code.specs.formats.Modules.{raw_module}
use Rattle.wasm_code.specs.formats.Sections.{SectionParts}
use Rattle.wasm_modules.specs.Offsets.{IsNameOf, IsOffsetName}
use Rattle.wasm_modules.specs.Selections.{IsChosen}
use Rattle.wasmcanon.specs.Run.{HasContents, IsCanonicalForm, IsFormWith}
use Rattle.wasmcanon.specs.declared.run.FormOptions.{FormOptions}

-- Custom sections of this name keep offsets that are stale. Those of branch hints don't if the hints are moved.
abbrev pub IsStaleName : Bool → List ℕ → Type 0
IsStaleName false name = IsOffsetName name
IsStaleName true name = IsOffsetName name × (name ≡ codes "metadata.code.branch_hint" → ⊥)

-- The section has no name, or none of sections that keep stale offsets.
abbrev pub KeepsNoOffsets : Bool → SectionParts → Type 0
KeepsNoOffsets moved section = (name : List ℕ) → IsNameOf section name → IsStaleName moved name → ⊥

-- They name all sections that keep stale offsets, in their order.
pub data AreOffsetNames (moved : Bool) : List SectionParts → List (String Global) → Type 0 where
  none : AreOffsetNames moved [] []
  named : {section : SectionParts} {name : String Global} {sections : List SectionParts} {names : List (String Global)} → IsNameOf section (string_bytes name) → IsStaleName moved (string_bytes name) → AreOffsetNames moved sections names → AreOffsetNames moved (section ∷ sections) (name ∷ names)
  other : {section : SectionParts} {sections : List SectionParts} {names : List (String Global)} → KeepsNoOffsets moved section → AreOffsetNames moved sections names → AreOffsetNames moved (section ∷ sections) names

-- They name all sections of the module that keep stale offsets.
abbrev pub NamesOffsets : Bool → List ℕ → List (String Global) → Type 0
NamesOffsets moved bytes names = (sections : List SectionParts) → raw_module.Encodes bytes sections → AreOffsetNames moved sections names

-- They name all sections of the form that keep offsets, but for those of branch hints if these are moved.
pub record NamesAll (options : FormOptions) (input form : List ℕ) (names : List (String Global)) : Type 0 where
  pub moved : Bool
  pub is : IsFormWith moved options input form
  pub all : NamesOffsets moved form names

-- The input is canonical, and minimising the contents of its chosen sections shortens nothing.
pub record HasStayed (options : FormOptions) (input form : List ℕ) : Type 0 where
  pub canonical : IsCanonicalForm input input
  pub part : List ℕ
  pub chosen : IsChosen options.sections input part
  pub contents : HasContents options.names part form
  pub as_long : length form ≡ length part

-- They name all sections of the form that keep offsets, but for moved branch hints, or none, since no byte of a chosen
-- section has moved.
abbrev pub NamesStale : FormOptions → List ℕ → List ℕ → List (String Global) → Type 0
NamesStale options input form names = NamesAll options input form names ⊎ ((names ≡ []) × HasStayed options input form)
