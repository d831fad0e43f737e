-- Object files, whose relocations are stale once bytes have moved.
use Rattle.std.specs.Prelude.{◌≡◌, ℕ, List, ◌∷◌, ◌++◌}
use Rattle.std.specs.List.{AllByRecursion}
use Rattle.wasm_codec.specs.formats.Grammar.{Joined}
use Rattle.wasm_code.specs.formats.Modules.{raw_module, raw_section}
use Rattle.wasm_code.specs.formats.Sections.{SectionParts}
use Rattle.wasm_modules.specs.Offsets.{IsNameOf, IsObjectName}

-- The section is that of an object file: symbols, or relocations.
pub record IsObjectSection (section : SectionParts) : Type 0 where
  pub name : List ℕ
  pub named : IsNameOf section name
  pub tells : IsObjectName name

-- One of the sections is that of an object file.
pub record HasObject (sections : List SectionParts) : Type 0 where
  pub before : List SectionParts
  pub section : SectionParts
  pub after : List SectionParts
  pub parts : sections ≡ before ++ section ∷ after
  pub tells : IsObjectSection section

-- None of the sections is that of an object file.
abbrev pub HasNoObject : List SectionParts → Type 0
HasNoObject sections = AllByRecursion (λ section. IsObjectSection section → ⊥) sections

-- The property holds of the sections that the bytes encode, one after another, if they encode any.
abbrev pub OfRawSections : List ℕ → (List SectionParts → Type 0) → Type 0
OfRawSections bytes P = (sections : List SectionParts) → Joined raw_section.Encodes bytes sections → P sections

-- If the bytes encode sections, one is that of an object file.
abbrev pub IsObjectFile : List ℕ → Type 0
IsObjectFile bytes = (sections : List SectionParts) → raw_module.Encodes bytes sections → HasObject sections

-- If the bytes encode sections, none is that of an object file.
abbrev pub IsNoObjectFile : List ℕ → Type 0
IsNoObjectFile bytes = (sections : List SectionParts) → raw_module.Encodes bytes sections → HasNoObject sections
