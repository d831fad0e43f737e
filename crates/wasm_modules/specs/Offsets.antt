-- Names of custom sections, and those of sections that keep offsets.
use Rattle.std.specs.Prelude.{◌≡◌, ◌⊎◌, ℕ, List, ◌++◌, codes}
use Rattle.wasm_code.specs.formats.Sections.{SectionParts}
use Rattle.wasm_sections.specs.formats.EntryParts.{CustomParts}
use Rattle.wasm_sections.specs.formats.Sections.{custom_body}

-- The name begins with these bytes.
abbrev pub BeginsWith : List ℕ → List ℕ → Type 0
BeginsWith beginning name = (rest : List ℕ) × (name ≡ beginning ++ rest)

-- Custom sections of this name are those of object files.
abbrev pub IsObjectName : List ℕ → Type 0
IsObjectName name = (name ≡ codes "linking") ⊎ BeginsWith (codes "reloc.") name

-- Custom sections of this name keep offsets.
abbrev pub IsOffsetName : List ℕ → Type 0
IsOffsetName name =
    IsObjectName name
    ⊎ (BeginsWith (codes ".debug_") name
    ⊎ ((name ≡ codes "external_debug_info")
    ⊎ ((name ≡ codes "sourceMappingURL")
    ⊎ BeginsWith (codes "metadata.code.") name)))

-- The section is a custom section of this name.
pub record IsNameOf (section : SectionParts) (name : List ℕ) : Type 0 where
  pub is_custom : section.id ≡ 0
  pub custom : CustomParts
  pub holds : custom_body.Encodes section.body custom
  pub named : custom.name ≡ name
