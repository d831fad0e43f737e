-- The first section of a module whose contents aren't minimally encoded.
use Rattle.std.specs.Prelude.{◌≡◌, ◌⊎◌, ℕ, List, take, drop, codes}
use Rattle.std.specs.List.{AllByRecursion}
use Rattle.wasm_codec.specs.Reading.{BeginsWith}
use Rattle.wasm_codec.specs.formats.Combinators.{Format, items}
use Rattle.wasm_code.specs.formats.Modules.{raw_module, raw_section}
use Rattle.wasm_code.specs.formats.Sections.{SectionParts}
use Rattle.wasm_custom_sections.specs.MinimalContents.{HasContents, MinimisesContents}
use Rattle.wasm_custom_sections.specs.formats.Names.{name_data}
use Rattle.wasm_custom_sections.specs.formats.Producers.{producers_field}

-- The bytes are the minimal encoding of a value.
pub record IsWritten {V : Type 0} (F : Format V) (bytes : List ℕ) : Type 0 where
  pub value : V
  pub encodes : F.Encodes bytes value
  pub written : bytes ≡ F.bytes value

-- If the section has this name and contents of this format, they are minimally encoded.
abbrev pub IsMinimalIn : {V : Type 0} → List ℕ → Format V → SectionParts → Type 0
IsMinimalIn text F section = (has : HasContents text F section) → has.custom.data_bytes ≡ F.bytes has.value

-- The section has this name and contents of this format, which aren't minimally encoded.
pub record IsLongerIn {V : Type 0} (text : List ℕ) (F : Format V) (section : SectionParts) : Type 0 where
  pub has : HasContents text F section
  pub differs : has.custom.data_bytes ≡ F.bytes has.value → ⊥

-- If the section is one of those whose contents are decoded, they are minimally encoded.
abbrev pub IsMinimalInside : SectionParts → Type 0
IsMinimalInside section = IsMinimalIn (codes "name") name_data section × IsMinimalIn (codes "producers") (items producers_field) section

-- The contents of the section are decoded, and aren't minimally encoded.
abbrev pub IsLongerInside : SectionParts → Type 0
IsLongerInside section = IsLongerIn (codes "name") name_data section ⊎ IsLongerIn (codes "producers") (items producers_field) section

-- Minimising the contents of the module changes it.
pub record HasLongerContents (bytes : List ℕ) : Type 0 where
  pub minimal : List ℕ
  pub minimised : MinimisesContents bytes minimal
  pub differs : minimal ≡ bytes → ⊥

-- At this offset of the module begins the first section whose contents aren't minimally encoded.
pub record IsFirstLonger (bytes : List ℕ) (at : ℕ) : Type 0 where
  pub before : List SectionParts
  pub section : SectionParts
  pub rest : List ℕ
  pub prefix : raw_module.Encodes (take at bytes) before
  pub minimal : AllByRecursion IsMinimalInside before
  pub next : BeginsWith raw_section.Encodes (drop at bytes) section rest
  pub longer : IsLongerInside section
