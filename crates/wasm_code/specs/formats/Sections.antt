-- The parts of a module: sections with their bodies as bytes, or with their content.
use Rattle.std.specs.Prelude.{ℕ, ◌==◌, List, [], ◌∷◌, map, Option, Some, None, if◌then◌else◌}
use Rattle.wasm_types.specs.declared.types.recursive.TypeEntry.{TypeEntry}
use Rattle.wasm_code.specs.declared.code.CodeBody.{CodeBody}
use Rattle.wasm_code.specs.declared.section.RawSection.{RawSection}

-- The magic number and the version (Modules).
abbrev pub header : List ℕ
header = 0x00 ∷ 0x61 ∷ 0x73 ∷ 0x6d ∷ 0x01 ∷ 0x00 ∷ 0x00 ∷ 0x00 ∷ []

-- The id of type sections (Sections).
abbrev pub type_section_id : ℕ
type_section_id = 1

-- The id of code sections (Sections).
abbrev pub code_section_id : ℕ
code_section_id = 10

-- A section as its id and the bytes of its body.
pub record SectionParts : Type 0 where
  pub id : ℕ
  pub body : List ℕ

-- The section with this id and this body.
abbrev pub section_of : ℕ × List ℕ → SectionParts
section_of parts = record { id = parts.0; body = parts.1 }

-- The id and the body of a section that borrows from the input.
abbrev pub parts_of : RawSection → SectionParts
parts_of section = record { id = section.id; body = section.body.now }

-- The ids and the bodies of sections that borrow from the input.
abbrev pub all_parts_of : List RawSection → List SectionParts
all_parts_of = map parts_of

-- The body of the first section with this id, if there is one.
abbrev pub first_body_of : ℕ → List SectionParts → Option (List ℕ)
first_body_of id [] = None
first_body_of id (section ∷ sections) = if section.id == id then Some section.body else first_body_of id sections

-- The content of a section: the entries of a type section, the bodies of a code section, or any other's bytes.
pub data Content : Type 0 where
  type_entries : List TypeEntry → Content
  code_bodies : List CodeBody → Content
  raw_bytes : List ℕ → Content

-- A section as its id and its content.
pub record TypedSection : Type 0 where
  pub id : ℕ
  pub content : Content

-- The section with this id and this content.
abbrev pub typed_section_of : ℕ × Content → TypedSection
typed_section_of parts = record { id = parts.0; content = parts.1 }
