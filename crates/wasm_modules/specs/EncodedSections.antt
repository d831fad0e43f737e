-- Sections with their bodies as bytes, and what these encode.
use Rattle.std.specs.Prelude.{◌≡◌, ℕ, ◌==◌, if◌then◌else◌, List, ◌++◌, Option, Some, None}
use Rattle.wasm_codec.specs.formats.Combinators.{items, u32}
use Rattle.wasm_code.specs.formats.Sections.{SectionParts}
use Rattle.wasm_code.specs.formats.CodeBodies.{code_body}
use Rattle.wasm_sections.specs.formats.Segments.{data_segment}
use Rattle.wasm_modules.specs.ModuleOrder.{code_bodies}
use Rattle.wasm_sections.specs.formats.ModuleSectionParts.{ModuleSectionParts, section_id, functions, code, data_segments, data_count}

-- The body is that of a section with this content, if it is one that counts.
abbrev pub IsContent : List ℕ → ModuleSectionParts → Type 0
IsContent body (functions fs) = (items u32).Encodes body fs
IsContent body (code bs) = (items code_body).Encodes body bs
IsContent body (data_segments ds) = (items data_segment).Encodes body ds
IsContent body (data_count n) = u32.Encodes body n
IsContent body s = Unit {0}

-- The section has this content.
pub record IsSection (raw : SectionParts) (s : ModuleSectionParts) : Type 0 where
  pub id : raw.id ≡ section_id s
  pub content : IsContent raw.body s

-- The body of the first code section, if one was noted.
abbrev pub KnowsCode : List ModuleSectionParts → Option ℕ → List ℕ → Type 0
KnowsCode before None body = (more : List ModuleSectionParts) → code_bodies (before ++ more) ≡ code_bodies more
KnowsCode before (Some count) body = (more : List ModuleSectionParts) → (items code_body).Encodes body (code_bodies (before ++ more))

-- The body of the first code section, after one more section.
abbrev pub next_body : Option ℕ → ℕ → List ℕ → List ℕ → List ℕ
next_body None id body last = if id == 10 then body else last
next_body (Some count) id body last = last
