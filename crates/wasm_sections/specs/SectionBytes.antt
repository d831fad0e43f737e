-- Sections of a whole module: their id, and the bytes after it (WebAssembly Core 3.0, Sections).
use Rattle.std.specs.Prelude.{ℕ, List, ◌∷◌, length}
use Rattle.wasm_codec.specs.Encoding.{IsCount}
use Rattle.wasm_codec.specs.formats.Bodies.{sized}
use Rattle.wasm_codec.specs.formats.Combinators.{Format, minimal_only}
use Rattle.wasm_sections.specs.formats.EntryParts.{custom_parts}
use Rattle.wasm_sections.specs.formats.ModuleSectionParts.{ModuleSectionParts}
use Rattle.wasm_sections.specs.declared.custom.CustomSection.{CustomSection}
use Rattle.wasm_sections.specs.formats.ModuleSections.{module_section}
use Rattle.wasm_sections.specs.formats.Sections.{custom_body}

-- The id and these bytes are the minimal encoding of the section.
abbrev pub IsSectionAfter : ℕ → List ℕ → ModuleSectionParts → Type 0
IsSectionAfter id bytes section = (minimal_only module_section).Encodes (id ∷ bytes) section

-- Sections of this id have bodies of this format.
abbrev pub IsBodyOf : {V : Type 0} → ℕ → (V → ModuleSectionParts) → Format V → Type 0
IsBodyOf {V} id section F = (v : V) (bytes : List ℕ) → (minimal_only (sized F)).Encodes bytes v → IsSectionAfter id bytes (section v)

-- A u32 counts the bytes of the custom section's name, and one those of its body.
abbrev pub CountedCustom : CustomSection → Type 0
CountedCustom section = IsCount (length section.name.now) × IsCount (length (custom_body.bytes (custom_parts section)))
