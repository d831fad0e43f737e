-- The sections of a module with room for one more function and global at the front.
use Rattle.std.specs.Prelude.{◌≡◌, ◌+◌, ℕ, List, map}
use Rattle.wasm_sections.specs.declared.module_sections.ModuleSection.{ModuleSection}
use Rattle.wasm_modules.specs.declared.indices.spaces.IndexSpace.TheVariants as spaces
use Rattle.wasm_encoder.specs.ModuleSectionFormats.{whole_module}
use Rattle.wasm_encoder.specs.ModuleSectionParts.{all_module_section_parts}
use Rattle.wasm_encoder.specs.MappedIndices.{NewIndices}
use Rattle.wasm_encoder.specs.MappedSections.{mapped_section}
use Rattle.example_edit.specs.declared.edit.Traced.{Traced}

-- The indices of functions and globals are raised by 1. Other indices stay.
abbrev pub raised : Traced → NewIndices
raised traced spaces.Functions index = index + 1
raised traced spaces.Globals index = index + 1
raised traced space index = index

-- The sections that the bytes encode, with raised indices.
pub record IsRenumbered (bytes : List ℕ) (sections : List ModuleSection) : Type 0 where
  pub decoded : List ModuleSection
  pub encoded : whole_module.Encodes bytes (all_module_section_parts decoded)
  pub renumbered : sections ≡ map (mapped_section (raised (record {}))) decoded
