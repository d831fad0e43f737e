-- The numbers in a refusal of a module with every section decoded.
use Rattle.std.specs.Prelude.{List, ℕ}
use Rattle.wasm_codec.specs.Outcomes.{IfRefusedInItem}
use Rattle.wasm_codec.specs.formats.Combinators.{Format}
use Rattle.wasm_codec.specs.declared.reader.refusal.Refusal.{Refusal}
use Rattle.wasm_code.specs.Modules.{CountsSections}
use Rattle.wasm_sections.specs.formats.ModuleSectionParts.{ModuleSectionParts}
use Rattle.wasm_sections.specs.formats.ModuleSections.{BreaksInSection}

-- The parts of the bytes that the numbers in a refusal count.
pub record CountsParts (F : Format ModuleSectionParts) (bytes : List ℕ) (refusal : Refusal) : Type 0 where
  -- The sections before that at `at`.
  pub sections : CountsSections F bytes refusal
  -- The items before that at which its list breaks off.
  pub items : IfRefusedInItem BreaksInSection bytes refusal
