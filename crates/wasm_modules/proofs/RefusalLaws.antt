-- The numbers in a refusal of a module.
use Rattle.std.proofs.Common.{List, ℕ, Option, Some, None, IfSome}
use Rattle.wasm_codec.specs.Outcomes.{IfRefusedInItem}
use Rattle.wasm_codec.specs.formats.Combinators.{Format}
use Rattle.wasm_codec.specs.declared.reader.refusal.Refusal.{Refusal}
use Rattle.wasm_code.specs.Modules.{CountsSections}
use Rattle.wasm_sections.specs.formats.ModuleSectionParts.{ModuleSectionParts}
use Rattle.wasm_sections.specs.formats.ModuleSections.{BreaksInSection}
use Rattle.wasm_modules.specs.RefusalNumbers.{CountsParts}

pub counts_parts : (F : Format ModuleSectionParts) (bytes : List ℕ) (place : Option Refusal) → IfSome place (CountsSections F bytes) → IfSome place (IfRefusedInItem BreaksInSection bytes) → IfSome place (CountsParts F bytes)
counts_parts F bytes None sections items = tt
counts_parts F bytes (Some refusal) sections items = record { sections = sections; items = items }
