use Rattle.std.proofs.Common.{drop}
use Rattle.wasm_code.specs.formats.Sections.{all_parts_of}
use Rattle.wasm_custom_sections.specs.MovedHints.{HasHintSection}
use Rattle.wasm_custom_sections.proofs.moved_hints.has_hints.Given as goal

abbrev pub invariant-loop-section : goal.invariant-loop-section
invariant-loop-section l = record { left : HasHintSection (all_parts_of l.sections) → HasHintSection (all_parts_of (drop l.section-index l.sections)) }
