use Rattle.std.proofs.Common.{take}
use Rattle.wasm_code.specs.formats.Sections.{all_parts_of}
use Rattle.wasm_custom_sections.specs.MovedFunctions.{HasFronts, all_bodies}
use Rattle.wasm_custom_sections.specs.MovedHints.{MovesSoFar}
use Rattle.wasm_custom_sections.proofs.moved_hints.HintedCode.move_hints.Given as goal

abbrev pub invariant-loop-section : goal.invariant-loop-section
invariant-loop-section l = record {
  known : HasFronts (all_bodies l.bodies.items) l.known.items;
  moves : MovesSoFar l.self.imported_functions (all_bodies l.bodies.items) (all_parts_of (take l.section-index l.section-items)) l.moved.items;
}
