use Rattle.std.proofs.Common.{take}
use Rattle.wasm_custom_sections.specs.MovedFunctions.{HasFronts, MovesFunction, all_bodies}
use Rattle.wasm_custom_sections.specs.MovedOffsets.{Each}
use Rattle.wasm_custom_sections.proofs.moved_hints.functions.moved_functions.Given as goal

abbrev pub invariant-loop-function : goal.invariant-loop-function
invariant-loop-function l = record {
  known : HasFronts (all_bodies l.bodies) l.known;
  moves : Each (MovesFunction l.imported (all_bodies l.bodies)) (take l.function-index l.functions) l.moved.items;
}
