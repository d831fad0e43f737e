use Rattle.wasm_custom_sections.specs.MovedFunctions.{AreUnknown}
use Rattle.wasm_custom_sections.proofs.moved_hints.functions.no_fronts.Given as goal

abbrev pub invariant-loop-number : goal.invariant-loop-number
invariant-loop-number l = AreUnknown l.number l.known.items
