use Rattle.std.proofs.Common.{◌+◌, ◌≤◌, length}
use Rattle.wasm_modules.specs.ModuleOrder.{OfSections}
use Rattle.wasm_modules.proofs.EncodedOrderLaws.{Walked}
use Rattle.wasm_modules.proofs.order.encoded.find_in_sections.Given as goal

abbrev pub invariant-loop-cursor : goal.invariant-loop-cursor
invariant-loop-cursor l = record {
  walked : OfSections l.sections (λ sections. Walked sections l.cursor.left l.index l.check l.code);
  few : l.index + length l.cursor.left ≤ length l.sections;
}

abbrev pub decreases-loop-cursor : goal.decreases-loop-cursor
decreases-loop-cursor l = length l.cursor.left
