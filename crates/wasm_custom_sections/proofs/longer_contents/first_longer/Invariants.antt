use Rattle.std.proofs.Common.{length}
use Rattle.wasm_custom_sections.proofs.LongerWalk.{Walked}
use Rattle.wasm_custom_sections.proofs.longer_contents.first_longer.Given as goal

abbrev pub invariant-loop-cursor : goal.invariant-loop-cursor
invariant-loop-cursor l = record {
  walked : Walked l.sections l.cursor.left;
}

abbrev pub decreases-loop-cursor : goal.decreases-loop-cursor
decreases-loop-cursor l = length l.cursor.left
