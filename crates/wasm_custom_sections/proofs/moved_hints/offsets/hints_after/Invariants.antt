use Rattle.std.proofs.Common.{take}
use Rattle.wasm_custom_sections.specs.MovedOffsets.{AreFronts, Each, MovesHint}
use Rattle.wasm_custom_sections.proofs.moved_hints.offsets.hints_after.Given as goal

abbrev pub invariant-loop-hint : goal.invariant-loop-hint
invariant-loop-hint l = record {
  fronts_are : AreFronts l.body l.fronts;
  moves : Each (MovesHint l.body) (take l.hint-index l.hints) l.moved.items;
}
