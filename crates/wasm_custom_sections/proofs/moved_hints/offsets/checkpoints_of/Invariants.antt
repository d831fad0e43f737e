use Rattle.std.proofs.Common.{All}
use Rattle.wasm_custom_sections.specs.MovedOffsets.{IsFront}
use Rattle.wasm_custom_sections.proofs.moved_hints.offsets.checkpoints_of.Given as goal

abbrev pub invariant-loop-next : goal.invariant-loop-next
invariant-loop-next l = record {
  can_next : (goal.iterator-loop-next).can_next l.next-iterator;
  is_finite : (goal.iterator-loop-next).is_finite l.next-iterator;
  last_is : IsFront l.body l.last;
  checkpoints_are : All (IsFront l.body) l.checkpoints.items;
}
