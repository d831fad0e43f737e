use Rattle.std.proofs.Common.{◌≡◌, ◌≤◌, ◌+◌, true, length}
use Rattle.wasm_codec.specs.Places.{place}
use Rattle.wasm_codec.specs.formats.Combinators.{minimal_only}
use Rattle.wasm_lists.proofs.EndLaws.{PassedCount}
use Rattle.wasm_lists.proofs.reading.check_joined_items.Given as goal

abbrev pub invariant-loop-cursor : goal.invariant-loop-cursor
invariant-loop-cursor g l = record {
  some : PassedCount (minimal_only g.T.Readable.format) (place true l.fn.bytes) l.cursor l.passed;
  minimal : l.cursor.minimal ≡ true;
  few : l.passed + length l.cursor.left ≤ length l.fn.bytes;
}

abbrev pub decreases-loop-cursor : goal.decreases-loop-cursor
decreases-loop-cursor g l = length l.cursor.left
