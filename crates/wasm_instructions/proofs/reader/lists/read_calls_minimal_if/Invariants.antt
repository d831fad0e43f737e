use Rattle.wasm_codec.specs.Places.{WasMinimalIf}
use Rattle.std.proofs.Common.{length}
use Rattle.wasm_codec.specs.formats.Combinators.{minimal_if}
use Rattle.wasm_codec.proofs.MinimalIfLaws.{flag}
use Rattle.wasm_lists.proofs.EndLaws.{PassedSome}
use Rattle.wasm_instructions.specs.formats.Instructions.{instruction}
use Rattle.wasm_instructions.proofs.reader.lists.read_calls_minimal_if.Given as goal

abbrev pub invariant-loop-alloc : goal.invariant-loop-alloc
invariant-loop-alloc g l = record {
  some : PassedSome (minimal_if (flag g.row.STRICT) instruction) l.fn.cursor l.cursor l.calls.items;
  minimal_if : WasMinimalIf (flag g.row.STRICT) l.cursor;
}

abbrev pub decreases-loop-alloc : goal.decreases-loop-alloc
decreases-loop-alloc g l = length l.cursor.left
