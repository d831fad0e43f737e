use Rattle.std.proofs.Common.{length}
use Rattle.wasmcanon.specs.Objects.{OfRawSections}
use Rattle.wasmcanon.specs.StaleSections.{AreOffsetNames}
use Rattle.wasmcanon.proofs.SectionSearches.{Searched}
use Rattle.wasmcanon.proofs.offsets.names_in.Given as goal

abbrev pub invariant-loop-cursor : goal.invariant-loop-cursor
invariant-loop-cursor l = record {
  searched : OfRawSections l.sections (λ sections. Searched (λ before. AreOffsetNames l.hints_moved before l.names.items) sections l.cursor.left);
}

abbrev pub decreases-loop-cursor : goal.decreases-loop-cursor
decreases-loop-cursor l = length l.cursor.left
