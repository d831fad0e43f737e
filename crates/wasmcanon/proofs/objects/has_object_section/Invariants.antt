use Rattle.std.proofs.Common.{length}
use Rattle.wasmcanon.specs.Objects.{HasNoObject, OfRawSections}
use Rattle.wasmcanon.proofs.SectionSearches.{Searched}
use Rattle.wasmcanon.proofs.objects.has_object_section.Given as goal

abbrev pub invariant-loop-cursor : goal.invariant-loop-cursor
invariant-loop-cursor l = record {
  searched : OfRawSections l.sections (λ sections. Searched HasNoObject sections l.cursor.left);
}

abbrev pub decreases-loop-cursor : goal.decreases-loop-cursor
decreases-loop-cursor l = length l.cursor.left
