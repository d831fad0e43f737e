use Rattle.std.proofs.Common.{◌≡◌, drop}
use Rattle.wasm_code.specs.formats.Sections.{all_parts_of, first_body_of}
use Rattle.wasm_code.proofs.section.first_body.Given as goal

abbrev pub invariant-loop-section : goal.invariant-loop-section
invariant-loop-section l = record {
  left : first_body_of l.id (all_parts_of l.sections) ≡ first_body_of l.id (all_parts_of (drop l.section-index l.sections));
}
