use Rattle.std.proofs.Common.{false, refl}
use Rattle.wasm_modules.specs.declared.selection.Selection.{Selection}
use Rattle.nosgrivel_c.proofs.StripLaws.{stripped}
use Rattle.nosgrivel_c.proofs.strip.strip.Goals as goal

pub returns-clause-given : goal.returns-clause-given
returns-clause-given c =
    let selection : Selection = record { offsets = false; dropped = c.deref.result; kept = c.deref-2.result } in
    stripped c.args.dropped.now c.args.kept.now c.args.input.now c.in_ok-canonical.canonical.items c.select_sections.result.items selection c.in_ok-canonical.ensures.normalises.given refl (rw c.deref.ensures.value c.in_ok-dropped.ensures) (rw c.deref-2.ensures.value c.in_ok-kept.ensures) c.select_sections.ensures.ok c.select_sections.ensures.minimal
