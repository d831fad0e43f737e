use Rattle.wasm_code.specs.formats.Sections.{parts_of}
use Rattle.wasm_modules.proofs.SelectionLaws.{not_dropped}
use Rattle.wasm_modules.proofs.selection.is_dropped.Goals as goal

pub returns-in-Some-clause-no : goal.returns-in-Some-clause-no
returns-in-Some-clause-no c = not_dropped c.args.selection (parts_of c.args.section.now) c.in-Some.name.now c.is_dropped_name.result c.in-Some.ensures.found c.in-Some.ensures.one c.is_dropped_name.ensures.no

pub returns-in-None-clause-no : goal.returns-in-None-clause-no
returns-in-None-clause-no c = λ e dropped. c.in-None.ensures.none dropped.name dropped.named
