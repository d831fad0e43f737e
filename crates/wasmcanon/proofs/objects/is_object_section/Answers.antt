use Rattle.wasm_code.specs.formats.Sections.{parts_of}
use Rattle.wasmcanon.proofs.SectionSearches.{not_object}
use Rattle.wasmcanon.proofs.objects.is_object_section.Goals as goal

pub returns-in-Some-clause-no : goal.returns-in-Some-clause-no
returns-in-Some-clause-no c = λ e. not_object (parts_of c.args.section.now) c.in-Some.name.now c.in-Some.ensures.found c.in-Some.ensures.one (c.is_object_name.ensures.no e)

pub returns-in-None-clause-no : goal.returns-in-None-clause-no
returns-in-None-clause-no c = λ e is. c.in-None.ensures.none is.name is.named
