use Rattle.std.proofs.Common.{◌≡◌, ℕ, List, None, subst}
use Rattle.wasm_code.specs.declared.section.RawSection.{RawSection}
use Rattle.wasm_code.specs.formats.Sections.{all_parts_of, code_section_id, first_body_of}
use Rattle.wasm_custom_sections.specs.MovedHints.{HasHintSection, ImportsFunctions, import_section_id}
use Rattle.wasm_custom_sections.proofs.MovedModuleLaws.{no_body, no_code}
use Rattle.wasm_custom_sections.proofs.moved_hints.HintedCode.of_module.Goals as goal

pub returns-in-Err-Refused-clause-none : goal.returns-in-Err-Refused-clause-none
returns-in-Err-Refused-clause-none c = λ code is. (rw c.in-Err-Refused.field-0-is at c.in-Err-Refused.ensures.decodes.unencoded) is.sections is.encodes

pub returns-then-not-has_hints-clause-none : goal.returns-then-not-has_hints-clause-none
returns-then-not-has_hints-clause-none c =
    let missing = subst (λ (l : List RawSection). HasHintSection (all_parts_of l) → ⊥) c.as_slice.ensures.value (c.has_hints.ensures.no c.if-not-has_hints.true) in
    no_code c.args.module.now (all_parts_of c.in-Ok.sections.items) c.in-Ok.ensures.decodes.given (λ hinted count body imported is. missing hinted)

pub returns-in_default-clause-none : goal.returns-in_default-clause-none
returns-in_default-clause-none c =
    let missing = rw c.in_default.is at c.first_body.ensures.missing in
    let none = subst (λ (l : List RawSection). first_body_of code_section_id (all_parts_of l) ≡ None) c.as_slice-2.ensures.value missing in
    no_code c.args.module.now (all_parts_of c.in-Ok.sections.items) c.in-Ok.ensures.decodes.given (λ hinted count body imported is. no_body (first_body_of code_section_id (all_parts_of c.in-Ok.sections.items)) body none is)

pub returns-in_default-2-clause-none : goal.returns-in_default-2-clause-none
returns-in_default-2-clause-none c =
    let missing = rw c.in_default-2.is at c.in_ok-imported_functions.ensures.none in
    let none = subst (λ (l : List RawSection). (count : ℕ) → ImportsFunctions (first_body_of import_section_id (all_parts_of l)) count → ⊥) c.as_slice-3.ensures.value missing in
    no_code c.args.module.now (all_parts_of c.in-Ok.sections.items) c.in-Ok.ensures.decodes.given (λ hinted count body imported is. none count imported)
