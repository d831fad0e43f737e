use Rattle.std.proofs.Common.{◌≡◌, List, subst, sym}
use Rattle.wasm_instructions.specs.formats.Instructions.{Instruction}
use Rattle.wasm_sections.specs.declared.elements.ElementMode.{ElementMode}
use Rattle.wasm_sections.specs.declared.elements.ElementMode.TheVariants as modes
use Rattle.wasm_sections.specs.formats.Elements.{element, element_number}
use Rattle.wasm_sections.proofs.elements.number_of.Goals as goal

pub returns-in-Active : goal.returns-in-Active
returns-in-Active c =
    let elements = c.args.element.now.elements in
    let number = c.number_of_active.result in
    let whole = subst (λ (offset : List Instruction). number ≡ element_number (element (modes.Active c.in-Active.table_index offset) elements)) c.as_slice.ensures.value c.number_of_active.ensures in
    subst (λ (mode : ElementMode). number ≡ element_number (element mode elements)) (sym c.in-Active.is) whole
