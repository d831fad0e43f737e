use Rattle.std.proofs.Common.{◌≡◌, drop}
use Rattle.wasm_sections.specs.formats.ModuleSectionParts.{all_module_section_parts}
use Rattle.wasm_modules.specs.ModuleOrder.{code_bodies}
use Rattle.wasm_modules.proofs.order.find_code_bodies.Given as goal

abbrev pub invariant-loop-section : goal.invariant-loop-section
invariant-loop-section l = record {
  left : code_bodies (all_module_section_parts l.sections) ≡ code_bodies (all_module_section_parts (drop l.section-index l.sections));
}
