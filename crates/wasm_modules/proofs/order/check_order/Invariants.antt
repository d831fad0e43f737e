use Rattle.std.proofs.Common.{take}
use Rattle.wasm_sections.specs.formats.ModuleSectionParts.{all_module_section_parts}
use Rattle.wasm_modules.specs.ModuleOrder.{Notes}
use Rattle.wasm_modules.proofs.order.check_order.Given as goal

abbrev pub invariant-loop-index : goal.invariant-loop-index
invariant-loop-index l = record {
  notes : Notes (take l.index (all_module_section_parts l.sections)) l.check;
}
