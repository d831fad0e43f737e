use Rattle.std.proofs.Common.{◌≡◌, ◌≤◌, take}
use Rattle.wasm_sections.specs.formats.EntryParts.{all_import_parts}
use Rattle.wasm_custom_sections.specs.MovedHints.{function_imports}
use Rattle.wasm_custom_sections.proofs.moved_hints.count_functions.Given as goal

abbrev pub invariant-loop-import : goal.invariant-loop-import
invariant-loop-import l = record {
  count_is : l.count ≡ function_imports (all_import_parts (take l.import-index l.imports));
  few : l.count ≤ l.import-index;
}
