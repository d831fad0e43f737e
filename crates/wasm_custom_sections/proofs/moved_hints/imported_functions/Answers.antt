use Rattle.wasm_code.specs.formats.Sections.{all_parts_of, first_body_of}
use Rattle.wasm_custom_sections.specs.MovedHints.{import_section_id}
use Rattle.wasm_custom_sections.proofs.MovedModuleLaws.{no_imports}
use Rattle.wasm_custom_sections.proofs.moved_hints.imported_functions.Goals as goal

pub returns-in-Err-Malformed-clause-none : goal.returns-in-Err-Malformed-clause-none
returns-in-Err-Malformed-clause-none c = no_imports (first_body_of import_section_id (all_parts_of c.args.sections.now)) c.in-Some.body.now c.in-Some.ensures.found (rw c.in-Err-Malformed.field-0-is at c.in-Err-Malformed.ensures.unencoded)
