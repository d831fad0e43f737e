use Rattle.wasm_sections.specs.formats.ModuleSectionParts.{module_section_parts}
use Rattle.wasm_sections.proofs.ModuleSectionLaws.{broken_read}
use Rattle.wasm_sections.proofs.module_sections.reader.read_any_section.Goals as goal

pub returns-clause-names : goal.returns-clause-names
returns-clause-names c = broken_read module_section_parts c.args.cursor.now c.byte_of.new.self c.visit_section-section.new.visitor.cursor c.visit_section-section.result c.in_ok-id.ensures.reads (rw c.fork.ensures.place at c.visit_section-section.ensures.visits)
