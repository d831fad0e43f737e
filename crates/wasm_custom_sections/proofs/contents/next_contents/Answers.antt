use Rattle.wasm_code.specs.formats.Sections.{parts_of}
use Rattle.wasm_custom_sections.proofs.ContentsLaws.{next_found}
use Rattle.wasm_custom_sections.proofs.contents.next_contents.Goals as goal

pub returns-in-Ok : goal.returns-in-Ok
returns-in-Ok c = record { next = next_found c.args.bytes.now c.new-cursor.result c.read_section.new.cursor (parts_of c.in-Ok.section) c.contents_of.result c.new-cursor.ensures c.in-Ok.ensures.reads c.contents_of.ensures.contents }
