use Rattle.std.proofs.Common.{◌≡◌, arith}
use Rattle.wasm_sections.specs.formats.Sections.{custom_of}
use Rattle.wasm_sections.proofs.CustomLaws.{all_taken}
use Rattle.wasm_sections.proofs.ModuleSectionLaws.{custom_read, custom_section_read}
use Rattle.wasm_sections.proofs.module_sections.reader.read_short_custom.Goals as goal

pub returns-in-Ok : goal.returns-in-Ok
returns-in-Ok c =
    let is : c.in-Some-eq0.field-0 ≡ 0 = omega (arith, c.in-Some-eq0.field-0-test) in
    let first = rw is at c.in-Some-eq0.ensures in
    let mid = c.next_byte.new.self in
    let name = c.in_ok-name.name.now in
    let bytes = c.in-Ok.bytes.now in
    let rest = all_taken bytes c.read_short_name.new.cursor.left c.len.result c.len.ensures c.in-Ok.ensures.ok.0 in
    let read = custom_read mid c.short_body.new.self c.in_ok-body.body c.in_ok-body.ensures.reads c.in_ok-body.ensures.tells c.read_short_name.new.cursor name bytes c.in_ok-name.ensures rest in
    rw (c.set_minimal.ensures, c.is_minimal.ensures, c.in-Ok.ensures.ok.1) (custom_section_read c.args.cursor.now mid _ (custom_of (name, bytes)) first read)
