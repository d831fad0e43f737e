use Rattle.std.proofs.lemmas.Result.{err_from_is_err_and}
use Rattle.wasm_sections.specs.formats.EntryParts.{custom_parts}
use Rattle.wasm_sections.proofs.CustomLaws.{all_taken}
use Rattle.wasm_sections.proofs.ModuleSectionLaws.{custom_read, no_custom}
use Rattle.wasm_sections.proofs.module_sections.reader.read_sized_custom.Goals as goal

pub returns-in_err-name : goal.returns-in_err-name
returns-in_err-name c =
    let p = err_from_is_err_and c.from_residual-in_err-name.result c.from_residual-in_err-name.ensures.1 in
    rw (p.1, p.2) (record { reads = no_custom c.args.cursor.now c.body.new.self c.in_ok-body.body c.in_ok-body.ensures.reads c.in_ok-body.ensures.tells custom_parts c.read_name.new.cursor c.body.new.self c.in_err-name.field-0.0 c.in_err-name.ensures.reads })

pub returns : goal.returns
returns c =
    let rest = all_taken c.in_ok-bytes.bytes.now c.read_name.new.cursor.left c.len.result c.len.ensures c.in_ok-bytes.ensures.ok.0 in
    let read = custom_read c.args.cursor.now c.body.new.self c.in_ok-body.body c.in_ok-body.ensures.reads c.in_ok-body.ensures.tells c.read_name.new.cursor c.in_ok-name.name.now c.in_ok-bytes.bytes.now c.in_ok-name.ensures.reads rest in
    rw (c.set_minimal.ensures, c.is_minimal.ensures, c.in_ok-bytes.ensures.ok.1) (record { reads = read })
