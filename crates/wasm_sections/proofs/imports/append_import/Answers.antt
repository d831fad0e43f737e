use Rattle.std.proofs.Common.{rules}
use Rattle.wasm_sections.specs.formats.EntryParts.{import_parts}
use Rattle.wasm_sections.proofs.EntryLaws.{import_written, import_appended}
use Rattle.wasm_codec.proofs.AppendLaws.{appended, kept_before}
use Rattle.wasm_sections.proofs.imports.append_import.Goals as goal

pub returns-in_err-append_name-2 : goal.returns-in_err-append_name-2
returns-in_err-append_name-2 g c = record { ok = search rules; can = search rules; written = search rules; refused = search rules; kept = kept_before _ _ _ _ c.in_ok-append_name.ensures.ok c.in_err-append_name-2.ensures.kept }

pub returns : goal.returns
returns g c =
    let import = import_parts c.args.import.now in
    let one = c.in_ok-append_name.ensures in
    let two = c.in_ok-append_name-2.ensures in
    let bytes = import_appended import c.args.sink.now.items c.append_name.new.sink.items c.append_name-2.new.sink.items c.put_entity_type.new.bytes.items one.ok two.ok (rw (← c.in_ok-reserve.ensures.items) c.put_entity_type.ensures.items) in
    appended bytes (one.can, two.can) (import_written import one.written two.written c.put_entity_type.ensures.written)
