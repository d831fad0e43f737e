use Rattle.std.proofs.Common.{◌≡◌, [], ◌∷◌, ◌++◌}
use Rattle.wasm_sections.specs.formats.EntryParts.{export_parts}
use Rattle.wasm_sections.proofs.EntryLaws.{export_appended, export_written}
use Rattle.wasm_codec.proofs.AppendLaws.{appended}
use Rattle.wasm_sections.proofs.exports.append_export.Goals as goal

pub returns : goal.returns
returns g c =
    let kinded : c.push_reserved.new.self.items ≡ c.append_name.new.sink.items ++ c.kind_byte.result ∷ [] = rw (← c.in_ok-reserve.ensures.items) c.push_reserved.ensures.items in
    let bytes = export_appended (export_parts c.args.export.now) c.args.sink.now.items c.append_name.new.sink.items c.push_reserved.new.self.items c.put_u32.new.bytes.items c.kind_byte.result c.in_ok-append_name.ensures.ok c.kind_byte.ensures kinded c.put_u32.ensures.items in
    appended bytes c.in_ok-append_name.ensures.can (export_written (export_parts c.args.export.now) c.in_ok-append_name.ensures.written c.put_u32.ensures.minimal)
