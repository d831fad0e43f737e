use Rattle.std.proofs.Common.{rules}
use Rattle.wasm_sections.proofs.EntryLaws.{unfilled_appended, unfilled_written}
use Rattle.wasm_codec.proofs.AppendLaws.{appended}
use Rattle.wasm_sections.proofs.tables.append_table.Goals as goal

pub returns-in_default : goal.returns-in_default
returns-in_default g c =
    let bytes = unfilled_appended c.args.table.now c.args.sink.now.items c.put_table_type.new.bytes.items c.in_default.is (rw (← c.in_ok-reserve.ensures.items) c.put_table_type.ensures.items) in
    appended bytes (search rules) (λ closed. unfilled_written c.args.table.now c.in_default.is c.put_table_type.ensures.written)
