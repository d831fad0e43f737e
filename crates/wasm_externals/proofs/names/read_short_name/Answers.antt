use Rattle.wasm_externals.proofs.NameLaws.{short_name_read}
use Rattle.wasm_externals.proofs.names.read_short_name.Goals as goal

pub returns-in-Ok : goal.returns-in-Ok
returns-in-Ok c = short_name_read c.args.cursor.now c.short_sized.new.self c.in_ok-short_sized.field-0.now c.in-Ok.text.now c.in_ok-short_sized.ensures c.in-Ok.ensures.cases.0 c.in-Ok.ensures.cases.1
