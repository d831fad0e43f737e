use Rattle.std.proofs.lemmas.Result.{err_from_is_err_and}
use Rattle.wasm_codec.specs.formats.Combinators.{u32}
use Rattle.wasm_codec.proofs.FormatLaws.{Lawful-u32}
use Rattle.wasm_modules.proofs.SkippingLaws.{passes_read, br_table_pass, br_table_fail}
use Rattle.wasm_modules.proofs.order.data_uses.skip_br_table.Goals as goal

pub returns-in_err-skip_list : goal.returns-in_err-skip_list
returns-in_err-skip_list c =
    let p = err_from_is_err_and c.from_residual.result c.from_residual.ensures.1 in
    rw (p.1, p.2) (br_table_fail c.args.cursor.now c.skip_list.new.cursor c.skip_list.new.cursor c.in_err-skip_list.field-0.0 c.in_err-skip_list.ensures)

pub returns : goal.returns
returns c = br_table_pass c.args.cursor.now c.skip_list.new.cursor c.u32.new.self c.without_value.result c.in_ok-skip_list.ensures (rw c.without_value.ensures (passes_read u32 Lawful-u32 c.skip_list.new.cursor c.u32.new.self c.u32.result c.u32.ensures.reads))
