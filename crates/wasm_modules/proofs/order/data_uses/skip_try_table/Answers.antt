use Rattle.std.proofs.lemmas.Result.{err_from_is_err_and}
use Rattle.wasm_instructions.specs.formats.Operands.{block_type}
use Rattle.wasm_instructions.proofs.OperandFormatLaws.{Lawful-block-type}
use Rattle.wasm_modules.proofs.SkippingLaws.{taken, take_fails, try_table_pass, try_table_fail}
use Rattle.wasm_modules.proofs.order.data_uses.skip_try_table.Goals as goal

pub returns-in_err-take_block_type : goal.returns-in_err-take_block_type
returns-in_err-take_block_type c =
    let p = err_from_is_err_and c.from_residual.result c.from_residual.ensures.1 in
    rw (p.1, p.2) (try_table_fail c.args.cursor.now c.take_block_type.new.input c.take_block_type.new.input c.in_err-take_block_type.field-0.0 (take_fails block_type Lawful-block-type c.args.cursor.now c.take_block_type.new.input c.take_block_type.new.input c.in_err-take_block_type.field-0.0 c.in_err-take_block_type.ensures.takes))

pub returns : goal.returns
returns c = try_table_pass c.args.cursor.now c.take_block_type.new.input c.skip_list.new.cursor c.skip_list.result (taken block_type Lawful-block-type c.args.cursor.now c.take_block_type.new.input c.in_ok-take_block_type.field-0 c.in_ok-take_block_type.ensures.takes) c.skip_list.ensures
