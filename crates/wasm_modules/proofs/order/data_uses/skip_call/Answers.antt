use Rattle.std.proofs.Common.{◌∙◌, sym}
use Rattle.std.proofs.lemmas.Result.{err_from_is_err_and}
use Rattle.wasm_modules.proofs.SkippingLaws.{opcode_fails, unknown_fails, operands_fail, call_passes}
use Rattle.wasm_modules.proofs.order.data_uses.skip_call.Goals as goal

pub returns-in_err-op : goal.returns-in_err-op
returns-in_err-op c =
    let p = err_from_is_err_and c.from_residual.result c.from_residual.ensures.1 in
    rw (p.1, p.2) (opcode_fails c.args.cursor.now c.take_opcode.new.input c.take_opcode.new.input c.in_err-op.field-0.0 c.in_err-op.ensures.takes)

pub returns-in_default : goal.returns-in_default
returns-in_default c prefix back i parts g = unknown_fails c.args.cursor.now c.take_opcode.new.input c.take_opcode.new.input c.in_ok-op.op c.in_ok-op.ensures.takes.read (sym c.kind.ensures ∙ c.in_default.is) prefix back i parts g

pub returns-in_err-skip_operands : goal.returns-in_err-skip_operands
returns-in_err-skip_operands c =
    let p = err_from_is_err_and c.from_residual-in_err-skip_operands.result c.from_residual-in_err-skip_operands.ensures.1 in
    rw (p.1, p.2) (operands_fail c.args.cursor.now c.take_opcode.new.input c.skip_operands.new.cursor c.in_ok-op.op c.in_ok-op.ensures.takes.read c.in-Some.kind (sym c.kind.ensures ∙ c.in-Some.is) c.in_err-skip_operands.field-0.0 c.in_err-skip_operands.ensures)

pub returns : goal.returns
returns c = call_passes c.args.cursor.now c.take_opcode.new.input c.skip_operands.new.cursor c.in_ok-op.op c.in_ok-op.ensures.takes.read c.in-Some.kind (sym c.kind.ensures ∙ c.in-Some.is) c.in_ok-skip_operands.ensures
