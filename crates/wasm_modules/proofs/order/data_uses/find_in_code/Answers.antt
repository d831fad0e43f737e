use Rattle.std.proofs.Common.{length, ap, None, ◌∙◌, sym, arith}
use Rattle.wasm_codec.specs.Places.{Place}
use Rattle.wasm_codec.specs.declared.reader.cursor.Fault.TheVariants as faults
use Rattle.wasm_modules.proofs.DataUseLaws.{behind_locals, no_locals, read_on, read_on_plain, found_here, malformed_here, read_all, counted_out}
use Rattle.wasm_modules.proofs.order.data_uses.find_in_code.Goals as goal

pub returns-in_default : goal.returns-in_default
returns-in_default c = no_locals c.args.code.now c.skip_locals.new.cursor c.in_default.field-0 None c.in_default.ensures.skips c.in_default.ensures.err

pub loop-index-init : goal.loop-index-init
loop-index-init c = record { reading = behind_locals c.args.code.now c.skip_locals.new.cursor c.in-Ok.ensures.skips }

pub returns-then-len-eq0 : goal.returns-then-len-eq0
returns-then-len-eq0 c = read_all c.args.code.now.left c.loop-index.code c.loop-index.index c.loop-index.invariant.reading (omega (arith, c.len.ensures, c.if-len-eq0.true))

pub returns-in-Ok-skip_call : goal.returns-in-Ok-skip_call
returns-in-Ok-skip_call c = found_here c.args.code.now.left c.skip_scanned_call.new.cursor c.skip_call.new.cursor c.loop-index.index (rw (c.skip_scanned_call.ensures.stays c.if-skip_scanned_call.false) c.loop-index.invariant.reading) (omega (arith, c.len.ensures, c.if-len-eq0.false, ap (λ (p : Place). length p.left) (c.skip_scanned_call.ensures.stays c.if-skip_scanned_call.false))) c.in-Ok-skip_call.op c.in-Ok-skip_call.ensures (sym c.op_names_data.ensures ∙ c.if-op_names_data.true)

pub returns-in-Err-Malformed : goal.returns-in-Err-Malformed
returns-in-Err-Malformed c = malformed_here c.args.code.now.left c.skip_scanned_call.new.cursor c.skip_call.new.cursor c.loop-index.index (rw (c.skip_scanned_call.ensures.stays c.if-skip_scanned_call.false) c.loop-index.invariant.reading) (omega (arith, c.len.ensures, c.if-len-eq0.false, ap (λ (p : Place). length p.left) (c.skip_scanned_call.ensures.stays c.if-skip_scanned_call.false))) (faults.Malformed c.in-Err-Malformed.field-0-0) None (rw c.in-Err-Malformed.field-0-is at c.in-Err-Malformed.ensures) tt

pub loop-index-preserved-then-skip_scanned_call : goal.loop-index-preserved-then-skip_scanned_call
loop-index-preserved-then-skip_scanned_call c = record { reading = read_on_plain c.args.code.now.left c.loop-index.code c.skip_scanned_call.new.cursor c.loop-index.index c.loop-index.invariant.reading (omega (arith, c.len.ensures, c.if-len-eq0.false)) (c.skip_scanned_call.ensures.skips c.if-skip_scanned_call.true) }

pub loop-index-preserved : goal.loop-index-preserved
loop-index-preserved c = record { reading = read_on c.args.code.now.left c.skip_scanned_call.new.cursor c.skip_call.new.cursor c.loop-index.index (rw (c.skip_scanned_call.ensures.stays c.if-skip_scanned_call.false) c.loop-index.invariant.reading) (omega (arith, c.len.ensures, c.if-len-eq0.false, ap (λ (p : Place). length p.left) (c.skip_scanned_call.ensures.stays c.if-skip_scanned_call.false))) c.in-Ok-skip_call.op c.in-Ok-skip_call.ensures (sym c.op_names_data.ensures ∙ c.if-op_names_data.false) }

pub returns : goal.returns
returns c = counted_out c.args.code.now.left c.loop-index.code c.loop-index.index c.loop-index.invariant.reading (omega (arith, c.len-len.ensures, c.loop-index-test.false))
