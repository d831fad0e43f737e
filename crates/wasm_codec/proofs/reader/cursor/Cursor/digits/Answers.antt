use Rattle.std.proofs.Common.{arith}
use Rattle.std.proofs.lemmas.Result.{err_from_is_err_and}
use Rattle.wasm_codec.proofs.NumberReading.{few_bounds, fail}
use Rattle.wasm_codec.proofs.DigitSteps.{digits_kept, last_read, too_many}
use Rattle.wasm_codec.proofs.reader.cursor.Cursor.digits.Goals as goal

pub returns-in_err-byte-clause-reads : goal.returns-in_err-byte-clause-reads
returns-in_err-byte-clause-reads c =
    let p = err_from_is_err_and c.from_residual.result c.from_residual.ensures.1 in
    rw (p.1, p.2) (fail c.in_err-byte.field-0.0 c.args.most c.args.self.now c.loop.self c.byte_of.new.self c.loop.counter c.loop.invariant.rest c.loop.invariant.so_far c.in_err-byte.ensures.reads)

pub overflow_mul-unsigned : goal.overflow_mul-unsigned
overflow_mul-unsigned c =
    let r = few_bounds 4 c.loop.counter c.loop.unsigned c.loop.unit c.from.result (omega arith) c.loop.invariant.unit c.loop.invariant.below (omega arith) in omega arith

pub overflow_add-unsigned : goal.overflow_add-unsigned
overflow_add-unsigned c =
    let r = few_bounds 4 c.loop.counter c.loop.unsigned c.loop.unit c.from.result (omega arith) c.loop.invariant.unit c.loop.invariant.below (omega arith) in omega arith

pub overflow_mul-unit : goal.overflow_mul-unit
overflow_mul-unit c =
    let r = few_bounds 4 c.loop.counter c.loop.unsigned c.loop.unit c.from.result (omega arith) c.loop.invariant.unit c.loop.invariant.below (omega arith) in omega arith

pub returns-then-byte-lt128-clause-reads : goal.returns-then-byte-lt128-clause-reads
returns-then-byte-lt128-clause-reads c =
    rw c.from.ensures (last_read c.args.most c.args.self.now c.loop.self c.byte_of.new.self c.loop.counter c.in_ok-byte.byte c.loop.unsigned c.loop.unit c.loop.invariant c.loop-test.true c.if-byte-lt128.true c.in_ok-byte.ensures.reads)

pub returns-then-byte-lt128-clause-few : goal.returns-then-byte-lt128-clause-few
returns-then-byte-lt128-clause-few c =
    let r = few_bounds 4 c.loop.counter c.loop.unsigned c.loop.unit c.from.result (omega arith) c.loop.invariant.unit c.loop.invariant.below (omega arith) in omega arith

pub loop-preserved : goal.loop-preserved
loop-preserved c =
    rw c.from.ensures (digits_kept c.args.most c.args.self.now c.loop.self c.byte_of.new.self c.loop.counter c.in_ok-byte.byte c.loop.unsigned c.loop.unit c.loop.invariant c.loop-test.true c.if-byte-lt128.false c.in_ok-byte.ensures.reads)

pub returns-clause-reads : goal.returns-clause-reads
returns-clause-reads c =
    too_many c.args.most c.args.self.now c.loop.self c.loop.counter c.loop.unsigned c.loop.unit c.loop.invariant (omega arith)
