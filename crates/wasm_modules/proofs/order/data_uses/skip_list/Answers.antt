use Rattle.std.proofs.Common.{arith}
use Rattle.std.proofs.lemmas.Result.{err_from_is_err_and}
use Rattle.wasm_modules.proofs.SkippingLaws.{count_fails, item_fails, passing_none, passing_more, passed_all}
use Rattle.wasm_modules.proofs.order.data_uses.skip_list.Goals as goal

pub returns-in_err-count : goal.returns-in_err-count
returns-in_err-count g c =
    let p = err_from_is_err_and c.from_residual.result c.from_residual.ensures.1 in
    rw (p.1, p.2) (count_fails g.T.Readable.format c.args.cursor.now c.u32.new.self c.u32.new.self c.in_err-count.field-0.0 c.in_err-count.ensures.reads)

pub loop-index-init : goal.loop-index-init
loop-index-init g c = record { passing = passing_none g.T.Readable.format c.args.cursor.now c.u32.new.self c.in_ok-count.count c.in_ok-count.ensures.reads }

pub returns-in_err-read : goal.returns-in_err-read
returns-in_err-read g c =
    let p = err_from_is_err_and c.from_residual-in_err-read.result c.from_residual-in_err-read.ensures.1 in
    rw (p.1, p.2) (item_fails g.T.Readable.format c.is_lawful.ensures.lawful c.args.cursor.now c.loop-index.cursor c.read.new.cursor c.read.new.cursor c.in_ok-count.count c.loop-index._index c.in_err-read.field-0.0 c.loop-index.invariant.passing c.loop-index-test.true c.in_err-read.ensures.reads)

pub loop-index-preserved : goal.loop-index-preserved
loop-index-preserved g c = record { passing = passing_more g.T.Readable.format c.is_lawful.ensures.lawful c.args.cursor.now c.loop-index.cursor c.read.new.cursor c.in_ok-count.count c.loop-index._index (g.T.Readable.view c.in_ok-read.field-0) c.loop-index.invariant.passing c.loop-index-test.true c.in_ok-read.ensures.reads }

pub returns : goal.returns
returns g c = passed_all g.T.Readable.format c.args.cursor.now c.loop-index.cursor c.in_ok-count.count c.loop-index._index c.loop-index.invariant.passing (omega arith)
