use Rattle.std.proofs.Common.{arith}
use Rattle.std.proofs.lemmas.Result.{err_from_is_err_and}
use Rattle.wasm_code.specs.formats.CodeBodies.{local_group}
use Rattle.wasm_code.proofs.CodeBodyLaws.{Lawful-local-group}
use Rattle.wasm_modules.proofs.SkippingLaws.{count_fails, item_fails, passing_none, passing_more, passed_all}
use Rattle.wasm_modules.proofs.order.data_uses.skip_locals.Goals as goal

pub returns-in_err-count-clause-skips : goal.returns-in_err-count-clause-skips
returns-in_err-count-clause-skips c =
    let p = err_from_is_err_and c.from_residual.result c.from_residual.ensures.1 in
    rw (p.1, p.2) (count_fails local_group c.args.cursor.now c.u32.new.self c.u32.new.self c.in_err-count.field-0.0 c.in_err-count.ensures.reads)

pub loop-index-init : goal.loop-index-init
loop-index-init c = record { passing = passing_none local_group c.args.cursor.now c.u32.new.self c.in_ok-count.count c.in_ok-count.ensures.reads }

pub returns-in_err-read_local_group-clause-skips : goal.returns-in_err-read_local_group-clause-skips
returns-in_err-read_local_group-clause-skips c =
    let p = err_from_is_err_and c.from_residual-in_err-read_local_group.result c.from_residual-in_err-read_local_group.ensures.1 in
    rw (p.1, p.2) (item_fails local_group Lawful-local-group c.args.cursor.now c.loop-index.cursor c.read_local_group.new.cursor c.read_local_group.new.cursor c.in_ok-count.count c.loop-index._index c.in_err-read_local_group.field-0.0 c.loop-index.invariant.passing c.loop-index-test.true c.in_err-read_local_group.ensures.reads)

pub loop-index-preserved : goal.loop-index-preserved
loop-index-preserved c = record { passing = passing_more local_group Lawful-local-group c.args.cursor.now c.loop-index.cursor c.read_local_group.new.cursor c.in_ok-count.count c.loop-index._index c.in_ok-read_local_group.field-0 c.loop-index.invariant.passing c.loop-index-test.true c.in_ok-read_local_group.ensures.reads }

pub returns-clause-skips : goal.returns-clause-skips
returns-clause-skips c = passed_all local_group c.args.cursor.now c.loop-index.cursor c.in_ok-count.count c.loop-index._index c.loop-index.invariant.passing (omega arith)
