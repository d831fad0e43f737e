use Rattle.std.proofs.lemmas.Result.{err_from_is_err_and}
use Rattle.wasm_codec.proofs.PlaceLists.{passed_none, passed_more, passed_fault, passed_all, no_count}
use Rattle.wasm_code.specs.formats.CodeBodies.{local_group}
use Rattle.wasm_code.proofs.code.reader.read_locals.Goals as goal
use Rattle.wasm_codec.specs.Places.{u32_at}

pub returns-in_err-count : goal.returns-in_err-count
returns-in_err-count c =
    let p = err_from_is_err_and c.from_residual.result c.from_residual.ensures.1 in
    rw (p.1, p.2) (record { reads = no_count u32_at local_group c.args.cursor.now c.u32.new.self c.in_err-count.field-0.0 c.in_err-count.ensures.reads })

pub loop-index-init : goal.loop-index-init
loop-index-init c = rw c.new-groups.ensures.items (passed_none u32_at local_group c.args.cursor.now c.u32.new.self c.in_ok-count.count c.in_ok-count.ensures.reads)

pub returns-in_err-group : goal.returns-in_err-group
returns-in_err-group c =
    let p = err_from_is_err_and c.from_residual-in_err-group.result c.from_residual-in_err-group.ensures.1 in
    rw (p.1, p.2) (record { reads = passed_fault u32_at local_group c.args.cursor.now c.loop-index.cursor c.read_numbered_group.new.cursor c.in_ok-count.count c.loop-index.index c.loop-index.groups.items c.in_err-group.field-0.0 c.loop-index.invariant c.loop-index-test.true c.in_err-group.ensures.reads })

pub loop-index-preserved : goal.loop-index-preserved
loop-index-preserved c = rw c.in_ok-push.ensures.items (passed_more u32_at local_group c.args.cursor.now c.loop-index.cursor c.read_numbered_group.new.cursor c.in_ok-count.count c.loop-index.index c.loop-index.groups.items c.in_ok-group.group c.loop-index.invariant c.loop-index-test.true c.in_ok-group.ensures.reads)

pub returns : goal.returns
returns c = rw c.from.ensures (record { reads = passed_all u32_at local_group c.args.cursor.now c.loop-index.cursor c.in_ok-count.count c.loop-index.index c.loop-index.groups.items c.loop-index.invariant c.loop-index-test.false })
