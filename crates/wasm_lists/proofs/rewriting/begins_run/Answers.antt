use Rattle.std.proofs.Common.{◌+◌, ◌-◌, arith}
use Rattle.wasm_codec.proofs.Shortening.{longer_run}
use Rattle.wasm_lists.proofs.rewriting.begins_run.Goals as goal

pub loop-run-smaller : goal.loop-run-smaller
loop-run-smaller g c =
    let law = c.is_lawful.ensures in
    let one = longer_run law.lawful law.some c.args.bytes.now c.loop-run.run (c.loop-run.run + 16 - c.loop-run.run) c.in-Some.count c.are_bytes.ensures c.loop-run.invariant c.in-Some.ensures.scans in
    omega (arith, one.more, one.begins.within)

pub loop-run-preserved : goal.loop-run-preserved
loop-run-preserved g c =
    let law = c.is_lawful.ensures in
    (longer_run law.lawful law.some c.args.bytes.now c.loop-run.run (c.loop-run.run + 16 - c.loop-run.run) c.in-Some.count c.are_bytes.ensures c.loop-run.invariant c.in-Some.ensures.scans).begins
