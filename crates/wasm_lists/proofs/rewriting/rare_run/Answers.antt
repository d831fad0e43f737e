use Rattle.std.proofs.Common.{◌≡◌, ◌-◌, true, false, length, arith}
use Rattle.wasm_codec.proofs.Shortening.{longer_run}
use Rattle.wasm_lists.proofs.rewriting.rare_run.Goals as goal

pub loop-run-smaller : goal.loop-run-smaller
loop-run-smaller g c =
    let law = c.is_lawful.ensures in
    let one = longer_run law.lawful law.some c.args.bytes.now c.loop-run.run (length c.args.bytes.now - c.loop-run.run) c.in-Some.count c.are_bytes.ensures c.loop-run.invariant.begins c.in-Some.ensures.scans in
    omega (arith, one.more, one.begins.within)

pub loop-run-preserved : goal.loop-run-preserved
loop-run-preserved g c =
    let law = c.is_lawful.ensures in
    record {
      begins = (longer_run law.lawful law.some c.args.bytes.now c.loop-run.run (length c.args.bytes.now - c.loop-run.run) c.in-Some.count c.are_bytes.ensures c.loop-run.invariant.begins c.in-Some.ensures.scans).begins;
      never = λ never. let clash : true ≡ false = c.in-Some.ensures.never never in absurd cc;
    }
