use Rattle.std.proofs.Common.{arith}
use Rattle.wasm_codec.proofs.StreamLaws.{more_written, still_within, prefix_written, prefix_kept}
use Rattle.wasmnorm.proofs.streams.write_all.Goals as goal

pub loop-written-preserved : goal.loop-written-preserved
loop-written-preserved g c = record {
  within = still_within _ _ _ c.loop-written.invariant.within c.in-Ok.ensures.bound;
  prefix = more_written _ _ _ _ _ _ c.loop-written.invariant.prefix c.in-Ok.ensures.bytes;
}

pub returns-in-Ok-eq0-clause-err : goal.returns-in-Ok-eq0-clause-err
returns-in-Ok-eq0-clause-err g c =
    prefix_written _ _ _ _ (omega arith) (more_written _ _ _ _ _ _ c.loop-written.invariant.prefix c.in-Ok-eq0.ensures.bytes)

pub returns-in-Err-clause-err : goal.returns-in-Err-clause-err
returns-in-Err-clause-err g c = prefix_kept _ _ _ _ _ c.loop-written-test.true c.loop-written.invariant.prefix c.in-Err.ensures.bytes
