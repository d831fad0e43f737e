use Rattle.wasm_codec.proofs.StreamLaws.{more_written, still_within}
use Rattle.wasm_codec.proofs.streams.write_all.Goals as goal

pub loop-written-preserved : goal.loop-written-preserved
loop-written-preserved g c = record {
  within = still_within _ _ _ c.loop-written.invariant.within c.in_ok-count.ensures.bound;
  prefix = more_written _ _ _ _ _ _ c.loop-written.invariant.prefix c.in_ok-count.ensures.bytes;
}
