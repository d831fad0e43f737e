use Rattle.wasmnorm.proofs.StreamLaws.{more_read}
use Rattle.wasmnorm.proofs.streams.read_all.Goals as goal

pub loop-preserved : goal.loop-preserved
loop-preserved g c = record {
  within = c.in_ok-count.ensures.fits;
  prefix = more_read _ _ _ _ _ _ _ c.in_ok-count.ensures.front c.loop.invariant.prefix c.in_ok-count.ensures.read;
}
