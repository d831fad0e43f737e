use Rattle.nosgrivel_c.proofs.DeliveryLaws.{writes_in_place}
use Rattle.nosgrivel_c.proofs.canonical.nosgrivel_canonicalise_in_place.Goals as goal

pub returns : goal.returns
returns c = record { writes = writes_in_place _ _ _ c.args.bytes.now c.normalise_whole_module-canonical.result c.deliver.new.output c.args.count.now c.deliver.new.count c.deliver.result c.normalise_whole_module-canonical.ensures.normalises c.deliver.ensures }
