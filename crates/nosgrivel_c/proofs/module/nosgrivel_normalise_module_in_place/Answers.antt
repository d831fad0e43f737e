use Rattle.nosgrivel_c.proofs.DeliveryLaws.{writes_in_place}
use Rattle.nosgrivel_c.proofs.module.nosgrivel_normalise_module_in_place.Goals as goal

pub returns : goal.returns
returns c = record { writes = writes_in_place _ _ _ c.args.bytes.now c.normalise_module-normal.result c.deliver.new.output c.args.count.now c.deliver.new.count c.deliver.result c.normalise_module-normal.ensures.normalises c.deliver.ensures }
