use Rattle.nosgrivel_c.proofs.DeliveryLaws.{writes_normal}
use Rattle.nosgrivel_c.proofs.canonical.nosgrivel_canonicalise.Goals as goal

pub returns : goal.returns
returns c = record { writes = writes_normal _ _ _ c.args.input.now c.normalise_whole_module.result c.args.output.now c.deliver.new.output c.args.count.now c.deliver.new.count c.deliver.result c.normalise_whole_module.ensures.normalises c.deliver.ensures }
