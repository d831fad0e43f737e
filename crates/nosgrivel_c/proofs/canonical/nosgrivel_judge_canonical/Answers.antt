use Rattle.nosgrivel_c.proofs.DeliveryLaws.{judges_normal}
use Rattle.nosgrivel_c.proofs.canonical.nosgrivel_judge_canonical.Goals as goal

pub returns : goal.returns
returns c = record { judges = judges_normal _ _ _ c.args.input.now c.normalise_whole_module.result c.args.count.now c.judge.new.count c.judge.result c.normalise_whole_module.ensures.normalises c.judge.ensures }
