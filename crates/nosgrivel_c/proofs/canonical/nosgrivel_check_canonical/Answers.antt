use Rattle.nosgrivel_c.proofs.DeliveryLaws.{checks_normal}
use Rattle.nosgrivel_c.proofs.canonical.nosgrivel_check_canonical.Goals as goal

pub returns : goal.returns
returns c = record { checks = checks_normal _ _ _ c.args.input.now c.check_whole_module.result c.args.count.now c.answer.new.count c.answer.result c.check_whole_module.ensures.checks c.answer.ensures }
