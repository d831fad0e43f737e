use Rattle.nosgrivel_c.proofs.DeliveryLaws.{checks_normal}
use Rattle.nosgrivel_c.proofs.type_section.nosgrivel_check_type_section.Goals as goal

pub returns : goal.returns
returns c = record { checks = checks_normal _ _ _ c.args.input.now c.check_type_section.result c.args.count.now c.answer.new.count c.answer.result c.check_type_section.ensures.checks c.answer.ensures }
