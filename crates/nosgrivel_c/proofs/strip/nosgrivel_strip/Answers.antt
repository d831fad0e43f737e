use Rattle.nosgrivel_c.proofs.StripLaws.{writes_stripped}
use Rattle.nosgrivel_c.proofs.strip.nosgrivel_strip.Goals as goal

pub returns : goal.returns
returns c =
    let dropped = c.in-Ok.ensures.cases in
    let kept = c.in-Ok-from_utf8.ensures.cases in
    record { writes = writes_stripped c.strip.result c.args.input.now c.args.dropped.now c.args.kept.now c.args.output.now c.deliver.new.output c.args.count.now c.deliver.new.count c.deliver.result (dropped.1, kept.1) (rw (← dropped.0, ← kept.0) c.strip.ensures.given) c.strip.ensures.prefix c.strip.ensures.unencoded c.deliver.ensures }
