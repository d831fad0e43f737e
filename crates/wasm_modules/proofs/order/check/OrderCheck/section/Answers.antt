use Rattle.wasm_modules.proofs.ModuleOrderLaws.{noted_ranked, noted_custom, out_of_order}
use Rattle.wasm_modules.proofs.order.check.OrderCheck.section.Goals as goal
use Rattle.wasm_modules.proofs.order.check.OrderCheck.section.Goals.{then-rank-ne0+else-rank-self, else-rank-ne0}

pub returns-then-rank-self-clause-why : goal.returns-then-rank-self-clause-why
returns-then-rank-self-clause-why c seen more next told at notes =
    out_of_order seen c.args.self.now next notes c.args.facts c.rank-rank.result c.args.index more told c.rank-rank.ensures at c.if-rank-ne0.true c.if-rank-self.true

pub returns-clause-ok : goal.returns-clause-ok
returns-clause-ok c seen next told notes =
    elim c.if-rank-ne0.branch [
      | then-rank-ne0+else-rank-self w ↦ rw (c.add.ensures, w.self-is) (noted_ranked seen c.args.self.now next notes c.args.facts c.rank-rank.result told c.rank-rank.ensures w.if-rank-ne0.true w.if-rank-self.false)
      | else-rank-ne0 w ↦ rw (c.add.ensures, w.self-is) (noted_custom seen c.args.self.now next notes c.args.facts c.rank-rank.result told c.rank-rank.ensures w.if-rank-ne0.false)
    ]
