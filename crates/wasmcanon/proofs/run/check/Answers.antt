use Rattle.std.proofs.Common.{List, ℕ, Ok, subst}
use Rattle.wasmcanon.specs.Run.{Accepts}
use Rattle.wasmcanon.proofs.ResultLaws.{accepts_known}
use Rattle.wasmcanon.proofs.run.check.Goals as goal

pub returns-clause-accepts : goal.returns-clause-accepts
returns-clause-accepts g c = accepts_known (g.R.Read.remaining c.args.reader.now) c.args.any_order c.in_ok-input.input.items (Ok tt) c.in_ok-input.ensures.all (subst (λ (b : List ℕ). Accepts c.args.any_order b (Ok tt)) c.deref.ensures.value c.in_ok-order.ensures.accepts)
