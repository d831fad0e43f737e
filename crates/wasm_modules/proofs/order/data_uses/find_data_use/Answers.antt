use Rattle.std.proofs.Common.{◌≡◌, None, sym, ◌∙◌}
use Rattle.wasm_modules.specs.ModuleOrder.{first_data_use}
use Rattle.wasm_modules.proofs.ModuleOrderLaws.{all_more, all_items}
use Rattle.wasm_modules.proofs.order.data_uses.find_data_use.Goals as goal

pub loop-body-preserved : goal.loop-body-preserved
loop-body-preserved c = record { none = all_more (λ body. first_data_use body ≡ None) c.args.bodies.now c.loop-body.body c.index-bodies-body.result c.loop-body-test.true c.index-bodies-body.is c.loop-body.invariant.none (sym c.first_data_use.ensures ∙ c.in_default.is) }

pub returns : goal.returns
returns c = all_items (λ body. first_data_use body ≡ None) c.args.bodies.now c.loop-body.body c.loop-body-test.false c.loop-body.invariant.none
