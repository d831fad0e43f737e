use Rattle.wasm_modules.proofs.SkippingLaws.{types_pass}
use Rattle.wasm_modules.proofs.order.data_uses.skip_types.Goals as goal

pub returns : goal.returns
returns c = types_pass c.args.cursor.now c.skip_list.new.cursor c.skip_list.result c.skip_list.ensures
