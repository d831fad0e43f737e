use Rattle.std.proofs.Common.{take}
use Rattle.wasm_modules.specs.ModuleOrder.{NameNoData}
use Rattle.wasm_modules.proofs.order.data_uses.find_data_use.Given as goal

abbrev pub invariant-loop-body : goal.invariant-loop-body
invariant-loop-body l = record {
  none : NameNoData (take l.body l.bodies);
}
