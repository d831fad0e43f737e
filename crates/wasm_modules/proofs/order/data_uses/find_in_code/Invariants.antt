use Rattle.wasm_modules.proofs.DataUseLaws.{Reading}
use Rattle.wasm_modules.proofs.order.data_uses.find_in_code.Given as goal

abbrev pub invariant-loop-index : goal.invariant-loop-index
invariant-loop-index l = record {
  reading : Reading l.fn.code.left l.code.left l.index;
}
