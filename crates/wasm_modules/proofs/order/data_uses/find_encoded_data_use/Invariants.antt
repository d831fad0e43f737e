use Rattle.wasm_modules.proofs.DataUseLaws.{Searching}
use Rattle.wasm_modules.proofs.order.data_uses.find_encoded_data_use.Given as goal

abbrev pub invariant-loop-body : goal.invariant-loop-body
invariant-loop-body l = record {
  searching : Searching l.section l.cursor.left l.count l.body l.ahead;
}
