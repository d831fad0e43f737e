use Rattle.wasm_modules.specs.DataOpcodes.{ClearWithin}
use Rattle.wasm_modules.proofs.order.opcodes.find_between.Given as goal

abbrev pub invariant-loop-at : goal.invariant-loop-at
invariant-loop-at l = record {
  clear : ClearWithin l.bytes l.fn.from l.at;
}
