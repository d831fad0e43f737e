use Rattle.std.proofs.Common.{length, ◌-◌, ◌≤◌}
use Rattle.wasm_modules.specs.DataOpcodes.{ClearWithin}
use Rattle.wasm_modules.proofs.order.opcodes.len_from_data_opcode.Given as goal

abbrev pub invariant-loop-at : goal.invariant-loop-at
invariant-loop-at l = record {
  within : l.at ≤ length l.bytes;
  clear : ClearWithin l.bytes 0 l.at;
}

abbrev pub decreases-loop-at : goal.decreases-loop-at
decreases-loop-at l = length l.bytes - l.at
