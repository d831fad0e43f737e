use Rattle.std.proofs.Common.{take, drop}
use Rattle.wasm_types.proofs.ScannedTypes.{AreWhole}
use Rattle.wasm_types.proofs.types.function.scan_result_type.Given as goal

abbrev pub invariant-loop-index : goal.invariant-loop-index
invariant-loop-index l = AreWhole (take l.index (drop 1 l.bytes))
