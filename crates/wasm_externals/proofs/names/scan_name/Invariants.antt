use Rattle.std.proofs.Common.{take, drop}
use Rattle.wasm_instructions.proofs.ScannedPrefixed.{AreOnes}
use Rattle.wasm_externals.proofs.names.scan_name.Given as goal

abbrev pub invariant-loop-index : goal.invariant-loop-index
invariant-loop-index l = AreOnes (take l.index (drop 1 l.bytes))
