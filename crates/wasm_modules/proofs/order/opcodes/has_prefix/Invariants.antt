use Rattle.std.proofs.Common.{ℕ, ◌+◌, ◌-◌, ◌%◌, ◌<◌, ◌≤◌, get_or}
use Rattle.wasm_modules.proofs.order.opcodes.has_prefix.Given as goal

abbrev pub invariant-loop-byte : goal.invariant-loop-byte
invariant-loop-byte l = record {
  least : (k : ℕ) → k < l.byte-index → l.least ≤ (0xfc + 256 - get_or l.bytes k 0) % 256;
}
