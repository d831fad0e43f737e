use Rattle.std.proofs.Common.{◌≡◌, ◌++◌, take}
use Rattle.wasm_instructions.specs.formats.Instructions.{Instructions, instructions_bytes}
use Rattle.wasm_instructions.proofs.calls.append_one_by_one.Given as goal

abbrev pub invariant-loop-call : goal.invariant-loop-call
invariant-loop-call g l = record {
  bytes : l.bytes.items ≡ l.fn.bytes.items ++ instructions_bytes (take l.call-index l.calls);
  encodes : Instructions (instructions_bytes (take l.call-index l.calls)) (take l.call-index l.calls);
}
