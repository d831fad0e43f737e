use Rattle.std.proofs.Common.{◌-◌, length}
use Rattle.wasm_codec.specs.Scanning.{BeginsShort}
use Rattle.wasm_lists.proofs.rewriting.begins_run.Given as goal

abbrev pub invariant-loop-run : goal.invariant-loop-run
invariant-loop-run g l = BeginsShort g.T.Rewritable.format l.bytes l.run

abbrev pub decreases-loop-run : goal.decreases-loop-run
decreases-loop-run g l = length l.bytes - l.run
