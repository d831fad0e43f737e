use Rattle.std.proofs.Common.{◌≡◌, ◌-◌, length}
use Rattle.wasm_codec.specs.Scanning.{BeginsShort}
use Rattle.wasm_lists.proofs.rewriting.rare_run.Given as goal

abbrev pub invariant-loop-run : goal.invariant-loop-run
invariant-loop-run g l = record {
  begins : BeginsShort g.T.Rewritable.format l.bytes l.run;
  never : g.T.Joinable.NeverScans → l.run ≡ 0;
}

abbrev pub decreases-loop-run : goal.decreases-loop-run
decreases-loop-run g l = length l.bytes - l.run
