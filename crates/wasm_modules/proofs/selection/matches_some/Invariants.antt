use Rattle.std.proofs.Common.{drop}
use Rattle.wasm_modules.specs.Selections.{MatchesSome}
use Rattle.wasm_modules.proofs.selection.matches_some.Given as goal

abbrev pub invariant-loop-pattern : goal.invariant-loop-pattern
invariant-loop-pattern l = record {
  back : MatchesSome (drop l.pattern-index l.patterns) l.name → MatchesSome l.patterns l.name;
  only : MatchesSome l.patterns l.name → MatchesSome (drop l.pattern-index l.patterns) l.name;
}
