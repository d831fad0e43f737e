use Rattle.std.proofs.Common.{arith}
use Rattle.wasm_instructions.proofs.NameLaws.{none_named}
use Rattle.wasm_instructions.proofs.names.first_named.Goals as goal

pub returns-clause-none : goal.returns-clause-none
returns-clause-none c = λ none. none_named _ _ _ c.loop-prefix.prefix-index c.loop-prefix.invariant.same (omega (arith, c.loop-prefix-test.false)) c.loop-prefix.invariant.none
