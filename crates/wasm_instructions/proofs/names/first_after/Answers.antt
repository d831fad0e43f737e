use Rattle.std.proofs.Common.{arith}
use Rattle.wasm_instructions.proofs.NameLaws.{none_after}
use Rattle.wasm_instructions.proofs.names.first_after.Goals as goal

pub returns-clause-none : goal.returns-clause-none
returns-clause-none c = λ none. none_after _ _ _ c.loop-number.number (omega (arith, c.loop-number-test.false)) c.loop-number.invariant.none
