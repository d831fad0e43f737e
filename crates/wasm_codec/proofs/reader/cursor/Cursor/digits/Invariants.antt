use Rattle.wasm_codec.proofs.DigitSteps.{DigitsSoFar}
use Rattle.wasm_codec.proofs.reader.cursor.Cursor.digits.Given as goal

abbrev pub invariant-loop : goal.invariant-loop
invariant-loop l = DigitsSoFar l.most l.fn.self l.self l.counter l.unsigned l.unit
