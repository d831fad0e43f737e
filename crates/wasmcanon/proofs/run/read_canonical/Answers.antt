use Rattle.std.proofs.Common.{List, ℕ}
use Rattle.wasmcanon.specs.Run.{HasCode, TellsMoved}
use Rattle.wasmcanon.proofs.StaleLaws.{of_known}
use Rattle.wasmcanon.proofs.run.read_canonical.Goals as goal

pub returns-clause-code : goal.returns-clause-code
returns-clause-code g c = of_known (g.R.Read.remaining c.args.reader.now) (λ (input : List ℕ). HasCode input c.in_ok-canonical.canonical.code) c.in_ok-input.input.items c.in_ok-input.ensures.all c.in_ok-canonical.ensures.code

pub returns-clause-moved : goal.returns-clause-moved
returns-clause-moved g c = of_known (g.R.Read.remaining c.args.reader.now) (λ (input : List ℕ). TellsMoved c.in_ok-canonical.canonical.has_moved input c.in_ok-canonical.canonical.bytes.items) c.in_ok-input.input.items c.in_ok-input.ensures.all c.in_ok-canonical.ensures.moved
