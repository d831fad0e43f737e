use Rattle.std.proofs.Common.{[]}
use Rattle.wasm_modules.proofs.SelectionLaws.{minimal_left}
use Rattle.wasm_modules.proofs.selection.select_in_place.Goals as goal

pub returns-in-None-clause-ok : goal.returns-in-None-clause-ok
returns-in-None-clause-ok c =
    let none = rw c.in-None.is at c.select_slice-bytes.ensures.none in
    λ sections g. absurd (none sections g)

pub returns-in-None-clause-minimal : goal.returns-in-None-clause-minimal
returns-in-None-clause-minimal c =
    let none = rw c.in-None.is at c.select_slice-bytes.ensures.none in
    minimal_left c.args.selection c.args.bytes.now [] (λ sections g. absurd (none sections g))
