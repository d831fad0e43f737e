use Rattle.wasmcanon.proofs.StaleLaws.{hints_stay}
use Rattle.wasmcanon.proofs.hints.with_hints.Goals as goal

pub returns-in_default-2-clause-hints : goal.returns-in_default-2-clause-hints
returns-in_default-2-clause-hints c =
    let form = c.args.canonical in
    let missing = rw c.in_default-2.is at c.in_ok-moved.ensures.none in
    hints_stay c.unmoved-in_default-2.result.are_moved form.has_moved form.code c.in-Some.code form.bytes.items c.unmoved-in_default-2.result.bytes.items c.deref.result.now c.unmoved-in_default-2.ensures.unmoved c.unmoved-in_default-2.ensures.bytes c.in-Some.is c.deref.ensures.value missing
