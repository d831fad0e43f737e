use Rattle.std.proofs.Common.{rules, ◌≡◌}
use Rattle.wasm_custom_sections.proofs.LongerLaws.{contents_differ}
use Rattle.wasm_custom_sections.proofs.longer_contents.find_longer_contents.Goals as goal

pub returns-clause-some : goal.returns-clause-some
returns-clause-some c =
    let differs : c.in_ok-minimal.minimal.items ≡ c.args.module.now → ⊥ = search (rules, c.eq.ensures, c.if-eq.false, c.as_slice.ensures.value) in
    contents_differ c.args.module.now c.in_ok-from_slice.field-0.items c.in_ok-minimal.minimal.items c.in_ok-from_slice.ensures.items c.in_ok-minimal.ensures.ok differs
