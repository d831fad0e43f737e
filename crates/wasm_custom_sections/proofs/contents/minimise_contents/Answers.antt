use Rattle.wasm_custom_sections.proofs.contents.minimise_contents.Goals as goal

pub returns-in-None-clause-ok : goal.returns-in-None-clause-ok
returns-in-None-clause-ok c =
    let none = rw (c.in_ok-found.was, c.in-None.is) at c.minimise_slice-bytes.ensures.none in
    λ sections g. absurd (none sections g)
