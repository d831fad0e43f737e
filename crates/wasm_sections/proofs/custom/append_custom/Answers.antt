use Rattle.std.proofs.Common.{◌∙◌}
use Rattle.wasm_codec.proofs.AppendLaws.{appended}
use Rattle.wasm_sections.proofs.custom.append_custom.Goals as goal

pub returns : goal.returns
returns g c =
    let front = c.in_ok-append_front.ensures in
    appended (c.in_ok-extend_from_slice.ensures.items ∙ front.ok) front.can (front.minimal, front.whole)
