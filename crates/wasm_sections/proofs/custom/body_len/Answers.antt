use Rattle.std.proofs.Common.{◌≡◌, length, arith}
use Rattle.wasm_sections.specs.formats.EntryParts.{custom_parts}
use Rattle.wasm_sections.proofs.CustomLaws.{body_counted}
use Rattle.wasm_sections.proofs.custom.body_len.Goals as goal

pub returns-clause-ok : goal.returns-clause-ok
returns-clause-ok c =
    let same : c.in-Ok.name_len ≡ length c.args.section.now.name.now = omega (arith, c.in-Ok.ensures) in
    rw (c.u32_len.ensures.value, same) (body_counted (custom_parts c.args.section.now))
