use Rattle.std.proofs.Common.{◌≡◌, ℕ, List, rules, subst}
use Rattle.std.specs.Prelude.{codes}
use Rattle.wasm_sections.specs.formats.Sections.{custom_body}
use Rattle.wasm_custom_sections.specs.NamedSections.{named}
use Rattle.wasm_custom_sections.proofs.moved_hints.hint_bytes.Goals as goal

pub returns-then-eq-clause-some : goal.returns-then-eq-clause-some
returns-then-eq-clause-some c =
    let same : c.in-Ok.custom.name.now ≡ codes "metadata.code.branch_hint" = search rules in
    (c.if-section-ne0.false, subst (λ (text : List ℕ). custom_body.Encodes c.args.section.body.now (named text c.in-Ok.custom.bytes.now)) same c.in-Ok.ensures.decodes.given)
