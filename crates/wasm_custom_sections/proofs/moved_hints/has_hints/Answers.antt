use Rattle.std.proofs.Common.{◌∙◌, [], sym}
use Rattle.wasm_code.specs.declared.section.RawSection.{RawSection}
use Rattle.wasm_custom_sections.proofs.MovedModuleLaws.{has_hints}
use Rattle.wasm_custom_sections.proofs.moved_hints.has_hints.Goals as goal

pub returns-then-is_some-clause-yes : goal.returns-then-is_some-clause-yes
returns-then-is_some-clause-yes c = λ e.
    let d : RawSection = record { id = 0; body = record { ref_ptr = (0, 0); now = [] } } in
    has_hints (λ contents. contents.now) c.hint_bytes.result c.args.sections.now c.loop-section.section-index d c.loop-section-test.true (sym c.is_some.ensures ∙ c.if-is_some.true) c.hint_bytes.ensures.some
