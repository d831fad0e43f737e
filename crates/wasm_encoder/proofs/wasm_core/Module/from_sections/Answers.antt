use Rattle.std.proofs.Common.{◌≡◌, ◌+◌, ◌++◌, ◌∷◌, [], take, sym, subst, ap, ◌∙◌, arith}
use Rattle.std.proofs.lemmas.List.{take_all, take_more}
use Rattle.std.proofs.lemmas.Result.{err_from_is_err_and}
use Rattle.wasm_encoder.proofs.BuiltModuleLaws.{HasSections, built, has_more, not_built, refused_at}
use Rattle.wasm_encoder.proofs.wasm_core.Module.from_sections.Goals as goal

pub returns-in_err-section : goal.returns-in_err-section
returns-in_err-section c =
    let p = err_from_is_err_and c.from_residual-in_err-section.result c.from_residual-in_err-section.ensures.1 in
    let item = c.section-item.result in
    rw (p.1, p.2) (record { builds = not_built c.args.sections.now c.in_err-section.field-0.0 (refused_at c.args.sections.now item c.in_err-section.field-0.0 (λ P h. (c.loop-section.section-index, item, c.loop-section-test.true, sym c.section-item.is, h)) c.in_err-section.ensures.appends.appended.refused) })

pub loop-section-preserved : goal.loop-section-preserved
loop-section-preserved c =
    let item = c.section-item.result in
    let before = take c.loop-section.section-index c.args.sections.now in
    let longer : take (c.loop-section.section-index + 1) c.args.sections.now ≡ before ++ item ∷ [] = take_more c.args.sections.now c.loop-section.section-index item c.loop-section-test.true ∙ ap (λ e. before ++ e ∷ []) (sym c.section-item.is) in
    let one = c.in_ok-section.ensures.appends.appended in
    subst (λ l. HasSections l c.section.new.self) (sym longer) (has_more before item c.loop-section.module c.section.new.self c.loop-section.invariant one.ok one.can one.written)

pub returns : goal.returns
returns c =
    let whole : take c.loop-section.section-index c.args.sections.now ≡ c.args.sections.now = take_all c.loop-section.section-index c.args.sections.now (omega arith) in
    record { builds = built c.args.sections.now c.loop-section.module (subst (λ l. HasSections l c.loop-section.module) whole c.loop-section.invariant) }
