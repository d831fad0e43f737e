use Rattle.std.proofs.Common.{◌+◌, ◌∙◌, sym, subst, take, drop, List, arith}
use Rattle.std.specs.Prelude.{IfNone}
use Rattle.std.proofs.lemmas.Result.{err_from_is_err_and}
use Rattle.wasm_sections.specs.formats.ModuleSectionParts.{ModuleSectionParts, module_section_parts, all_module_section_parts}
use Rattle.wasm_modules.specs.ModuleOrder.{code_bodies, first_data_count, Notes, TellsDataUse, IsWhyNot}
use Rattle.wasm_modules.proofs.ModuleOrderLaws.{next_taken, all_taken, taken_apart, taken_length, given, not_needed, on_ok, if_err}
use Rattle.wasm_modules.proofs.order.check_order.Goals as goal
use Rattle.wasm_modules.proofs.order.check_order.Goals.{then-needs_data_use, else-needs_data_use}

pub returns-in_err-section-clause-why : goal.returns-in_err-section-clause-why
returns-in_err-section-clause-why c =
    let p = err_from_is_err_and c.from_residual.result c.from_residual.ensures.1 in
    let all = all_module_section_parts c.args.sections.now in
    let section = module_section_parts c.index-sections-index.result in
    let apart = taken_apart module_section_parts c.args.sections.now c.loop-index.index c.index-sections-index.result c.loop-index-test.true c.index-sections-index.is in
    let at = taken_length module_section_parts c.args.sections.now c.loop-index.index (omega arith) in
    rw (p.1, p.2) (subst (λ (l : List ModuleSectionParts). IsWhyNot l c.in_err-section.field-0.0) (sym apart) (c.in_err-section.ensures.why (take c.loop-index.index all) (drop (c.loop-index.index + 1) all) section c.facts_of.ensures at c.loop-index.invariant.notes))

pub loop-index-preserved : goal.loop-index-preserved
loop-index-preserved c =
    let all = all_module_section_parts c.args.sections.now in
    let section = module_section_parts c.index-sections-index.result in
    let next = next_taken module_section_parts c.args.sections.now c.loop-index.index c.index-sections-index.result c.loop-index-test.true c.index-sections-index.is in
    record { notes = subst (λ (l : List ModuleSectionParts). Notes l c.section.new.self) (sym next) (c.in_ok-section.ensures.ok (take c.loop-index.index all) section c.facts_of.ensures c.loop-index.invariant.notes) }

all_noted : (c : goal.After-finish) → Notes (all_module_section_parts c.args.sections.now) c.loop-index.check
all_noted c = subst (λ (l : List ModuleSectionParts). Notes l c.loop-index.check) (all_taken module_section_parts c.args.sections.now c.loop-index.index c.loop-index-test.false) c.loop-index.invariant.notes

-- the first instruction that names data is given where the check asks for it
uses_told : (c : goal.After-finish) → IfNone (first_data_count (all_module_section_parts c.args.sections.now)) (TellsDataUse (code_bodies (all_module_section_parts c.args.sections.now)) c.if-needs_data_use.data_use)
uses_told c =
    let all = all_module_section_parts c.args.sections.now in
    elim c.if-needs_data_use.branch [
      | then-needs_data_use w ↦ rw w.data_use-is (given all c.loop-index.check (all_noted c) w.find_data_use-data_use.result (rw w.find_code_bodies.ensures at w.find_data_use-data_use.ensures))
      | else-needs_data_use w ↦ rw w.data_use-is (not_needed all c.loop-index.check (all_noted c) (sym c.needs_data_use.ensures ∙ w.if-needs_data_use.false))
    ]

pub returns-clause-ok : goal.returns-clause-ok
returns-clause-ok c = on_ok c.finish.result c.finish.ensures.ok (λ follows. follows (all_module_section_parts c.args.sections.now) (all_noted c) (uses_told c))

pub returns-clause-why : goal.returns-clause-why
returns-clause-why c = if_err c.finish.result c.finish.ensures.why (λ error follows. follows (all_module_section_parts c.args.sections.now) (all_noted c) (uses_told c))
