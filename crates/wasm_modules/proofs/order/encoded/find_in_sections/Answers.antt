use Rattle.std.proofs.Common.{◌≡◌, ◌<◌, List, length, true, is_some, ◌∙◌, sym, ap, arith}
use Rattle.std.specs.Prelude.{IfNone}
use Rattle.std.proofs.lemmas.List.{nil_from_length}
use Rattle.wasm_codec.specs.Places.{Place}
use Rattle.wasm_code.specs.formats.Sections.{parts_of}
use Rattle.wasm_code.proofs.SectionWalks.{section_takes}
use Rattle.wasm_sections.specs.formats.ModuleSectionParts.{ModuleSectionParts}
use Rattle.wasm_modules.specs.ModuleOrder.{code_bodies, first_data_count, IsModule, OfSections, TellsDataUse}
use Rattle.wasm_modules.proofs.EncodedOrderLaws.{AllNoted, walked_none, walked_on, walked_wrong, walked_nowhere, walked_all, code_encoded}
use Rattle.wasm_modules.proofs.ModuleOrderLaws.{given, not_needed, code_needed, no_error, some_error}
use Rattle.wasm_modules.proofs.order.encoded.find_in_sections.Goals as goal
use Rattle.wasm_modules.proofs.order.encoded.find_in_sections.Goals.{then-needs_data_use+in_ok-data_use, else-needs_data_use}

pub loop-cursor-init : goal.loop-cursor-init
loop-cursor-init c = record {
  walked = rw (ap (λ (p : Place). p.left) c.new-cursor.ensures) (walked_none c.args.sections.now c.args.sections.now c.new-check.result c.new-check.ensures.bodies c.new-check.ensures.notes);
  few = omega (arith, ap (λ (p : Place). length p.left) c.new-cursor.ensures);
}

pub returns-in_default-clause-none : goal.returns-in_default-clause-none
returns-in_default-clause-none c =
    let some : 0 < length c.loop-cursor.cursor.left = omega (arith, c.loop-cursor-test.true, c.len.ensures) in
    walked_nowhere c.args.sections.now c.loop-cursor.code.now c.loop-cursor.cursor c.read_section.new.cursor c.loop-cursor.index c.loop-cursor.check IsModule c.in_default.field-0 c.loop-cursor.invariant.walked some c.in_default.ensures.reads c.in_default.ensures.err

pub returns-in-Err-clause-why : goal.returns-in-Err-clause-why
returns-in-Err-clause-why c =
    let some : 0 < length c.loop-cursor.cursor.left = omega (arith, c.loop-cursor-test.true, c.len.ensures) in
    walked_wrong c.args.sections.now c.loop-cursor.code.now c.loop-cursor.cursor c.read_section.new.cursor (parts_of c.in-Ok.section) c.loop-cursor.index c.loop-cursor.check c.loop-cursor.invariant.walked some c.in-Ok.ensures.reads c.facts_of.result c.in-Err.error c.facts_of.ensures c.in-Err.ensures.why

pub loop-cursor-smaller : goal.loop-cursor-smaller
loop-cursor-smaller c = omega (arith, section_takes c.loop-cursor.cursor c.read_section.new.cursor (parts_of c.in-Ok.section) c.are_bytes.ensures c.in-Ok.ensures.reads)

pub loop-cursor-preserved : goal.loop-cursor-preserved
loop-cursor-preserved c =
    let some : 0 < length c.loop-cursor.cursor.left = omega (arith, c.loop-cursor-test.true, c.len.ensures) in
    let takes = section_takes c.loop-cursor.cursor c.read_section.new.cursor (parts_of c.in-Ok.section) c.are_bytes.ensures c.in-Ok.ensures.reads in
    record {
      walked = rw c.first_code-code.ensures (walked_on c.args.sections.now c.loop-cursor.code.now c.loop-cursor.cursor c.read_section.new.cursor (parts_of c.in-Ok.section) c.loop-cursor.index c.loop-cursor.check c.loop-cursor.invariant.walked some c.in-Ok.ensures.reads c.section.new.self c.facts_of.result c.facts_of.ensures c.in_default-section.ensures.bodies c.in_default-section.ensures.ok);
      few = omega (arith, takes, c.loop-cursor.invariant.few);
    }

all_noted : (c : goal.After-err) → OfSections c.args.sections.now (λ sections. AllNoted sections c.loop-cursor.check c.loop-cursor.code.now)
all_noted c = walked_all c.args.sections.now c.loop-cursor.code.now c.loop-cursor.cursor c.loop-cursor.index c.loop-cursor.check c.loop-cursor.invariant.walked (nil_from_length c.loop-cursor.cursor.left (omega (arith, c.loop-cursor-test.false, c.len.ensures)))

-- the first instruction that names data is given where the check asks for it
uses_told : (c : goal.After-err) (sections : List ModuleSectionParts) → AllNoted sections c.loop-cursor.check c.loop-cursor.code.now → IfNone (first_data_count sections) (TellsDataUse (code_bodies sections) c.if-needs_data_use.data_use)
uses_told c sections all =
    elim c.if-needs_data_use.branch [
      | then-needs_data_use+in_ok-data_use w ↦
          let some : is_some c.loop-cursor.check.bodies ≡ true = code_needed c.loop-cursor.check (sym c.needs_data_use.ensures ∙ w.if-needs_data_use.true) in
          rw w.data_use-is (given sections c.loop-cursor.check all.notes w.in_ok-data_use.data_use (w.in_ok-data_use.ensures (code_bodies sections) (code_encoded sections c.loop-cursor.check.bodies c.loop-cursor.code.now all.code some)))
      | else-needs_data_use w ↦ rw w.data_use-is (not_needed sections c.loop-cursor.check all.notes (sym c.needs_data_use.ensures ∙ w.if-needs_data_use.false))
    ]

pub returns-clause-none : goal.returns-clause-none
returns-clause-none c = rw c.err.ensures.value (no_error c.finish.result c.finish.ensures.ok (λ follows sections g. let all = all_noted c sections g in follows sections all.notes (uses_told c sections all)))

pub returns-clause-why : goal.returns-clause-why
returns-clause-why c = rw c.err.ensures.value (some_error c.finish.result c.finish.ensures.why (λ error follows sections g. let all = all_noted c sections g in follows sections all.notes (uses_told c sections all)))
