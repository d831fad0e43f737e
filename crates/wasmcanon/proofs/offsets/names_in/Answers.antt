use Rattle.std.proofs.Common.{◌<◌, ◌∷◌, ◌++◌, [], length, ap, sym, subst, arith}
use Rattle.std.specs.Prelude.{string_bytes}
use Rattle.std.proofs.lemmas.List.{nil_from_length}
use Rattle.wasm_codec.specs.Places.{Place}
use Rattle.wasm_code.specs.formats.Sections.{parts_of}
use Rattle.wasm_code.proofs.SectionWalks.{section_takes}
use Rattle.wasm_modules.specs.Offsets.{IsNameOf}
use Rattle.wasmcanon.specs.StaleSections.{AreOffsetNames, IsStaleName, none}
use Rattle.wasmcanon.proofs.SectionSearches.{Searched, searched_none, searched_on, searched_all, searched_nowhere}
use Rattle.wasmcanon.proofs.StaleLaws.{more_named, more_other}
use Rattle.wasmcanon.proofs.offsets.names_in.Goals as goal

pub loop-cursor-init : goal.loop-cursor-init
loop-cursor-init c =
    let all = c.args.sections.now in
    let nothing : AreOffsetNames c.args.hints_moved [] c.new-names.result.items = subst (AreOffsetNames c.args.hints_moved []) (sym c.new-names.ensures.items) none in
    record { searched = λ sections g. subst (Searched (λ before. AreOffsetNames c.args.hints_moved before c.new-names.result.items) sections) (sym (ap (λ (place : Place). place.left) c.new-cursor.ensures)) (searched_none all nothing sections g) }

pub returns-in_default : goal.returns-in_default
returns-in_default c =
    let some : 0 < length c.loop-cursor.cursor.left = omega (arith, c.loop-cursor-test.true, c.len.ensures) in
    searched_nowhere c.args.sections.now c.loop-cursor.cursor c.read_section.new.cursor (λ sections. AreOffsetNames c.args.hints_moved sections c.loop-cursor.names.items) c.in_default.field-0 c.loop-cursor.invariant.searched some c.in_default.ensures.reads c.in_default.ensures.err

pub loop-cursor-smaller-in_ok-push : goal.loop-cursor-smaller-in_ok-push
loop-cursor-smaller-in_ok-push c = omega (arith, section_takes c.loop-cursor.cursor c.read_section.new.cursor (parts_of c.in-Ok.section) c.are_bytes.ensures c.in-Ok.ensures.reads)

pub loop-cursor-preserved-in_ok-push : goal.loop-cursor-preserved-in_ok-push
loop-cursor-preserved-in_ok-push c =
    let some : 0 < length c.loop-cursor.cursor.left = omega (arith, c.loop-cursor-test.true, c.len.ensures) in
    let section = parts_of c.in-Ok.section in
    let name = c.in_ok-from_str.field-0 in
    let is : IsNameOf section (string_bytes name) = subst (IsNameOf section) (sym c.in_ok-from_str.ensures.ok) c.in-Some.ensures.named in
    let keeps : IsStaleName c.args.hints_moved (string_bytes name) = subst (IsStaleName c.args.hints_moved) (sym c.in_ok-from_str.ensures.ok) c.in-Some.ensures.keeps in
    record { searched = searched_on c.args.sections.now c.loop-cursor.cursor c.read_section.new.cursor section c.loop-cursor.invariant.searched some c.in-Ok.ensures.reads (λ before all. subst (AreOffsetNames c.args.hints_moved (before ++ section ∷ [])) (sym c.in_ok-push.ensures.items) (more_named section name is keeps all)) }

pub loop-cursor-smaller : goal.loop-cursor-smaller
loop-cursor-smaller c = omega (arith, section_takes c.loop-cursor.cursor c.read_section.new.cursor (parts_of c.in-Ok.section) c.are_bytes.ensures c.in-Ok.ensures.reads)

pub loop-cursor-preserved : goal.loop-cursor-preserved
loop-cursor-preserved c =
    let some : 0 < length c.loop-cursor.cursor.left = omega (arith, c.loop-cursor-test.true, c.len.ensures) in
    let section = parts_of c.in-Ok.section in
    record { searched = searched_on c.args.sections.now c.loop-cursor.cursor c.read_section.new.cursor section c.loop-cursor.invariant.searched some c.in-Ok.ensures.reads (λ before all. more_other section c.in_default-offset_name.ensures.none all) }

pub returns : goal.returns
returns c = searched_all c.args.sections.now c.loop-cursor.cursor c.loop-cursor.invariant.searched (nil_from_length c.loop-cursor.cursor.left (omega (arith, c.loop-cursor-test.false, c.len.ensures)))
