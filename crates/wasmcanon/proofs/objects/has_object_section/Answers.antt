use Rattle.std.proofs.Common.{◌<◌, length, arith}
use Rattle.std.proofs.lemmas.List.{nil_from_length}
use Rattle.wasm_code.specs.formats.Sections.{parts_of}
use Rattle.wasm_code.proofs.SectionWalks.{section_takes}
use Rattle.wasmcanon.specs.Objects.{HasNoObject}
use Rattle.wasmcanon.proofs.SectionSearches.{none_more, searched_on, object_found, searched_all, searched_nowhere}
use Rattle.wasmcanon.proofs.objects.has_object_section.Goals as goal

pub returns-in_default-clause-no : goal.returns-in_default-clause-no
returns-in_default-clause-no c =
    let some : 0 < length c.loop-cursor.cursor.left = omega (arith, c.loop-cursor-test.true, c.len.ensures) in
    λ e. searched_nowhere c.args.sections.now c.loop-cursor.cursor c.read_section.new.cursor HasNoObject c.in_default.field-0 c.loop-cursor.invariant.searched some c.in_default.ensures.reads c.in_default.ensures.err

pub returns-then-is_object_section-clause-yes : goal.returns-then-is_object_section-clause-yes
returns-then-is_object_section-clause-yes c =
    let some : 0 < length c.loop-cursor.cursor.left = omega (arith, c.loop-cursor-test.true, c.len.ensures) in
    λ e. object_found c.args.sections.now c.loop-cursor.cursor c.read_section.new.cursor (parts_of c.in-Ok.section) c.loop-cursor.invariant.searched some c.in-Ok.ensures.reads (c.is_object_section.ensures.yes c.if-is_object_section.true)

pub loop-cursor-smaller : goal.loop-cursor-smaller
loop-cursor-smaller c = omega (arith, section_takes c.loop-cursor.cursor c.read_section.new.cursor (parts_of c.in-Ok.section) c.are_bytes.ensures c.in-Ok.ensures.reads)

pub loop-cursor-preserved : goal.loop-cursor-preserved
loop-cursor-preserved c =
    let some : 0 < length c.loop-cursor.cursor.left = omega (arith, c.loop-cursor-test.true, c.len.ensures) in
    record { searched = searched_on c.args.sections.now c.loop-cursor.cursor c.read_section.new.cursor (parts_of c.in-Ok.section) c.loop-cursor.invariant.searched some c.in-Ok.ensures.reads (λ before none. none_more before (parts_of c.in-Ok.section) none (c.is_object_section.ensures.no c.if-is_object_section.false)) }

pub returns-clause-no : goal.returns-clause-no
returns-clause-no c = λ e. searched_all c.args.sections.now c.loop-cursor.cursor c.loop-cursor.invariant.searched (nil_from_length c.loop-cursor.cursor.left (omega (arith, c.loop-cursor-test.false, c.len.ensures)))
