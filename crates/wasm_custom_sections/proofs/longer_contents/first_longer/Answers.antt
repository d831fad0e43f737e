use Rattle.std.proofs.Common.{rules, ◌+◌, ◌-◌, ◌<◌, ◌≡◌, ℕ, Option, length, length-append, ap, sym, subst, arith}
use Rattle.std.specs.Prelude.{IfSome}
use Rattle.std.proofs.lemmas.List.{nil_from_length}
use Rattle.wasm_codec.specs.Places.{Place}
use Rattle.wasm_codec.specs.declared.reader.refusal.Refusal.{Refusal}
use Rattle.wasm_code.specs.formats.Sections.{parts_of}
use Rattle.wasm_code.proofs.SectionWalks.{section_takes}
use Rattle.wasm_custom_sections.specs.LongerContents.{IsLongerInside, IsMinimalInside}
use Rattle.wasm_custom_sections.proofs.LongerWalk.{Walked, walked_none, walked_on, walked_all, walked_nowhere, first_there}
use Rattle.wasm_custom_sections.proofs.longer_contents.first_longer.Goals as goal

pub loop-cursor-init : goal.loop-cursor-init
loop-cursor-init c = record { walked = subst (Walked c.args.sections.now) (sym (ap (λ (place : Place). place.left) c.new-cursor.ensures)) (walked_none c.args.sections.now) }

pub returns-in_default-clause-none : goal.returns-in_default-clause-none
returns-in_default-clause-none c =
    let some : 0 < length c.loop-cursor.cursor.left = omega (arith, c.loop-cursor-test.true, c.len.ensures) in
    walked_nowhere c.args.sections.now c.loop-cursor.cursor c.read_section.new.cursor c.in_default.field-0 c.loop-cursor.invariant.walked some c.in_default.ensures.reads c.in_default.ensures.err

pub overflow_sub-end : goal.overflow_sub-end
overflow_sub-end c =
    let w = c.loop-cursor.invariant.walked in
    let fewer = section_takes c.loop-cursor.cursor c.read_section.new.cursor (parts_of c.in-Ok.section) c.are_bytes.ensures c.in-Ok.ensures.reads in
    omega (arith, c.len-in-Some.ensures, fewer, ap (length {A = ℕ}) w.parts, length-append w.front c.loop-cursor.cursor.left)

pub returns-in-Some-clause-some : goal.returns-in-Some-clause-some
returns-in-Some-clause-some c =
    let w = c.loop-cursor.invariant.walked in
    let bytes = c.args.sections.now in
    let here = c.loop-cursor.cursor in
    let s = parts_of c.in-Ok.section in
    let some : 0 < length here.left = omega (arith, c.loop-cursor-test.true, c.len.ensures) in
    let at_is : (length bytes - c.len-in-loop-cursor.result) + length here.left ≡ length bytes = omega (arith, c.len-in-loop-cursor.ensures, ap (length {A = ℕ}) w.parts, length-append w.front here.left) in
    let longer = subst (λ (found : Option Refusal). IfSome found (λ _. IsLongerInside s)) c.in-Some.is c.in_ok-longer.ensures.some in
    first_there bytes here c.read_section.new.cursor s c.are_bytes.ensures some w c.in-Ok.ensures.reads (length bytes - c.len-in-loop-cursor.result) at_is longer

pub loop-cursor-smaller : goal.loop-cursor-smaller
loop-cursor-smaller c = omega (arith, section_takes c.loop-cursor.cursor c.read_section.new.cursor (parts_of c.in-Ok.section) c.are_bytes.ensures c.in-Ok.ensures.reads)

pub loop-cursor-preserved : goal.loop-cursor-preserved
loop-cursor-preserved c =
    let here = c.loop-cursor.cursor in
    let s = parts_of c.in-Ok.section in
    let some : 0 < length here.left = omega (arith, c.loop-cursor-test.true, c.len.ensures) in
    let minimal : IsMinimalInside s = search (rules, c.in_default-2.is, c.in_default-2.not-Some, c.in_ok-longer.ensures.none) in
    record { walked = walked_on c.args.sections.now here c.read_section.new.cursor s c.are_bytes.ensures some c.loop-cursor.invariant.walked c.in-Ok.ensures.reads minimal }

pub returns-clause-none : goal.returns-clause-none
returns-clause-none c = walked_all c.args.sections.now c.loop-cursor.cursor.left c.loop-cursor.invariant.walked (nil_from_length c.loop-cursor.cursor.left (omega (arith, c.loop-cursor-test.false, c.len.ensures)))
