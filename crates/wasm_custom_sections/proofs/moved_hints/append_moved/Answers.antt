use Rattle.std.proofs.Common.{subst, sym}
use Rattle.wasm_code.specs.formats.Sections.{parts_of}
use Rattle.wasm_custom_sections.specs.MovedFunctions.{all_bodies}
use Rattle.wasm_custom_sections.specs.MovedHints.{MovesContents}
use Rattle.wasm_custom_sections.proofs.MovedModuleLaws.{cant_fit, cant_move, cant_stay, moves_if_done}
use Rattle.wasm_custom_sections.proofs.moved_hints.append_moved.Goals as goal

pub returns-clause-moved : goal.returns-clause-moved
returns-clause-moved c =
    let bodies = all_bodies c.args.bodies.now in
    let moves = rw c.in-Some-2.is at c.in_ok-moved.ensures.moves in
    let moved = subst (MovesContents c.args.imported bodies c.in-Some.contents.now) (sym c.as_slice.ensures.value) moves in
    moves_if_done c.done-2.result c.append_section-2.result c.args.imported bodies (parts_of c.args.section) c.in-Some.contents.now c.as_slice.result.now c.args.sink.now.items c.append_section-2.new.dst.items c.done-2.ensures.done c.in-Some.ensures.some moved c.append_section-2.ensures.ok c.append_section-2.ensures.can c.append_section-2.ensures.written

pub returns-in_default-clause-none : goal.returns-in_default-clause-none
returns-in_default-clause-none c = cant_stay c.done.result c.append_section.result c.args.section c.args.imported (all_bodies c.args.bodies.now) c.done.ensures.too_long (rw c.in_default.is at c.hint_bytes.ensures.none) c.append_section.ensures.refused

pub returns-in_default-2-clause-none : goal.returns-in_default-2-clause-none
returns-in_default-2-clause-none c = λ e. cant_move c.args.imported (all_bodies c.args.bodies.now) (parts_of c.args.section) c.in-Some.contents.now c.in-Some.ensures.some (rw c.in_default-2.is at c.in_ok-moved.ensures.none)

pub returns-clause-none : goal.returns-clause-none
returns-clause-none c =
    let bodies = all_bodies c.args.bodies.now in
    let moves = rw c.in-Some-2.is at c.in_ok-moved.ensures.moves in
    let moved = subst (MovesContents c.args.imported bodies c.in-Some.contents.now) (sym c.as_slice.ensures.value) moves in
    cant_fit c.done-2.result c.append_section-2.result c.args.imported bodies (parts_of c.args.section) c.in-Some.contents.now c.as_slice.result.now c.done-2.ensures.too_long c.in-Some.ensures.some moved c.append_section-2.ensures.refused
