use Rattle.std.proofs.Common.{◌≡◌, ◌∙◌, ℕ, List, [], get_or, subst, sym, take, arith}
use Rattle.std.proofs.lemmas.List.{length-map, take_all}
use Rattle.wasm_codec.specs.formats.Bodies.{byte_list}
use Rattle.wasm_codec.specs.formats.Combinators.{items}
use Rattle.wasm_code.specs.declared.section.RawSection.{RawSection}
use Rattle.wasm_code.specs.formats.Modules.{raw_module}
use Rattle.wasm_code.specs.formats.Sections.{all_parts_of, parts_of}
use Rattle.wasm_custom_sections.specs.MovedFunctions.{HasFronts, all_bodies, bytes_of_body}
use Rattle.wasm_custom_sections.specs.MovedHints.{AppendsMoved, CantMove, MovesSoFar}
use Rattle.wasm_custom_sections.specs.declared.moved_hints.functions.BodyBytes.{BodyBytes}
use Rattle.wasm_custom_sections.proofs.MovedFunctionLaws.{known_back, known_none}
use Rattle.wasm_custom_sections.proofs.MovedModuleLaws.{hints_moved, moving_none, moving_on, no_bodies, no_module, no_section, stays_minimal}
use Rattle.wasm_custom_sections.proofs.moved_hints.HintedCode.move_hints.Goals as goal

pub loop-section-init : goal.loop-section-init
loop-section-init c = record {
  known = known_none (all_bodies c.in-Ok-read_list_to_end.bodies.items) c.in_ok-known.known.items c.len.result c.in_ok-known.ensures (omega (arith, c.len.ensures, c.in-Ok-read_list_to_end.bodies.ok, length-map c.in-Ok-read_list_to_end.bodies.items bytes_of_body));
  moves = moving_none c.args.self.now.imported_functions (all_bodies c.in-Ok-read_list_to_end.bodies.items) c.in_ok-moved.moved.items c.in_ok-moved.ensures.items;
}

pub loop-section-preserved : goal.loop-section-preserved
loop-section-preserved c =
    let imported = c.args.self.now.imported_functions in
    let sections = c.deref-section-items.result.now in
    let i = c.loop-section.section-index in
    let d : RawSection = record { id = 0; body = record { ref_ptr = (0, 0); now = [] } } in
    let old = c.loop-section.moved.items in
    let new = c.append_moved.new.sink.items in
    let one = subst (λ (bodies : List BodyBytes). AppendsMoved imported (all_bodies bodies) (parts_of (get_or sections i d)) old new) c.as_slice-in-loop-section.ensures.value (c.in_ok-append_moved.ensures.moved c.if-not-branch.false) in
    record {
      known = known_back (all_bodies c.in-Ok-read_list_to_end.bodies.items) c.loop-section.known.items c.append_moved.new.known c.loop-section.known.len (omega (arith, c.loop-section.known.ok)) c.loop-section.invariant.known (subst (λ (b : List BodyBytes). HasFronts (all_bodies b) c.append_moved.new.known) c.as_slice-in-loop-section.ensures.value c.append_moved.ensures.known);
      moves = moving_on imported (all_bodies c.in-Ok-read_list_to_end.bodies.items) sections i d old new c.loop-section-test.true c.loop-section.invariant.moves one;
    }

pub returns-clause-minimal : goal.returns-clause-minimal
returns-clause-minimal c =
    let imported = c.args.self.now.imported_functions in
    let bodies = all_bodies c.in-Ok-read_list_to_end.bodies.items in
    let sections = c.in-Ok.sections.items in
    let all : take c.loop-section.section-index c.deref-section-items.result.now ≡ sections = take_all c.loop-section.section-index c.deref-section-items.result.now c.loop-section-test.false ∙ c.deref-section-items.ensures.value in
    let so_far = subst (λ (l : List RawSection). MovesSoFar imported bodies (all_parts_of l) c.loop-section.moved.items) all c.loop-section.invariant.moves in
    stays_minimal imported bodies (all_parts_of sections) c.args.module.now c.loop-section.moved.items c.in-Ok.ensures.decodes.given so_far

pub returns-clause-moves : goal.returns-clause-moves
returns-clause-moves c =
    let imported = c.args.self.now.imported_functions in
    let bodies = all_bodies c.in-Ok-read_list_to_end.bodies.items in
    let sections = c.in-Ok.sections.items in
    let all : take c.loop-section.section-index c.deref-section-items.result.now ≡ sections = take_all c.loop-section.section-index c.deref-section-items.result.now c.loop-section-test.false ∙ c.deref-section-items.ensures.value in
    let so_far = subst (λ (l : List RawSection). MovesSoFar imported bodies (all_parts_of l) c.loop-section.moved.items) all c.loop-section.invariant.moves in
    let are = subst (λ (b : List ℕ). (items byte_list).Encodes b bodies) c.as_slice.ensures.value c.in-Ok-read_list_to_end.ensures.given in
    hints_moved c.args.self.now bodies (all_parts_of sections) c.args.module.now c.loop-section.moved.items are c.in-Ok.ensures.decodes.given so_far

pub returns-in-Err-Refused-clause-none : goal.returns-in-Err-Refused-clause-none
returns-in-Err-Refused-clause-none c = no_module c.args.self.now c.args.module.now (rw c.in-Err-Refused.field-0-is at c.in-Err-Refused.ensures.decodes.unencoded)

pub returns-in-Err-Malformed-clause-none : goal.returns-in-Err-Malformed-clause-none
returns-in-Err-Malformed-clause-none c =
    let missing = rw c.in-Err-Malformed.field-0-is at c.in-Err-Malformed.ensures.unencoded in
    no_bodies c.args.self.now c.args.module.now (subst (λ (b : List ℕ). (bodies : List (List ℕ)) → (items byte_list).Encodes b bodies → ⊥) c.as_slice.ensures.value missing)

pub returns-then-not-branch-clause-none : goal.returns-then-not-branch-clause-none
returns-then-not-branch-clause-none c =
    let imported = c.args.self.now.imported_functions in
    let bodies = all_bodies c.in-Ok-read_list_to_end.bodies.items in
    let sections = c.deref-section-items.result.now in
    let d : RawSection = record { id = 0; body = record { ref_ptr = (0, 0); now = [] } } in
    let i = c.loop-section.section-index in
    let are = subst (λ (b : List ℕ). (items byte_list).Encodes b bodies) c.as_slice.ensures.value c.in-Ok-read_list_to_end.ensures.given in
    let encodes = subst (λ (l : List RawSection). raw_module.Encodes c.args.module.now (all_parts_of l)) (sym c.deref-section-items.ensures.value) c.in-Ok.ensures.decodes.given in
    let missing = subst (λ (b : List BodyBytes). CantMove imported (all_bodies b) (parts_of (get_or sections i d))) c.as_slice-in-loop-section.ensures.value (c.in_ok-append_moved.ensures.none c.if-not-branch.true) in
    no_section c.args.self.now bodies sections c.args.module.now i d are encodes c.loop-section-test.true missing
