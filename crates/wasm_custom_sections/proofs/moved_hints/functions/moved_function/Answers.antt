use Rattle.std.proofs.Common.{◌≡◌, ℕ, List, [], Some, get_or, refl, rules, arith}
use Rattle.std.specs.Prelude.{slice_get}
use Rattle.wasm_custom_sections.specs.MovedFunctions.{all_bodies, bytes_of_body}
use Rattle.wasm_custom_sections.specs.declared.moved_hints.functions.BodyBytes.{BodyBytes}
use Rattle.wasm_custom_sections.proofs.MovedFunctionLaws.{KnownAt, body_there, known_at, known_set, no_hints}
use Rattle.wasm_custom_sections.proofs.moved_hints.functions.moved_function.Goals as goal

abbrev no_body : BodyBytes
no_body = record { bytes = record { ref_ptr = (0, 0); now = [] } }

pub offset_bounds-known-number : goal.offset_bounds-known-number
offset_bounds-known-number c = omega (arith, c.in-Some.ensures.within.1)

pub bounds-known-number : goal.bounds-known-number
bounds-known-number c =
    let bodies = c.args.bodies.now in
    let number = c.in-Some.number in
    (known_at (all_bodies bodies) c.args.known.now number _ c.requires (body_there bodies number no_body c.in-Some.ensures.within.0)).within

pub moved_hints-requires : goal.moved_hints-requires
moved_hints-requires c =
    let bodies = c.args.bodies.now in
    let number = c.in-Some.number in
    (known_at (all_bodies bodies) c.args.known.now number _ c.requires (body_there bodies number no_body c.in-Some.ensures.within.0)).fronts c.index-known-number.result

pub returns-in_err-hints-clause-known : goal.returns-in_err-hints-clause-known
returns-in_err-hints-clause-known c =
    let bodies = c.args.bodies.now in
    let number = c.in-Some.number in
    known_set (all_bodies bodies) c.args.known.now number _ c.moved_hints.new.known c.requires (body_there bodies number no_body c.in-Some.ensures.within.0) c.moved_hints.ensures.known

pub returns-in_default-2-clause-known : goal.returns-in_default-2-clause-known
returns-in_default-2-clause-known c =
    let bodies = c.args.bodies.now in
    let number = c.in-Some.number in
    known_set (all_bodies bodies) c.args.known.now number _ c.moved_hints.new.known c.requires (body_there bodies number no_body c.in-Some.ensures.within.0) c.moved_hints.ensures.known

pub returns-in_default-2-clause-none : goal.returns-in_default-2-clause-none
returns-in_default-2-clause-none c =
    let bodies = c.args.bodies.now in
    let number = c.in-Some.number in
    no_hints c.args.imported (all_bodies bodies) c.args.function.now (bytes_of_body (get_or bodies number no_body)) (c.in-Some.ensures.body _ (body_there bodies number no_body c.in-Some.ensures.within.0)) (rw c.as_slice.ensures.value at (rw c.in_default-2.is at c.in_ok-hints.ensures.none))

pub returns-clause-known : goal.returns-clause-known
returns-clause-known c =
    let bodies = c.args.bodies.now in
    let number = c.in-Some.number in
    known_set (all_bodies bodies) c.args.known.now number _ c.moved_hints.new.known c.requires (body_there bodies number no_body c.in-Some.ensures.within.0) c.moved_hints.ensures.known

pub returns-clause-moves : goal.returns-clause-moves
returns-clause-moves c =
    let bodies = c.args.bodies.now in
    let number = c.in-Some.number in
    record {
      same = refl;
      body = bytes_of_body (get_or bodies number no_body);
      is_body = c.in-Some.ensures.body _ (body_there bodies number no_body c.in-Some.ensures.within.0);
      hints = rw c.as_slice.ensures.value at (rw c.in-Some-2.is at c.in_ok-hints.ensures.moves);
    }
