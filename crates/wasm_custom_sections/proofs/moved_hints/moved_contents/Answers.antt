use Rattle.std.proofs.Common.{List, subst, sym}
use Rattle.wasm_codec.specs.formats.Combinators.{items}
use Rattle.wasm_custom_sections.specs.MovedFunctions.{MovesFunction, all_bodies}
use Rattle.wasm_custom_sections.specs.MovedOffsets.{Each}
use Rattle.wasm_custom_sections.specs.declared.branch_hints.FunctionHints.{FunctionHints}
use Rattle.wasm_custom_sections.specs.formats.BranchHints.{function_hints}
use Rattle.wasm_custom_sections.proofs.MovedModuleLaws.{all_written, no_contents, no_functions}
use Rattle.wasm_custom_sections.proofs.moved_hints.moved_contents.Goals as goal

pub returns-in-Err-Malformed-clause-none : goal.returns-in-Err-Malformed-clause-none
returns-in-Err-Malformed-clause-none c = no_contents c.args.imported (all_bodies c.args.bodies.now) c.args.contents.now (rw c.in-Err-Malformed.field-0-is at c.in-Err-Malformed.ensures.unencoded)

pub returns-in_default-clause-none : goal.returns-in_default-clause-none
returns-in_default-clause-none c =
    let encodes = subst (λ (l : List FunctionHints). (items function_hints).Encodes c.args.contents.now l) (sym c.as_slice.ensures.value) c.in-Ok.ensures.given in
    no_functions c.args.imported (all_bodies c.args.bodies.now) c.args.contents.now c.as_slice.result.now encodes (rw c.in_default.is at c.in_ok-moved.ensures.none)

pub returns-then-not-branch-clause-none : goal.returns-then-not-branch-clause-none
returns-then-not-branch-clause-none c = λ other m.
    let bodies = all_bodies c.args.bodies.now in
    let encodes = subst (λ (l : List FunctionHints). (items function_hints).Encodes c.args.contents.now l) (sym c.as_slice.ensures.value) c.in-Ok.ensures.given in
    let moves = rw c.in-Some.is at c.in_ok-moved.ensures.moves in
    let moved = subst (Each (MovesFunction c.args.imported bodies) c.as_slice.result.now) (sym c.as_slice-2.ensures.value) moves in
    all_written c.encode_list.result c.args.imported bodies c.args.contents.now c.as_slice.result.now c.as_slice-2.result.now encodes moved (c.in_ok-done.ensures.too_long c.if-not-branch.true) c.encode_list.ensures.refused
