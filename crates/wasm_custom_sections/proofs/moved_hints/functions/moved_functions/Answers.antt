use Rattle.std.proofs.Common.{◌+◌, [], subst, sym, take}
use Rattle.wasm_custom_sections.specs.MovedFunctions.{MovesFunction, all_bodies}
use Rattle.wasm_custom_sections.specs.MovedOffsets.{Each, none}
use Rattle.wasm_custom_sections.specs.declared.branch_hints.FunctionHints.{FunctionHints}
use Rattle.wasm_custom_sections.proofs.MovedOffsetLaws.{each_at, each_more}
use Rattle.wasm_custom_sections.proofs.moved_hints.functions.moved_functions.Goals as goal

pub loop-function-init : goal.loop-function-init
loop-function-init c = record {
  known = c.requires;
  moves = subst (Each (MovesFunction c.args.imported (all_bodies c.args.bodies.now)) []) (sym c.in_ok-moved.ensures.items) none;
}

pub loop-function-preserved : goal.loop-function-preserved
loop-function-preserved c =
    let R = MovesFunction c.args.imported (all_bodies c.args.bodies.now) in
    let functions = c.args.functions.now in
    let i = c.loop-function.function-index in
    let d = c.function-item.result in
    let one = subst (λ (f : FunctionHints). R f c.in-Some.next) c.function-item.is (rw c.in-Some.is at c.in_ok-next.ensures.moves) in
    record {
      known = c.in_ok-next.ensures.known;
      moves = subst (Each R (take (i + 1) functions)) (sym c.in_ok-push.ensures.items) (each_more R functions c.loop-function.moved.items i d c.in-Some.next c.loop-function-test.true c.loop-function.invariant.moves one);
    }

pub returns-in_default-clause-none : goal.returns-in_default-clause-none
returns-in_default-clause-none c = λ moved all.
    let R = MovesFunction c.args.imported (all_bodies c.args.bodies.now) in
    let one = each_at c.args.functions.now moved c.loop-function.function-index c.function-item.result all c.loop-function-test.true in
    (rw c.in_default.is at c.in_ok-next.ensures.none) one.0 (subst (λ (f : FunctionHints). R f one.0) (sym c.function-item.is) one.1)
