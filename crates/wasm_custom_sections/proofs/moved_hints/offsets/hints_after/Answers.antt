use Rattle.std.proofs.Common.{◌+◌, [], false, get_or, refl, rules, subst, sym, take}
use Rattle.wasm_custom_sections.specs.MovedOffsets.{Each, MovesHint, none}
use Rattle.wasm_custom_sections.specs.declared.branch_hints.BranchHint.{BranchHint}
use Rattle.wasm_custom_sections.proofs.MovedOffsetLaws.{each_more, hint_moved, no_hint}
use Rattle.wasm_custom_sections.proofs.moved_hints.offsets.hints_after.Goals as goal

pub loop-hint-init : goal.loop-hint-init
loop-hint-init c = record {
  fronts_are = c.requires;
  moves = subst (Each (MovesHint c.args.body.now) []) (sym c.in_ok-moved.ensures.items) none;
}

pub loop-hint-preserved : goal.loop-hint-preserved
loop-hint-preserved c =
    let hints = c.args.hints.now in
    let i = c.loop-hint.hint-index in
    let d : BranchHint = record { branch_func_offset = 0; likely = false } in
    let front = rw c.in-Some.is at c.in_ok-front.ensures.front in
    let new : BranchHint = record { branch_func_offset = c.in-Ok.branch_func_offset; likely = (get_or hints i d).likely } in
    let one = hint_moved c.args.body.now (get_or hints i d) new c.in-Some.front front (sym c.in-Ok.ensures.1) refl in
    record {
      fronts_are = c.in_ok-front.ensures.fronts;
      moves = subst (Each (MovesHint c.args.body.now) (take (i + 1) hints)) (sym c.in_ok-push.ensures.items) (each_more (MovesHint c.args.body.now) hints c.loop-hint.moved.items i d new c.loop-hint-test.true c.loop-hint.invariant.moves one);
    }

pub returns-in_default-clause-none : goal.returns-in_default-clause-none
returns-in_default-clause-none c =
    let d : BranchHint = record { branch_func_offset = 0; likely = false } in
    no_hint c.args.body.now c.args.hints.now c.loop-hint.hint-index d c.loop-hint-test.true (rw c.in_default.is at c.in_ok-front.ensures.none)
