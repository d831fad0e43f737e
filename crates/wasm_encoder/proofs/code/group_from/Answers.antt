use Rattle.std.proofs.Common.{◌+◌, ◌∙◌, ap, refl, arith}
use Rattle.wasm_encoder.proofs.LocalGroups.{longer_at, further_at, sum_is}
use Rattle.wasm_encoder.proofs.code.group_from.Goals as goal
use Rattle.wasm_encoder.proofs.code.group_from.Goals.{then-is_same+in_ok-count, else-is_same+in_ok-push}

pub loop-ty-preserved : goal.loop-ty-preserved
loop-ty-preserved c =
    let few = c.loop-ty.invariant.few in
    elim c.if-is_same.branch [
      | then-is_same+in_ok-count w ↦ record { groups = longer_at c.loop-ty.groups.items c.loop-ty.count c.loop-ty.ty-index c.loop-ty.last c.args.first c.args.others.now c.loop-ty-test.true c.loop-ty.invariant.groups c.if-is_same.groups.items c.if-is_same.count c.if-is_same.last (ap (λ v. v.items) w.groups-is) (w.count-is ∙ sum_is _ w.checked_add.result w.in_ok-count.count (c.loop-ty.count + 1) w.in_ok-count.ensures.ok_part w.checked_add.ensures) w.last-is (w.if-is_same.ensures.same refl); few = (let one = w.count-is ∙ sum_is _ w.checked_add.result w.in_ok-count.count (c.loop-ty.count + 1) w.in_ok-count.ensures.ok_part w.checked_add.ensures in omega (arith, one, few)) }
      | else-is_same+in_ok-push w ↦ record { groups = further_at c.loop-ty.groups.items c.loop-ty.count c.loop-ty.ty-index c.loop-ty.last c.args.first c.args.others.now c.loop-ty-test.true c.loop-ty.invariant.groups c.if-is_same.groups.items c.if-is_same.count c.if-is_same.last (ap (λ v. v.items) w.groups-is ∙ w.in_ok-push.ensures.items) w.count-is w.last-is (w.if-is_same.ensures.other refl); few = (let one = w.count-is in omega (arith, one)) }
    ]
