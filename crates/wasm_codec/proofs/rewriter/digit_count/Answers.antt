use Rattle.std.proofs.Common.{◌+◌, ◌-◌, ◌≡◌, ◌≤◌, suc, length, arith}
use Rattle.wasm_codec.specs.Leb128.{digits_of}
use Rattle.wasm_codec.proofs.Digits.{one_left, more_left, last_left}
use Rattle.wasm_codec.proofs.rewriter.digit_count.Goals as goal

pub returns-then-rest-top-clause-count : goal.returns-then-rest-top-clause-count
returns-then-rest-top-clause-count c = λ turn.
    let l = c.loop-count in
    let one = one_left turn c.args.top (10 - l.count) l.rest c.if-rest-top.true in
    let at_least : 1 ≤ l.count = l.auto.count in
    omega (arith, one, l.invariant turn)

pub loop-count-preserved : goal.loop-count-preserved
loop-count-preserved c = λ turn.
    let l = c.loop-count in
    let k : 10 - l.count ≡ suc (10 - (l.count + 1)) = omega (arith, l.auto.count, c.loop-count-test.true) in
    let so_far : l.count - 1 + length (digits_of turn c.args.top (suc (10 - (l.count + 1))) l.rest) ≡ length (digits_of turn c.args.top 9 c.args.number) = rw k at (l.invariant turn) in
    let more = more_left turn c.args.top (10 - (l.count + 1)) l.rest c.if-rest-top.false in
    let at_least : 1 ≤ l.count = l.auto.count in
    omega (arith, more, so_far)

pub returns-clause-count : goal.returns-clause-count
returns-clause-count c = λ turn.
    let l = c.loop-count in
    let end : l.count ≡ 10 = omega (arith, c.loop-count-test.false, l.auto.count-end (omega arith)) in
    let k : 10 - l.count ≡ 0 = omega arith in
    let so_far : l.count - 1 + length (digits_of turn c.args.top 0 l.rest) ≡ length (digits_of turn c.args.top 9 c.args.number) = rw k at (l.invariant turn) in
    omega (arith, last_left turn c.args.top l.rest, so_far)
