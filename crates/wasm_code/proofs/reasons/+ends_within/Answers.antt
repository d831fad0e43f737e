use Rattle.std.proofs.Common.{arith, ◌∙◌, ◌-◌}
use Rattle.wasm_code.proofs.ReasonLaws.{here, later}
use Rattle.wasm_code.proofs.reasons.+ends_within.Goals as goal

pub returns-then-byte-lt128 : goal.returns-then-byte-lt128
returns-then-byte-lt128 _ c = here c.args.most c.in-Some.byte.now c.args.bytes.now c.in-Some.rest.now (omega (arith, c.if-most-eq0.false)) c.in-Some.ensures.cases.0 (omega (arith, c.if-byte-lt128.true))

pub returns-else-byte-lt128 : goal.returns-else-byte-lt128
returns-else-byte-lt128 _ c = c.ends_within.ensures ∙ later c.args.most (c.args.most - 1) c.in-Some.byte.now c.args.bytes.now c.in-Some.rest.now (omega (arith, c.if-most-eq0.false)) c.in-Some.ensures.cases.0 (omega (arith, c.if-byte-lt128.false))
