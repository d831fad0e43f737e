use Rattle.std.proofs.Common.{arith}
use Rattle.wasmcanon.proofs.StaleLaws.{has_code, tells_moved}
use Rattle.wasmcanon.proofs.run.canonical_of.Goals as goal

pub returns-clause-moved : goal.returns-clause-moved
returns-clause-moved c = tells_moved c.len.result c.len-len.result c.args.input.items c.in_ok-bytes.bytes.items (omega (arith, c.len.ensures)) (omega (arith, c.len-len.ensures)) c.in_ok-bytes.ensures.ok

pub returns-clause-code : goal.returns-clause-code
returns-clause-code c = has_code c.args.input.items c.deref.result.now c.in_ok-code.code c.deref.ensures.value c.in_ok-code.ensures.code c.in_ok-code.ensures.none
