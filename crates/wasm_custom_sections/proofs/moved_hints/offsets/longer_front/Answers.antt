use Rattle.std.proofs.Common.{arith, refl}
use Rattle.wasm_custom_sections.proofs.MovedOffsetLaws.{front_goes_on, none_between}
use Rattle.wasm_custom_sections.proofs.moved_hints.offsets.longer_front.Goals as goal

pub returns-in-Ok-clause-front : goal.returns-in-Ok-clause-front
returns-in-Ok-clause-front c = front_goes_on c.args.body.now _ c.in-Ok.instructions.items c.args.front c.args.len c.len.result (omega (arith, c.len.ensures, c.in-Ok.instructions.ok)) c.requires (omega arith) (omega arith) refl c.in-Ok.ensures.normalises.given

pub returns-in-Err-Refused-clause-none : goal.returns-in-Err-Refused-clause-none
returns-in-Err-Refused-clause-none c = none_between c.args.body.now _ c.args.front c.args.len c.requires refl (rw c.in-Err-Refused.field-0-is at c.in-Err-Refused.ensures.normalises.unencoded)
