use Rattle.std.proofs.Common.{arith}
use Rattle.wasm_custom_sections.proofs.MovedOffsetLaws.{none_if}
use Rattle.wasm_custom_sections.proofs.moved_hints.offsets.front_up_to.Goals as goal

pub returns-then-offset-front-clause-none : goal.returns-then-offset-front-clause-none
returns-then-offset-front-clause-none c = none_if c.longer_front.result c.longer_front.ensures.none (λ missing number b. missing (c.requires.locals.first number c.args.offset b) number b)

pub returns-clause-none : goal.returns-clause-none
returns-clause-none c = none_if c.longer_front-2.result c.longer_front-2.ensures.none (λ missing. missing (omega arith))
