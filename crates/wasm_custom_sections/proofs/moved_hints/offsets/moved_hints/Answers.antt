use Rattle.std.proofs.Common.{◌∙◌, rules, sym}
use Rattle.wasm_custom_sections.proofs.MovedOffsetLaws.{no_first_hint, no_hints}
use Rattle.wasm_custom_sections.proofs.moved_hints.offsets.moved_hints.Goals as goal

pub returns-then-is_empty-clause-moves : goal.returns-then-is_empty-clause-moves
returns-then-is_empty-clause-moves c = no_hints c.args.body.now c.args.hints.now c.from.result (sym c.is_empty.ensures ∙ c.if-is_empty.true) (c.from.ensures ∙ c.new.ensures.items)

pub returns-in_default-clause-none : goal.returns-in_default-clause-none
returns-in_default-clause-none c = no_first_hint c.args.body.now c.args.hints.now (sym c.is_empty.ensures ∙ c.if-is_empty.false) (rw c.in_default.is at c.in_ok-fronts.ensures.none)
