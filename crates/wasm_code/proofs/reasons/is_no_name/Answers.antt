use Rattle.std.proofs.Common.{◌∙◌, sym}
use Rattle.std.proofs.lemmas.Bool.{eqb-true, eq-eqb}
use Rattle.wasm_code.proofs.ReasonLaws.{is_valid_len, no_name, sums_up}
use Rattle.wasm_code.proofs.reasons.is_no_name.Goals as goal

pub returns-then-valid_up_to-at : goal.returns-then-valid_up_to-at
returns-then-valid_up_to-at c = (no_name _ _ _ _ _ _ _ c.in-Some.is c.in-Some-body_at.ensures.found c.in-Err.ensures.cases.0 (sym c.if-valid_up_to-at.true ∙ (c.valid_up_to.ensures ∙ c.in-Err.ensures.valid_len)), sums_up _ _ _ _ _ _ _ c.in-Some.is c.in-Some-body_at.ensures.found)

pub returns-else-valid_up_to-at : goal.returns-else-valid_up_to-at
returns-else-valid_up_to-at c = (λ same. absurd (c.if-valid_up_to-at.false (eqb-true _ _ same)), λ invalid. eq-eqb _ _ (c.valid_up_to.ensures ∙ (c.in-Err.ensures.valid_len ∙ sym (is_valid_len _ _ _ _ _ _ _ c.in-Some.is c.in-Some-body_at.ensures.found invalid))))
