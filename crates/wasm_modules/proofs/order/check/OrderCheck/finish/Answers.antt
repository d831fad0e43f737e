use Rattle.std.proofs.Common.{◌∙◌, sym}
use Rattle.wasm_modules.proofs.ModuleOrderLaws.{is_module, missing, functions_known, bodies_known, segments_known, told_known}
use Rattle.wasm_modules.proofs.order.check.OrderCheck.finish.Goals as goal

pub returns-then-functions-bodies-clause-why : goal.returns-then-functions-bodies-clause-why
returns-then-functions-bodies-clause-why c sections notes uses =
    (c.unwrap_or-functions.ensures ∙ sym (functions_known sections c.args.self.now notes), c.unwrap_or-bodies.ensures ∙ sym (bodies_known sections c.args.self.now notes), c.if-functions-bodies.true)

pub returns-then-told-segments-clause-why : goal.returns-then-told-segments-clause-why
returns-then-told-segments-clause-why c sections notes uses =
    (told_known sections c.args.self.now notes ∙ c.in-Some.is, c.unwrap_or-segments.ensures ∙ sym (segments_known sections c.args.self.now notes), c.if-told-segments.true)

pub returns-in-Some-data_use-clause-why : goal.returns-in-Some-data_use-clause-why
returns-in-Some-data_use-clause-why c sections notes uses = missing sections c.args.self.now notes c.args.data_use c.in-Some-data_use.place uses c.in_default.is c.in-Some-data_use.is

pub returns-else-told-segments-clause-ok : goal.returns-else-told-segments-clause-ok
returns-else-told-segments-clause-ok c sections notes uses =
    is_module sections c.args.self.now notes c.args.data_use uses (sym c.unwrap_or-functions.ensures ∙ c.if-functions-bodies.false ∙ c.unwrap_or-bodies.ensures) (rw c.in-Some.is (c.if-told-segments.false ∙ c.unwrap_or-segments.ensures)) (rw c.in-Some.is tt)

pub returns-in_default-data_use-clause-ok : goal.returns-in_default-data_use-clause-ok
returns-in_default-data_use-clause-ok c sections notes uses =
    is_module sections c.args.self.now notes c.args.data_use uses (sym c.unwrap_or-functions.ensures ∙ c.if-functions-bodies.false ∙ c.unwrap_or-bodies.ensures) (rw c.in_default.is tt) (rw c.in_default.is c.in_default-data_use.is)
