use Rattle.std.proofs.Common.{◌≡◌, ◌+◌, ◌++◌, ◌∷◌, [], take, sym, subst, ap, ◌∙◌, arith}
use Rattle.std.specs.List.{All}
use Rattle.std.proofs.lemmas.List.{take_all, take_more}
use Rattle.std.proofs.lemmas.List.Elements.{All-push}
use Rattle.wasm_codec.proofs.AppendLaws.{kept_after}
use Rattle.wasm_lists.proofs.WrittenLists.{one_more}
use Rattle.wasm_externals.specs.ClosedExpressions.{IsCountedExpr, IsWrittenExpr}
use Rattle.wasm_externals.specs.formats.Expressions.{expr}
use Rattle.wasm_sections.proofs.elements.append_each_expression.Goals as goal

pub loop-expression-preserved : goal.loop-expression-preserved
loop-expression-preserved g c =
    let item = c.expression-item.result in
    let before = take c.loop-expression.expression-index c.args.expressions.now in
    let longer : take (c.loop-expression.expression-index + 1) c.args.expressions.now ≡ before ++ item ∷ [] = take_more c.args.expressions.now c.loop-expression.expression-index item c.loop-expression-test.true ∙ ap (λ e. before ++ e ∷ []) (sym c.expression-item.is) in
    record {
      bytes = rw longer (one_more expr.bytes c.args.sink.now.items [] before item _ _ c.loop-expression.invariant.bytes (rw (← c.as_slice.ensures.value) c.in_ok-encode_expr.ensures.ok));
      can = subst (All IsCountedExpr) (sym longer) (All-push IsCountedExpr before item c.loop-expression.invariant.can (subst IsCountedExpr c.as_slice.ensures.value c.in_ok-encode_expr.ensures.can));
      written = subst (All IsWrittenExpr) (sym longer) (All-push IsWrittenExpr before item c.loop-expression.invariant.written (subst IsWrittenExpr c.as_slice.ensures.value c.in_ok-encode_expr.ensures.written));
    }

pub returns-in_err-encode_expr-clause-kept : goal.returns-in_err-encode_expr-clause-kept
returns-in_err-encode_expr-clause-kept g c = kept_after _ _ _ (c.in_err-encode_expr.ensures.err ∙ c.loop-expression.invariant.bytes)

pub returns-clause-ok : goal.returns-clause-ok
returns-clause-ok g c =
    let whole : take c.loop-expression.expression-index c.args.expressions.now ≡ c.args.expressions.now = take_all c.loop-expression.expression-index c.args.expressions.now (omega arith) in
    rw whole at c.loop-expression.invariant.bytes

pub returns-clause-can : goal.returns-clause-can
returns-clause-can g c =
    let whole : take c.loop-expression.expression-index c.args.expressions.now ≡ c.args.expressions.now = take_all c.loop-expression.expression-index c.args.expressions.now (omega arith) in
    subst (All IsCountedExpr) whole c.loop-expression.invariant.can

pub returns-clause-written : goal.returns-clause-written
returns-clause-written g c =
    let whole : take c.loop-expression.expression-index c.args.expressions.now ≡ c.args.expressions.now = take_all c.loop-expression.expression-index c.args.expressions.now (omega arith) in
    subst (All IsWrittenExpr) whole c.loop-expression.invariant.written

pub returns-clause-kept : goal.returns-clause-kept
returns-clause-kept g c = kept_after _ _ _ c.loop-expression.invariant.bytes
