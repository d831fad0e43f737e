use Rattle.std.proofs.Common.{◌≡◌, arith, ap, ◌∙◌}
use Rattle.std.proofs.lemmas.Result.{err_from_is_err_and}
use Rattle.wasm_externals.specs.formats.PartCombinators.{goes_on, ends, fails}
use Rattle.wasm_externals.specs.formats.Expressions.{nested_by}
use Rattle.wasm_externals.proofs.ExpressionLaws.{expr_begun, expr_goes_on, expr_ends, expr_fails, expr_unseen, expr_wanting, expr_out, byte_below}
use Rattle.wasm_externals.proofs.expressions.rewrite_expr.Goals as goal

pub loop-init : goal.loop-init
loop-init c = record { depth = omega arith; going = expr_begun c.args.rewriter.now c.len-most.result c.len-most.ensures }

pub returns-in_err-first : goal.returns-in_err-first
returns-in_err-first c =
    let p = err_from_is_err_and c.from_residual.result c.from_residual.ensures.1 in
    rw (p.1, p.2) (record { rewrites = expr_unseen c.args.rewriter.now c.loop.rewriter c.loop.rewriter c.len-most.result c.loop.counter c.loop.depth c.in_err-first.field-0.0 c.loop-test.true c.loop.invariant.going c.in_err-first.ensures.sees c.in_err-first.ensures.err })

pub returns-in_err-rewrite : goal.returns-in_err-rewrite
returns-in_err-rewrite c =
    let p = err_from_is_err_and c.from_residual-in_err-rewrite.result c.from_residual-in_err-rewrite.ensures.1 in
    rw (p.1, p.2) (record { rewrites = expr_wanting c.args.rewriter.now c.loop.rewriter c.rewrite.new.rewriter c.rewrite.new.rewriter c.len-most.result c.loop.counter c.loop.depth c.in_err-rewrite.field-0.0 c.loop-test.true c.loop.invariant.going c.in_err-rewrite.ensures.rewrites })

pub returns-in-Ends : goal.returns-in-Ends
returns-in-Ends c =
    let sees = c.in_ok-first.ensures.sees in
    let move : ends ≡ nested_by c.loop.depth c.in_ok-first.first = c.in-Ends.ensures ∙ ap (nested_by c.loop.depth) c.from.ensures in
    record { rewrites = expr_ends c.args.rewriter.now c.loop.rewriter c.rewrite.new.rewriter c.len-most.result c.loop.counter c.loop.depth c.in_ok-first.first sees.0 c.loop-test.true c.loop.invariant.going sees.1 c.in_ok-rewrite.ensures.rewrites c.are_bytes.ensures move }

pub returns-in-Fails : goal.returns-in-Fails
returns-in-Fails c =
    let sees = c.in_ok-first.ensures.sees in
    let move : fails ≡ nested_by c.loop.depth c.in_ok-first.first = c.in-Fails.ensures ∙ ap (nested_by c.loop.depth) c.from.ensures in
    record { rewrites = expr_fails c.args.rewriter.now c.loop.rewriter c.rewrite.new.rewriter c.len-most.result c.loop.counter c.loop.depth c.in_ok-first.first sees.0 c.loop-test.true c.loop.invariant.going sees.1 c.in_ok-rewrite.ensures.rewrites move }

pub loop-preserved : goal.loop-preserved
loop-preserved c =
    let sees = c.in_ok-first.ensures.sees in
    let move : goes_on c.in-GoesOn.after ≡ nested_by c.loop.depth c.in_ok-first.first = c.in-GoesOn.ensures ∙ ap (nested_by c.loop.depth) c.from.ensures in
    let few = byte_below c.loop.depth c.in_ok-first.first c.in-GoesOn.after move in
    record {
      depth = omega (arith, few, c.loop.invariant.depth);
      going = expr_goes_on c.args.rewriter.now c.loop.rewriter c.rewrite.new.rewriter c.len-most.result c.loop.counter c.loop.depth c.in_ok-first.first sees.0 c.loop-test.true c.loop.invariant.going sees.1 c.in_ok-rewrite.ensures.rewrites c.in-GoesOn.after move;
    }

pub returns : goal.returns
returns c = record { rewrites = expr_out c.args.rewriter.now c.loop.rewriter c.len-most.result c.loop.counter c.loop.depth (omega arith) c.loop.invariant.going }
