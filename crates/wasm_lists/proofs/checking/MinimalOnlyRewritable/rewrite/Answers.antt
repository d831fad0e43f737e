use Rattle.std.proofs.Common.{arith}
use Rattle.std.proofs.lemmas.Result.{err_from_is_err_and}
use Rattle.wasm_lists.proofs.CheckLaws.{an_item, item_taken, item_refused, refused_again}
use Rattle.wasm_lists.proofs.EndLaws.{none_named}
use Rattle.wasm_lists.proofs.checking.MinimalOnlyRewritable.rewrite.Goals as goal

pub returns-in_err-rewrite : goal.returns-in_err-rewrite
returns-in_err-rewrite g c =
    let p = err_from_is_err_and c.from_residual.result c.from_residual.ensures.1 in
    rw (p.1, p.2) (record { rewrites = refused_again c.is_lawful.ensures.lawful c.args.rewriter.now c.rewrite.new.rewriter c.rewrite.new.rewriter c.are_bytes.ensures c.in_err-rewrite.field-0.0 c.in_err-rewrite.ensures.rewrites; names = c.in_err-rewrite.ensures.names })

pub overflow_sub-bytes : goal.overflow_sub-bytes
overflow_sub-bytes g c =
    let i = an_item c.is_lawful.ensures.lawful c.args.rewriter.now c.rewrite.new.rewriter c.are_bytes.ensures c.in_ok-rewrite.ensures.rewrites in
    omega (arith, i.read_len)

pub returns-then-minimal-bytes : goal.returns-then-minimal-bytes
returns-then-minimal-bytes g c = record { rewrites = item_refused c.is_lawful.ensures.lawful c.args.rewriter.now c.rewrite.new.rewriter c.are_bytes.ensures c.in_ok-rewrite.ensures.rewrites (omega arith); names = λ index e. absurd (none_named c.new.result.item index c.new.ensures.item e) }

pub returns : goal.returns
returns g c = record { rewrites = item_taken c.is_lawful.ensures.lawful c.args.rewriter.now c.rewrite.new.rewriter c.are_bytes.ensures c.in_ok-rewrite.ensures.rewrites (omega arith); names = λ index e. absurd e }
