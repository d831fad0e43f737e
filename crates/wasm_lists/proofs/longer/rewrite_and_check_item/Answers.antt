use Rattle.std.proofs.Common.{arith}
use Rattle.wasm_lists.proofs.CheckLaws.{an_item, item_taken, item_refused}
use Rattle.wasm_lists.proofs.longer.rewrite_and_check_item.Goals as goal

pub overflow_sub-bytes : goal.overflow_sub-bytes
overflow_sub-bytes g c =
    let i = an_item c.is_lawful.ensures.lawful c.args.rewriter.now c.rewrite.new.rewriter c.are_bytes.ensures c.in_ok-rewrite.ensures.rewrites in
    omega (arith, i.read_len)

pub returns-then-minimal-bytes-clause-checks : goal.returns-then-minimal-bytes-clause-checks
returns-then-minimal-bytes-clause-checks g c = (c.in_ok-rewrite.ensures.rewrites, item_refused c.is_lawful.ensures.lawful c.args.rewriter.now c.rewrite.new.rewriter c.are_bytes.ensures c.in_ok-rewrite.ensures.rewrites (omega arith))

pub returns-clause-checks : goal.returns-clause-checks
returns-clause-checks g c = (c.in_ok-rewrite.ensures.rewrites, item_taken c.is_lawful.ensures.lawful c.args.rewriter.now c.rewrite.new.rewriter c.are_bytes.ensures c.in_ok-rewrite.ensures.rewrites (omega arith))
