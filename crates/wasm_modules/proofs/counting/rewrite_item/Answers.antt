use Rattle.std.proofs.Common.{arith}
use Rattle.wasm_lists.proofs.CheckLaws.{an_item}
use Rattle.wasm_modules.proofs.counting.rewrite_item.Goals as goal

pub overflow_sub-result-in-Ok : goal.overflow_sub-result-in-Ok
overflow_sub-result-in-Ok g c =
    let i = an_item c.is_lawful.ensures.lawful c.args.rewriter.now c.rewrite.new.rewriter c.are_bytes.ensures c.in-Ok.ensures.rewrites in
    omega (arith, i.read_len)
