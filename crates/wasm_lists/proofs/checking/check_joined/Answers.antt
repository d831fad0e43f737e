use Rattle.std.proofs.Common.{◌≡◌, rules}
use Rattle.wasm_lists.proofs.CheckLaws.{all_stopped, all_taken}
use Rattle.wasm_lists.proofs.checking.check_joined.Goals as goal

pub returns-clause-given : goal.returns-clause-given
returns-clause-given g c =
    let law = c.is_lawful.ensures in
    let same : c.as_mut_slice.result.now ≡ c.args.bytes.now = search rules in
    rw (← same) (all_taken law.lawful law.some c.new-rewriter.result c.rewrite_joined.new.rewriter c.as_mut_slice.result.now c.rewrite_joined.result c.are_bytes.ensures c.new-rewriter.ensures c.rewrite_joined.ensures.rewrites)

pub returns-clause-stops : goal.returns-clause-stops
returns-clause-stops g c =
    let law = c.is_lawful.ensures in
    let same : c.as_mut_slice.result.now ≡ c.args.bytes.now = search rules in
    rw (← same) (all_stopped law.lawful law.some c.new-rewriter.result c.rewrite_joined.new.rewriter c.as_mut_slice.result.now c.rewrite_joined.result c.new-rewriter.ensures c.rewrite_joined.ensures.rewrites)
