use Rattle.std.proofs.Common.{◌≡◌, ◌+◌, ◌-◌, arith}
use Rattle.std.proofs.lemmas.Result.{err_from_is_err_and}
use Rattle.wasm_codec.proofs.RewriterLaws.{item_not_rewritten, all_items_rewritten}
use Rattle.wasm_modules.proofs.CountingLaws.{counted_none, counted_longer, counted_short, counted_skipped, counted_all}
use Rattle.wasm_modules.proofs.counting.rewrite_list.Goals as goal
use Rattle.wasm_modules.proofs.counting.rewrite_list.Goals.{then-branch, else-branch}

pub loop-index-init : goal.loop-index-init
loop-index-init g c = record {
  few = omega arith;
  counted = counted_none g.T.Rewritable.format c.args.rewriter.now c.u32.new.self c.in_ok-count.count c.are_bytes.ensures c.in_ok-count.ensures;
}

pub returns-in_err-rewrite_item-clause-rewrites : goal.returns-in_err-rewrite_item-clause-rewrites
returns-in_err-rewrite_item-clause-rewrites g c =
    let p = err_from_is_err_and c.from_residual-in_err-rewrite_item.result c.from_residual-in_err-rewrite_item.ensures.1 in
    let old = c.args.rewriter.now in
    let here = c.skip_minimal-index.new.rewriter in
    let new = c.rewrite_item.new.rewriter in
    let count = c.in_ok-count.count in
    let begun = c.loop-index.index in
    let skipped = counted_skipped c.is_lawful.ensures.lawful old c.loop-index.rewriter here count begun c.loop-index.longer (count - begun) c.skip_minimal-index.result c.loop-index.invariant.counted (omega arith) c.skip_minimal-index.ensures in
    rw (p.1, p.2) (item_not_rewritten g.T.Rewritable.format old here new new count (begun + c.skip_minimal-index.result) c.in_err-rewrite_item.field-0.0 skipped.rewritten c.if-index-count.true c.in_err-rewrite_item.ensures.rewrites)

pub loop-index-preserved-then-index-count : goal.loop-index-preserved-then-index-count
loop-index-preserved-then-index-count g c =
    let law = c.is_lawful.ensures.lawful in
    let old = c.args.rewriter.now in
    let here = c.skip_minimal-index.new.rewriter in
    let next = c.rewrite_item.new.rewriter in
    let count = c.in_ok-count.count in
    let begun = c.loop-index.index in
    let index = begun + c.skip_minimal-index.result in
    let longer = c.loop-index.longer in
    let e = c.in_ok-rewrite_item.ensures.rewrites in
    let skipped = counted_skipped law old c.loop-index.rewriter here count begun longer (count - begun) c.skip_minimal-index.result c.loop-index.invariant.counted (omega arith) c.skip_minimal-index.ensures in
    record {
      few = omega arith;
      counted = elim c.if-branch.branch [
        | then-branch w ↦ rw w.longer-is (counted_longer law old here next count index longer skipped c.if-index-count.true e (rw w.if-branch.true at c.in_ok-rewrite_item.ensures.longer))
        | else-branch w ↦ rw w.longer-is (counted_short law old here next count index longer skipped c.if-index-count.true e (rw w.if-branch.false at c.in_ok-rewrite_item.ensures.longer))
      ];
    }

pub loop-index-preserved : goal.loop-index-preserved
loop-index-preserved g c =
    let count = c.in_ok-count.count in
    let begun = c.loop-index.index in
    record {
      few = omega arith;
      counted = counted_skipped c.is_lawful.ensures.lawful c.args.rewriter.now c.loop-index.rewriter c.skip_minimal-index.new.rewriter count begun c.loop-index.longer (count - begun) c.skip_minimal-index.result c.loop-index.invariant.counted (omega arith) c.skip_minimal-index.ensures;
    }

pub returns-clause-rewrites : goal.returns-clause-rewrites
returns-clause-rewrites g c =
    let full : c.loop-index.index ≡ c.in_ok-count.count = omega arith in
    all_items_rewritten g.T.Rewritable.format c.args.rewriter.now c.loop-index.rewriter c.in_ok-count.count c.loop-index.index c.loop-index.invariant.counted.rewritten full

pub returns-clause-counts : goal.returns-clause-counts
returns-clause-counts g c =
    let full : c.loop-index.index ≡ c.in_ok-count.count = omega arith in
    counted_all g.T.Rewritable.format c.args.rewriter.now c.loop-index.rewriter c.in_ok-count.count c.loop-index.index c.loop-index.longer c.loop-index.invariant.counted full
