use Rattle.std.proofs.Common.{◌≡◌, ◌-◌, ◌+◌, arith}
use Rattle.std.proofs.lemmas.Result.{err_from_is_err_and}
use Rattle.wasm_codec.proofs.RefusalNumbers.{breaks_at_rewritten, list_passed_more, list_passed_none}
use Rattle.wasm_codec.proofs.RewriterLaws.{no_items_rewritten, item_rewritten, item_not_rewritten, all_items_rewritten}
use Rattle.wasm_codec.proofs.Skipping.{items_skipped, list_skipped}
use Rattle.wasm_lists.proofs.rewriting.rewrite_list.Goals as goal

pub loop-index-init : goal.loop-index-init
loop-index-init g c = rw c.end_part.ensures (record {
  few = omega arith;
  rewritten = no_items_rewritten g.T.Rewritable.format c.args.rewriter.now c.u32.new.self c.in-Ok.count c.in-Ok.ensures;
  passed = list_passed_none g.T.Rewritable.format c.args.rewriter.now c.u32.new.self c.in-Ok.count c.are_bytes.ensures c.in-Ok.ensures;
})

pub returns-in_err-rewrite_item-clause-rewrites : goal.returns-in_err-rewrite_item-clause-rewrites
returns-in_err-rewrite_item-clause-rewrites g c =
    let p = err_from_is_err_and c.from_residual.result c.from_residual.ensures.1 in
    let i = c.loop-index.invariant in
    let old = c.args.rewriter.now in
    let here = c.skip_minimal-index.new.rewriter in
    let new = c.rewrite_item.new.rewriter in
    let skipped = items_skipped c.is_lawful.ensures.lawful old c.loop-index.rewriter here c.in-Ok.count c.loop-index.index (c.in-Ok.count - c.loop-index.index) c.skip_minimal-index.result i.passed.fits i.rewritten (omega arith) c.skip_minimal-index.ensures in
    rw (p.1, p.2) (item_not_rewritten g.T.Rewritable.format old here new new c.in-Ok.count (c.loop-index.index + c.skip_minimal-index.result) c.in_err-rewrite_item.field-0.0 skipped c.if-index-count.true c.in_err-rewrite_item.ensures.rewrites)

pub returns-in_err-rewrite_item-clause-names : goal.returns-in_err-rewrite_item-clause-names
returns-in_err-rewrite_item-clause-names g c =
    let p = err_from_is_err_and c.from_residual.result c.from_residual.ensures.1 in
    let law = c.is_lawful.ensures in
    let i = c.loop-index.invariant in
    let h = c.in_err-rewrite_item.ensures in
    let old = c.args.rewriter.now in
    let here = c.skip_minimal-index.new.rewriter in
    let passed = list_skipped law.lawful law.some old.place.left c.loop-index.rewriter here c.in-Ok.count c.loop-index.index (c.in-Ok.count - c.loop-index.index) c.skip_minimal-index.result i.passed (omega arith) c.skip_minimal-index.ensures in
    rw (p.1, p.2) (breaks_at_rewritten (Unit {0}) (Unit {0}) law.lawful old.place.left here c.rewrite_item.new.rewriter c.in-Ok.count (c.loop-index.index + c.skip_minimal-index.result) c.in_err-rewrite_item.field-0.0 passed c.if-index-count.true h.rewrites h.item)

pub loop-index-preserved-then-index-count : goal.loop-index-preserved-then-index-count
loop-index-preserved-then-index-count g c =
    let law = c.is_lawful.ensures in
    let i = c.loop-index.invariant in
    let h = c.in_ok-rewrite_item.ensures in
    let old = c.args.rewriter.now in
    let here = c.skip_minimal-index.new.rewriter in
    let next = c.rewrite_item.new.rewriter in
    let count = c.in-Ok.count in
    let most = count - c.loop-index.index in
    let index = c.loop-index.index + c.skip_minimal-index.result in
    let skipped = items_skipped law.lawful old c.loop-index.rewriter here count c.loop-index.index most c.skip_minimal-index.result i.passed.fits i.rewritten (omega arith) c.skip_minimal-index.ensures in
    let passed = list_skipped law.lawful law.some old.place.left c.loop-index.rewriter here count c.loop-index.index most c.skip_minimal-index.result i.passed (omega arith) c.skip_minimal-index.ensures in
    record {
      few = omega arith;
      rewritten = item_rewritten g.T.Rewritable.format old here next count index skipped c.if-index-count.true h.rewrites;
      passed = list_passed_more law.lawful law.some old.place.left here next count index passed c.if-index-count.true h.rewrites;
    }

pub loop-index-preserved : goal.loop-index-preserved
loop-index-preserved g c =
    let law = c.is_lawful.ensures in
    let i = c.loop-index.invariant in
    let old = c.args.rewriter.now in
    let next = c.skip_minimal-index.new.rewriter in
    let count = c.in-Ok.count in
    let most = count - c.loop-index.index in
    record {
      few = omega arith;
      rewritten = items_skipped law.lawful old c.loop-index.rewriter next count c.loop-index.index most c.skip_minimal-index.result i.passed.fits i.rewritten (omega arith) c.skip_minimal-index.ensures;
      passed = list_skipped law.lawful law.some old.place.left c.loop-index.rewriter next count c.loop-index.index most c.skip_minimal-index.result i.passed (omega arith) c.skip_minimal-index.ensures;
    }

pub returns-clause-rewrites : goal.returns-clause-rewrites
returns-clause-rewrites g c =
    let full : c.loop-index.index ≡ c.in-Ok.count = omega arith in
    all_items_rewritten g.T.Rewritable.format c.args.rewriter.now c.loop-index.rewriter c.in-Ok.count c.loop-index.index c.loop-index.invariant.rewritten full
