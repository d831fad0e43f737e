use Rattle.std.proofs.Common.{◌≡◌, ℕ, ◌-◌, false, None, length, subst, ◌∙◌, arith}
use Rattle.wasm_codec.specs.Rewriter.{RefusesList}
use Rattle.wasm_codec.proofs.ListRewriting.{list_begun, list_more, no_count_error, no_item_error, left_over, list_given}
use Rattle.wasm_codec.proofs.RewriterLaws.{is_given, is_after}
use Rattle.wasm_codec.specs.formats.Combinators.{u32}
use Rattle.wasm_codec.specs.Lists.{HasItemsBefore, IsCountedAt}
use Rattle.wasm_codec.proofs.RefusalNumbers.{all_before, counts_before, counts_nothing, counts_refused, gone_before}
use Rattle.wasm_lists.proofs.rewriting.rewrite_whole_list.Goals as goal

pub returns-in-Err-clause-rewrites : goal.returns-in-Err-clause-rewrites
returns-in-Err-clause-rewrites g c =
    let fits = c.are_bytes.ensures in
    rw (c.outside_items.ensures.error, c.new.ensures.error) (no_count_error {X = Unit {0}} (λ _. c.u32.new.self.done) g.T.Rewritable.format c.args.rewriter.now.place.left c.args.rewriter.now c.u32.new.self c.in-Err.fault fits c.requires c.in-Err.ensures)

pub loop-index-init : goal.loop-index-init
loop-index-init g c =
    let fits = c.are_bytes.ensures in
    (list_begun g.T.Rewritable.format c.args.rewriter.now.place.left c.args.rewriter.now c.u32.new.self c.in-Ok.count fits c.requires c.in-Ok.ensures, (is_given u32 c.args.rewriter.now c.in-Ok.count c.u32.new.self c.in-Ok.ensures).rest)

pub returns-in-Err-rewrite-clause-rewrites : goal.returns-in-Err-rewrite-clause-rewrites
returns-in-Err-rewrite-clause-rewrites g c =
    let law = c.is_lawful.ensures in
    rw (c.in_item.ensures.error, c.new-in-Err-rewrite.ensures.error) (no_item_error {X = Unit {0}} (λ _. c.rewrite.new.rewriter.done) law.lawful law.some c.args.rewriter.now.place.left c.loop-index.rewriter c.rewrite.new.rewriter c.in-Ok.count c.loop-index.index (c.len-len.result - c.len-left.result) c.in-Err-rewrite.fault c.loop-index.invariant.0 c.loop-index-test.true (omega arith) c.in-Err-rewrite.ensures.rewrites)

pub loop-index-preserved : goal.loop-index-preserved
loop-index-preserved g c =
    let law = c.is_lawful.ensures in
    (list_more law.lawful law.some c.args.rewriter.now.place.left c.loop-index.rewriter c.rewrite.new.rewriter c.in-Ok.count c.loop-index.index c.loop-index.invariant.0 c.loop-index-test.true c.in_default.ensures.rewrites, (is_after g.T.Rewritable.format c.loop-index.rewriter c.rewrite.new.rewriter c.in_default.ensures.rewrites).given.rest ∙ c.loop-index.invariant.1)

pub returns-then-left-gt0-clause-rewrites : goal.returns-then-left-gt0-clause-rewrites
returns-then-left-gt0-clause-rewrites g c =
    let full : c.loop-index.index ≡ c.in-Ok.count = omega arith in
    let at : length c.args.rewriter.now.place.left - length c.loop-index.rewriter.place.left ≡ c.len-len.result - c.len-left-2.result = omega arith in
    rw c.refused.ensures.error (subst (RefusesList g.T.Rewritable.format c.args.rewriter.now.place.left) at (left_over g.T.Rewritable.format c.args.rewriter.now.place.left c.loop-index.rewriter c.in-Ok.count c.loop-index.index c.loop-index.invariant.0 full (omega arith)))

pub returns-clause-rewrites : goal.returns-clause-rewrites
returns-clause-rewrites g c =
    let full : c.loop-index.index ≡ c.in-Ok.count = omega arith in
    (list_given g.T.Rewritable.format c.args.rewriter.now.place.left c.loop-index.rewriter c.in-Ok.count c.loop-index.index c.loop-index.invariant.0 full (omega arith))

pub returns-in-Err-clause-counts : goal.returns-in-Err-clause-counts
returns-in-Err-clause-counts g c = counts_nothing false g.T.Rewritable.format c.args.rewriter.now.place.left c.outside_items.result c.in-Err.fault (c.outside_items.ensures.error ∙ c.new.ensures.error) c.outside_items.ensures.item

pub returns-in-Err-rewrite-clause-counts : goal.returns-in-Err-rewrite-clause-counts
returns-in-Err-rewrite-clause-counts g c =
    let before = gone_before c.args.rewriter.now.place.left c.loop-index.rewriter.place.left c.in-Ok.count c.loop-index.index c.loop-index.invariant.0.values c.loop-index.invariant.0.gone in
    let at : length c.args.rewriter.now.place.left - length c.loop-index.rewriter.place.left ≡ c.len-len.result - c.len-left.result = omega arith in
    counts_before false g.T.Rewritable.format c.args.rewriter.now.place.left c.in_item.result c.new-in-Err-rewrite.result c.in-Err-rewrite.fault (c.len-len.result - c.len-left.result) c.loop-index.index c.in-Ok.count c.in_item.ensures.error c.new-in-Err-rewrite.ensures.error c.in_item.ensures.item c.loop-index-test.true
    (subst (HasItemsBefore u32.Encodes g.T.Rewritable.format.Encodes c.args.rewriter.now.place.left c.in-Ok.count c.loop-index.index) at before)

pub returns-then-left-gt0-clause-counts : goal.returns-then-left-gt0-clause-counts
returns-then-left-gt0-clause-counts g c =
    let full : c.loop-index.index ≡ c.in-Ok.count = omega arith in
    let before = all_before c.args.rewriter.now.place.left c.loop-index.rewriter.place.left c.in-Ok.count c.loop-index.index c.loop-index.invariant.0.values c.loop-index.invariant.0.gone full in
    let at : length c.args.rewriter.now.place.left - length c.loop-index.rewriter.place.left ≡ c.len-len.result - c.len-left-2.result = omega arith in
    counts_refused false g.T.Rewritable.format c.args.rewriter.now.place.left c.refused.result (c.len-len.result - c.len-left-2.result) None c.refused.ensures.error (c.refused.ensures.item ∙ c.trailing.ensures.item) (subst (λ (n : ℕ). IsCountedAt u32.Encodes g.T.Rewritable.format.Encodes c.args.rewriter.now.place.left n None) at before)

pub returns-clause-rest : goal.returns-clause-rest
returns-clause-rest g c = c.loop-index.invariant.1
