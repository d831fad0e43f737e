use Rattle.std.proofs.Common.{◌≡◌, ◌∙◌, ◌≤◌, ℕ, [], length, length-drop, ap, sym, true, false, arith}
use Rattle.std.proofs.lemmas.List.{nil_from_length}
use Rattle.wasm_codec.specs.Rewriter.{Rewriting, skipped}
use Rattle.wasm_codec.proofs.RefusalNumbers.{stops_in_item, counted_before, counted_more, counted_none, counted_skipped}
use Rattle.wasm_codec.proofs.RewriterLaws.{going, goes_on, run_passed, all_gone, stops}
use Rattle.wasm_lists.proofs.rewriting.rewrite_joined.Goals as goal

pub loop-rewriter-init : goal.loop-rewriter-init
loop-rewriter-init g c = record { going = going g.T.Rewritable.format c.args.rewriter.now; few = omega arith; counted = λ never. counted_none g.T.Rewritable.format c.args.rewriter.now.place.left }

pub returns-in-Err : goal.returns-in-Err
returns-in-Err g c =
    let law = c.is_lawful.ensures in
    let old = c.args.rewriter.now in
    let here = c.rewrite_scanned_item.new.rewriter in
    let same = c.rewrite_scanned_item.ensures.none c.if-rewrite_scanned_item.false in
    let skip-is : here ≡ skipped c.short_run-run.result c.loop-rewriter.rewriter = same ∙ c.skip.ensures in
    let len : c.len-left.result ≡ length here.place.left = rw same c.len-left.ensures in
    let passed = run_passed law.lawful law.some old c.loop-rewriter.rewriter here c.left.result.now c.short_run-run.result c.are_bytes.ensures c.loop-rewriter.invariant.going c.left.ensures c.short_run-run.ensures.begins skip-is in
    rw c.new.ensures (record {
      rewrites = stops law.lawful old here c.rewrite.new.rewriter c.rewrite.new.rewriter c.in-Err.fault c.len-left.result c.loop-rewriter.passed c.are_bytes.ensures passed (omega arith) len c.in-Err.ensures.rewrites;
      passed = λ never. λ malformed. counted_before g.T.Rewritable.format old.place.left here.place.left c.loop-rewriter.passed c.len-left.result
          (counted_skipped g.T.Rewritable.format old c.loop-rewriter.rewriter here c.loop-rewriter.passed c.short_run-run.result (c.short_run-run.ensures.never never) skip-is (c.loop-rewriter.invariant.counted never)) len;
      names = stops_in_item (Unit {0}) g.T.Rewritable.Breaks old.place.left passed.progress.prefix here.place.left c.len-left.result c.loop-rewriter.passed c.in-Err.fault passed.progress.parts len (c.in-Err.ensures.names);
    })

pub loop-rewriter-smaller-then-left-ne0 : goal.loop-rewriter-smaller-then-left-ne0
loop-rewriter-smaller-then-left-ne0 g c =
    let law = c.is_lawful.ensures in
    let here = c.rewrite_scanned_item.new.rewriter in
    let same = c.rewrite_scanned_item.ensures.none c.if-rewrite_scanned_item.false in
    let skip-is : here ≡ skipped c.short_run-run.result c.loop-rewriter.rewriter = same ∙ c.skip.ensures in
    let len : c.len-left.result ≡ length here.place.left = rw same c.len-left.ensures in
    let passed = run_passed law.lawful law.some c.args.rewriter.now c.loop-rewriter.rewriter here c.left.result.now c.short_run-run.result c.are_bytes.ensures c.loop-rewriter.invariant.going c.left.ensures c.short_run-run.ensures.begins skip-is in
    let fewer = (goes_on law.lawful law.some c.args.rewriter.now here c.rewrite.new.rewriter c.are_bytes.ensures passed (omega arith) c.in_default.ensures.rewrites).fewer in
    omega (arith, fewer, ap (λ (r : Rewriting). length r.place.left) skip-is, length-drop c.short_run-run.result c.loop-rewriter.rewriter.place.left)

pub loop-rewriter-preserved-then-left-ne0 : goal.loop-rewriter-preserved-then-left-ne0
loop-rewriter-preserved-then-left-ne0 g c =
    let law = c.is_lawful.ensures in
    let old = c.args.rewriter.now in
    let here = c.rewrite_scanned_item.new.rewriter in
    let same = c.rewrite_scanned_item.ensures.none c.if-rewrite_scanned_item.false in
    let skip-is : here ≡ skipped c.short_run-run.result c.loop-rewriter.rewriter = same ∙ c.skip.ensures in
    let len : c.len-left.result ≡ length here.place.left = rw same c.len-left.ensures in
    let passed = run_passed law.lawful law.some old c.loop-rewriter.rewriter here c.left.result.now c.short_run-run.result c.are_bytes.ensures c.loop-rewriter.invariant.going c.left.ensures c.short_run-run.ensures.begins skip-is in
    let on = goes_on law.lawful law.some old here c.rewrite.new.rewriter c.are_bytes.ensures passed (omega arith) c.in_default.ensures.rewrites in
    record {
      going = on.going;
      few = omega (arith, c.loop-rewriter.invariant.few, on.fewer, ap (λ (r : Rewriting). length r.place.left) skip-is, length-drop c.short_run-run.result c.loop-rewriter.rewriter.place.left);
      counted = λ never. counted_more law.lawful law.some old here c.rewrite.new.rewriter c.loop-rewriter.passed c.are_bytes.ensures
          (counted_skipped g.T.Rewritable.format old c.loop-rewriter.rewriter here c.loop-rewriter.passed c.short_run-run.result (c.short_run-run.ensures.never never) skip-is (c.loop-rewriter.invariant.counted never)) c.in_default.ensures.rewrites;
    }

pub loop-rewriter-smaller-then-rewrite_scanned_item : goal.loop-rewriter-smaller-then-rewrite_scanned_item
loop-rewriter-smaller-then-rewrite_scanned_item g c =
    let law = c.is_lawful.ensures in
    let here = c.skip.new.self in
    let passed = run_passed law.lawful law.some c.args.rewriter.now c.loop-rewriter.rewriter here c.left.result.now c.short_run-run.result c.are_bytes.ensures c.loop-rewriter.invariant.going c.left.ensures c.short_run-run.ensures.begins c.skip.ensures in
    let fewer = (goes_on law.lawful law.some c.args.rewriter.now here c.rewrite_scanned_item.new.rewriter c.are_bytes.ensures passed (omega arith) (c.rewrite_scanned_item.ensures.rewrites c.if-rewrite_scanned_item.true)).fewer in
    omega (arith, fewer, ap (λ (r : Rewriting). length r.place.left) c.skip.ensures, length-drop c.short_run-run.result c.loop-rewriter.rewriter.place.left)

pub loop-rewriter-preserved-then-rewrite_scanned_item : goal.loop-rewriter-preserved-then-rewrite_scanned_item
loop-rewriter-preserved-then-rewrite_scanned_item g c =
    let law = c.is_lawful.ensures in
    let old = c.args.rewriter.now in
    let here = c.skip.new.self in
    let passed = run_passed law.lawful law.some old c.loop-rewriter.rewriter here c.left.result.now c.short_run-run.result c.are_bytes.ensures c.loop-rewriter.invariant.going c.left.ensures c.short_run-run.ensures.begins c.skip.ensures in
    let on = goes_on law.lawful law.some old here c.rewrite_scanned_item.new.rewriter c.are_bytes.ensures passed (omega arith) (c.rewrite_scanned_item.ensures.rewrites c.if-rewrite_scanned_item.true) in
    record {
      going = on.going;
      few = omega (arith, c.loop-rewriter.invariant.few, on.fewer, ap (λ (r : Rewriting). length r.place.left) c.skip.ensures, length-drop c.short_run-run.result c.loop-rewriter.rewriter.place.left);
      counted = λ never. let clash : true ≡ false = sym c.if-rewrite_scanned_item.true ∙ c.rewrite_scanned_item.ensures.never never in absurd cc;
    }

pub loop-rewriter-smaller-then-rare-gt0 : goal.loop-rewriter-smaller-then-rare-gt0
loop-rewriter-smaller-then-rare-gt0 g c =
    let here = c.rewrite_scanned_item.new.rewriter in
    let same = c.rewrite_scanned_item.ensures.none c.if-rewrite_scanned_item.false in
    let skip-is : here ≡ skipped c.short_run-run.result c.loop-rewriter.rewriter = same ∙ c.skip.ensures in
    let within : c.rare_run-rare.result ≤ length c.left-then-left-ne0.result.now = c.rare_run-rare.ensures.begins.within in
    omega (arith, within, ap (length {A = ℕ}) c.left-then-left-ne0.ensures, ap (λ (r : Rewriting). length r.place.left) skip-is, length-drop c.short_run-run.result c.loop-rewriter.rewriter.place.left, ap (λ (r : Rewriting). length r.place.left) c.skip-then-rare-gt0.ensures, length-drop c.rare_run-rare.result here.place.left)

pub loop-rewriter-preserved-then-rare-gt0 : goal.loop-rewriter-preserved-then-rare-gt0
loop-rewriter-preserved-then-rare-gt0 g c =
    let law = c.is_lawful.ensures in
    let old = c.args.rewriter.now in
    let here = c.rewrite_scanned_item.new.rewriter in
    let same = c.rewrite_scanned_item.ensures.none c.if-rewrite_scanned_item.false in
    let skip-is : here ≡ skipped c.short_run-run.result c.loop-rewriter.rewriter = same ∙ c.skip.ensures in
    let within : c.rare_run-rare.result ≤ length c.left-then-left-ne0.result.now = c.rare_run-rare.ensures.begins.within in
    let passed = run_passed law.lawful law.some old c.loop-rewriter.rewriter here c.left.result.now c.short_run-run.result c.are_bytes.ensures c.loop-rewriter.invariant.going c.left.ensures c.short_run-run.ensures.begins skip-is in
    record {
      going = run_passed law.lawful law.some old here c.skip-then-rare-gt0.new.self c.left-then-left-ne0.result.now c.rare_run-rare.result c.are_bytes.ensures passed c.left-then-left-ne0.ensures c.rare_run-rare.ensures.begins c.skip-then-rare-gt0.ensures;
      few = omega (arith, c.loop-rewriter.invariant.few, within, ap (length {A = ℕ}) c.left-then-left-ne0.ensures, ap (λ (r : Rewriting). length r.place.left) skip-is, length-drop c.short_run-run.result c.loop-rewriter.rewriter.place.left, ap (λ (r : Rewriting). length r.place.left) c.skip-then-rare-gt0.ensures, length-drop c.rare_run-rare.result here.place.left);
      counted = λ never. absurd (omega (arith, c.rare_run-rare.ensures.never never));
    }

pub loop-rewriter-preserved : goal.loop-rewriter-preserved
loop-rewriter-preserved g c =
    let law = c.is_lawful.ensures in
    let old = c.args.rewriter.now in
    let here = c.skip.new.self in
    record {
      going = run_passed law.lawful law.some old c.loop-rewriter.rewriter here c.left.result.now c.short_run-run.result c.are_bytes.ensures c.loop-rewriter.invariant.going c.left.ensures c.short_run-run.ensures.begins c.skip.ensures;
      few = omega (arith, c.loop-rewriter.invariant.few, ap (λ (r : Rewriting). length r.place.left) c.skip.ensures, length-drop c.short_run-run.result c.loop-rewriter.rewriter.place.left);
      counted = λ never. counted_skipped g.T.Rewritable.format old c.loop-rewriter.rewriter here c.loop-rewriter.passed c.short_run-run.result (c.short_run-run.ensures.never never) c.skip.ensures (c.loop-rewriter.invariant.counted never);
    }

pub returns : goal.returns
returns g c =
    let none : c.loop-rewriter.rewriter.place.left ≡ [] = nil_from_length c.loop-rewriter.rewriter.place.left (omega arith) in
    record { rewrites = (all_gone g.T.Rewritable.format c.args.rewriter.now c.loop-rewriter.rewriter c.loop-rewriter.invariant.going none, none); passed = λ never. tt; names = tt }
