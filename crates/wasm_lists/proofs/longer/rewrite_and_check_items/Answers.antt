use Rattle.std.proofs.Common.{◌≡◌, [], refl, arith}
use Rattle.std.proofs.lemmas.List.{nil_from_length}
use Rattle.wasm_codec.proofs.RefusalNumbers.{counted_before, stops_in_item}
use Rattle.wasm_lists.proofs.LongerLaws.{count_first, count_none, count_on, checked_none, checked_on, checked_all, checked_stops}
use Rattle.wasm_lists.proofs.longer.rewrite_and_check_items.Goals as goal

pub loop-rewriter-init : goal.loop-rewriter-init
loop-rewriter-init g c = record { checked = checked_none g.T.Rewritable.format c.args.rewriter.now; count = count_none g.T.Rewritable.format c.args.rewriter.now; few = omega arith }

pub returns-in-Err : goal.returns-in-Err
returns-in-Err g c =
    let old = c.args.rewriter.now in
    let here = c.loop-rewriter.rewriter in
    let i = c.loop-rewriter.invariant in
    let progress = i.checked.going.progress in
    record {
      checks = checked_stops c.is_lawful.ensures.lawful old here c.rewrite_and_check_item.new.rewriter c.rewrite_and_check_item.new.rewriter c.loop-rewriter.first c.in-Err.fault record { left = c.len-left.result; passed = c.loop-rewriter.passed; fault = c.in-Err.fault } c.are_bytes.ensures i.checked (omega arith) c.len-left.ensures refl c.in-Err.ensures.checks;
      passed = λ malformed. counted_before g.T.Rewritable.format old.place.left here.place.left c.loop-rewriter.passed c.len-left.result i.count.all c.len-left.ensures;
      names = stops_in_item (Unit {0}) g.T.Rewritable.Breaks old.place.left progress.prefix here.place.left c.len-left.result c.loop-rewriter.passed c.in-Err.fault progress.parts c.len-left.ensures c.in-Err.ensures.names;
      counts = tt;
    }

pub loop-rewriter-smaller : goal.loop-rewriter-smaller
loop-rewriter-smaller g c =
    let law = c.is_lawful.ensures in
    (checked_on law.lawful law.some c.args.rewriter.now c.loop-rewriter.rewriter c.rewrite_and_check_item.new.rewriter record { left = c.len-left.result; passed = c.loop-rewriter.passed } c.are_bytes.ensures (omega arith) c.len-left.ensures c.loop-rewriter.first c.in-Ok.is_minimal c.loop-rewriter.invariant.checked c.in-Ok.ensures.checks).fewer

pub loop-rewriter-preserved : goal.loop-rewriter-preserved
loop-rewriter-preserved g c =
    let law = c.is_lawful.ensures in
    let i = c.loop-rewriter.invariant in
    let old = c.args.rewriter.now in
    let here = c.loop-rewriter.rewriter in
    let next = c.rewrite_and_check_item.new.rewriter in
    let on = checked_on law.lawful law.some old here next record { left = c.len-left.result; passed = c.loop-rewriter.passed } c.are_bytes.ensures (omega arith) c.len-left.ensures c.loop-rewriter.first c.in-Ok.is_minimal i.checked c.in-Ok.ensures.checks in
    rw c.first_of-first.ensures (record {
      checked = on.checked;
      count = count_on law.lawful law.some old here next record { left = c.len-left.result; passed = c.loop-rewriter.passed } c.are_bytes.ensures c.len-left.ensures c.loop-rewriter.first c.in-Ok.is_minimal i.count c.in-Ok.ensures.checks;
      few = omega (arith, i.few, on.fewer);
    })

pub returns : goal.returns
returns g c =
    let none : c.loop-rewriter.rewriter.place.left ≡ [] = nil_from_length c.loop-rewriter.rewriter.place.left (omega arith) in
    let i = c.loop-rewriter.invariant in
    record {
      checks = checked_all c.is_lawful.ensures.lawful c.is_lawful.ensures.some c.args.rewriter.now c.loop-rewriter.rewriter c.loop-rewriter.first c.are_bytes.ensures i.checked none;
      passed = tt;
      names = tt;
      counts = count_first g.T.Rewritable.format c.args.rewriter.now c.loop-rewriter.rewriter c.loop-rewriter.first c.loop-rewriter.passed i.count;
    }
