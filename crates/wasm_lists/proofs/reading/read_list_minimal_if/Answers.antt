use Rattle.std.proofs.Common.{◌≡◌, ℕ, List, [], ◌∷◌, refl, ap, arith, length-append}
use Rattle.std.proofs.lemmas.Result.{err_from_is_err_and}
use Rattle.wasm_codec.specs.Places.{Place}
use Rattle.wasm_codec.specs.Lawful.{plain}
use Rattle.wasm_codec.specs.formats.Combinators.{u32, minimal_if}
use Rattle.wasm_codec.proofs.ListLaws.{gone_none, gone_more, count_wanting, unread_count, item_wanting, unread_item, all_read, all_answered}
use Rattle.wasm_codec.proofs.PlaceLists.{plain_reads, passed_none, passed_more, passed_fault, passed_all, no_count}
use Rattle.wasm_codec.proofs.RefusalNumbers.{all_before, breaks_at_read, breaks_nowhere, count_fault, item_fault}
use Rattle.wasm_lists.proofs.EndLaws.{unread}
use Rattle.wasm_codec.proofs.MinimalIfLaws.{flag}
use Rattle.wasm_lists.proofs.reading.read_list_minimal_if.Goals as goal

pub returns-in_err-count : goal.returns-in_err-count
returns-in_err-count g c =
    let p = err_from_is_err_and c.from_residual.result c.from_residual.ensures.1 in
    let fault = c.in_err-count.field-0.0 in
    let h = c.in_err-count.ensures in
    let old = c.args.cursor.now in
    let new = c.read_next_item.new.cursor in
    let number = minimal_if (flag g.row.STRICT) u32 in
    let item = minimal_if (flag g.row.STRICT) g.T.Readable.format in
    let a = count_wanting {X = List g.row.T.Denot} (plain_reads h.lawful.reads) item.Encodes (plain item.at) old.left new.left fault h.left (ap (λ (p : Place). p.left) h.stays) in
    rw (p.1, p.2) (record {
      reads = no_count number.at item old new fault h.reads;
      left = unread_count (plain number.at) (plain item.at) old.left new.left fault h.left;
      finds = a.finds;
      prefix = a.prefix;
      counted = tt;
      numbers = count_fault (List g.row.T.Denot) ℕ (flag g.row.STRICT) g.T.Readable.format old.left new.left fault (ap (λ (p : Place). p.left) h.stays) (h.count refl);
      names = breaks_nowhere (List g.row.T.Denot) ℕ number item old.left fault (h.count refl);
    })

pub loop-index-init : goal.loop-index-init
loop-index-init g c =
    let h = c.in_ok-count.ensures in
    let number = minimal_if (flag g.row.STRICT) u32 in
    let item = minimal_if (flag g.row.STRICT) g.T.Readable.format in
    rw (c.new-items.ensures.items, g.T.Readable.views_each.none) (record {
      passed = passed_none number.at item c.args.cursor.now c.read_next_item.new.cursor c.in_ok-count.count h.reads;
      gone = gone_none (plain_reads h.lawful.reads) item.Encodes (plain item.at) c.args.cursor.now.left c.read_next_item.new.cursor.left c.in_ok-count.count h.bytes h.left;
      len = refl;
      minimal_if = h.passed;
    })

pub returns-in_err-item : goal.returns-in_err-item
returns-in_err-item g c =
    let p = err_from_is_err_and c.from_residual-in_err-item.result c.from_residual-in_err-item.ensures.1 in
    let fault = c.in_err-item.field-0.0 in
    let vs = g.T.Readable.views c.loop-index.items.items in
    let h = c.in_err-item.ensures in
    let old = c.args.cursor.now in
    let here = c.loop-index.cursor in
    let new = c.read_next_item-in-loop-index.new.cursor in
    let number = minimal_if (flag g.row.STRICT) u32 in
    let item = minimal_if (flag g.row.STRICT) g.T.Readable.format in
    let a = item_wanting {X = List g.row.T.Denot} (plain_reads h.lawful.reads) h.some old.left here.left new.left c.in_ok-count.count c.loop-index.index vs fault c.loop-index.invariant.gone c.loop-index-test.true h.left (ap (λ (p : Place). p.left) h.stays) in
    rw (p.1, p.2) (record {
      reads = passed_fault number.at item old here new c.in_ok-count.count c.loop-index.index vs fault c.loop-index.invariant.passed c.loop-index-test.true h.reads;
      left = unread_item old.left here.left new.left c.in_ok-count.count c.loop-index.index vs fault c.loop-index.invariant.gone c.loop-index-test.true h.left;
      finds = a.finds;
      prefix = a.prefix;
      counted = tt;
      numbers = item_fault (List g.row.T.Denot) g.T.Readable.Value (flag g.row.STRICT) g.T.Readable.format old.left here.left new.left c.in_ok-count.count c.loop-index.index vs fault c.loop-index.invariant.gone c.loop-index-test.true (ap (λ (p : Place). p.left) h.stays) (h.item c.loop-index.index refl);
      names = breaks_at_read (List g.row.T.Denot) g.T.Readable.Value number item old.left here.left c.in_ok-count.count c.loop-index.index vs fault c.loop-index.invariant.gone c.loop-index-test.true (unread (plain item.at) here.left new.left fault h.left) (h.item c.loop-index.index refl);
    })

pub loop-index-preserved : goal.loop-index-preserved
loop-index-preserved g c =
    let h = c.in_ok-item.ensures in
    let vs = g.T.Readable.views c.loop-index.items.items in
    let v = g.T.Readable.view c.in_ok-item.item in
    let number = minimal_if (flag g.row.STRICT) u32 in
    let item = minimal_if (flag g.row.STRICT) g.T.Readable.format in
    rw (c.in_ok-push.ensures.items, g.T.Readable.views_each.more c.loop-index.items.items c.in_ok-item.item) (record {
      passed = passed_more number.at item c.args.cursor.now c.loop-index.cursor c.read_next_item-in-loop-index.new.cursor c.in_ok-count.count c.loop-index.index vs v c.loop-index.invariant.passed c.loop-index-test.true h.reads;
      gone = gone_more (plain_reads h.lawful.reads) h.some c.args.cursor.now.left c.loop-index.cursor.left c.read_next_item-in-loop-index.new.cursor.left c.in_ok-count.count c.loop-index.index vs v c.loop-index.invariant.gone c.loop-index-test.true h.left;
      len = omega (arith, length-append c.loop-index.items.items (c.in_ok-item.item ∷ []), c.loop-index.invariant.len);
      minimal_if = h.passed;
    })

pub returns : goal.returns
returns g c =
    let vs = g.T.Readable.views c.loop-index.items.items in
    let full : c.loop-index.index ≡ c.in_ok-count.count = omega arith in
    let number = minimal_if (flag g.row.STRICT) u32 in
    let item = minimal_if (flag g.row.STRICT) g.T.Readable.format in
    let a = all_answered c.args.cursor.now.left c.loop-index.cursor.left c.in_ok-count.count c.loop-index.index vs c.loop-index.items.items c.loop-index.invariant.gone full in
    rw c.from.ensures (record {
      reads = passed_all number.at item c.args.cursor.now c.loop-index.cursor c.in_ok-count.count c.loop-index.index vs c.loop-index.invariant.passed c.loop-index-test.false;
      left = all_read c.args.cursor.now.left c.loop-index.cursor.left c.in_ok-count.count c.loop-index.index vs c.loop-index.invariant.gone c.loop-index-test.false;
      finds = a.finds;
      prefix = a.prefix;
      counted = omega arith;
      numbers = all_before c.args.cursor.now.left c.loop-index.cursor.left c.in_ok-count.count c.loop-index.index vs c.loop-index.invariant.gone full;
      names = λ index e. absurd e;
    })
