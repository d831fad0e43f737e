use Rattle.std.proofs.Common.{◌≡◌, List, [], ◌∷◌, length, length-append, refl, ap, arith}
use Rattle.wasm_codec.specs.Places.{Place}
use Rattle.wasm_codec.specs.formats.Combinators.{minimal_if}
use Rattle.wasm_codec.proofs.MinimalIfLaws.{flag}
use Rattle.wasm_codec.proofs.ListReading.{end}
use Rattle.wasm_codec.proofs.RefusalNumbers.{stops_in_item, joined_before, stops_behind, unless_malformed}
use Rattle.wasm_lists.proofs.EndLaws.{none_passed, one_passed, wanting, all_passed, longest_passed, whole_passed, none_left}
use Rattle.wasm_lists.proofs.reading.read_items_minimal_if.Goals as goal

pub loop-alloc-init : goal.loop-alloc-init
loop-alloc-init g c = rw (c.new-items.ensures.items, g.T.Readable.views_each.none) (record { some = none_passed (minimal_if (flag g.row.STRICT) g.T.Readable.format) c.args.cursor.now; len = refl; minimal_if = c.requires.passed })

pub returns-in-Err : goal.returns-in-Err
returns-in-Err g c =
    let fault = c.in-Err.fault in
    let vs = g.T.Readable.views c.loop-alloc.items.items in
    let h = c.in-Err.ensures in
    let w = c.loop-alloc.invariant.some in
    let old = c.args.cursor.now in
    let here = c.loop-alloc.cursor in
    let new = c.read_next_item.new.cursor in
    let F = minimal_if (flag g.row.STRICT) g.T.Readable.format in
    let longest = longest_passed (List g.row.T.Denot) h.lawful h.some old here new vs fault h.bytes w h.reads h.stays in
    let left : c.len-in-Err.result ≡ length new.left = omega (arith, c.len-in-Err.ensures) in
    rw c.new.ensures (record {
      reads = wanting F old here new vs fault w (omega arith) h.reads;
      given = tt;
      prefix = longest;
      ended = tt;
      stopped = λ malformed. omega (arith, ap (λ (p : Place). length p.left) h.stays);
      stops = stops_behind F old.left new.left (record { left = c.len-in-Err.result; passed = c.len-in-Err-2.result; fault = fault }) (unless_malformed (List g.row.T.Denot) fault longest) left (omega (arith, ap (λ (p : Place). length p.left) h.stays));
      counts = λ malformed. joined_before F.Encodes old.left here.left vs c.len-in-Err-2.result c.len-in-Err.result w.progress (omega (arith, c.loop-alloc.invariant.len, c.len-in-Err-2.ensures)) (omega (arith, left, ap (λ (p : Place). length p.left) h.stays));
      names = stops_in_item g.row.T.Denot g.T.Readable.Breaks old.left w.progress.prefix here.left c.len-in-Err.result c.len-in-Err-2.result fault w.progress.parts (omega (arith, left, ap (λ (p : Place). length p.left) h.stays)) (h.uncounted refl);
    })

pub loop-alloc-smaller : goal.loop-alloc-smaller
loop-alloc-smaller g c =
    let h = c.in-Ok.ensures in
    (one_passed h.lawful h.some c.args.cursor.now c.loop-alloc.cursor c.read_next_item.new.cursor (g.T.Readable.views c.loop-alloc.items.items) (g.T.Readable.view c.in-Ok.item) h.bytes c.loop-alloc.invariant.some h.reads).fewer

pub loop-alloc-preserved : goal.loop-alloc-preserved
loop-alloc-preserved g c =
    let h = c.in-Ok.ensures in
    rw (c.in_ok-push.ensures.items, g.T.Readable.views_each.more c.loop-alloc.items.items c.in-Ok.item)
    (record {
      some = (one_passed h.lawful h.some c.args.cursor.now c.loop-alloc.cursor c.read_next_item.new.cursor (g.T.Readable.views c.loop-alloc.items.items) (g.T.Readable.view c.in-Ok.item) h.bytes c.loop-alloc.invariant.some h.reads).passed;
      len = omega (arith, c.loop-alloc.invariant.len, length-append (g.T.Readable.views c.loop-alloc.items.items) (g.T.Readable.view c.in-Ok.item ∷ []), length-append c.loop-alloc.items.items (c.in-Ok.item ∷ []));
      minimal_if = h.passed;
    })

pub returns : goal.returns
returns g c =
    let vs = g.T.Readable.views c.loop-alloc.items.items in
    let w = c.loop-alloc.invariant.some in
    rw c.from.ensures (record {
      reads = all_passed (minimal_if (flag g.row.STRICT) g.T.Readable.format) c.args.cursor.now c.loop-alloc.cursor vs w (omega arith);
      given = end (minimal_if (flag g.row.STRICT) g.T.Readable.format).Encodes c.args.cursor.now.left c.loop-alloc.cursor.left vs w.progress (omega arith);
      prefix = whole_passed c.args.cursor.now c.loop-alloc.cursor vs w (omega arith);
      ended = none_left c.loop-alloc.cursor.left (omega arith);
      stopped = tt;
      stops = tt;
      counts = tt;
      names = tt;
    })
