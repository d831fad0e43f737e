use Rattle.std.proofs.Common.{true, List, length, refl, ap, arith}
use Rattle.wasm_codec.specs.Places.{Place, place}
use Rattle.wasm_codec.specs.formats.Combinators.{minimal_only}
use Rattle.wasm_codec.proofs.RefusalNumbers.{stops_behind, stops_in_item, unless_malformed}
use Rattle.wasm_lists.proofs.EndLaws.{none_counted, one_counted, longest_passed}
use Rattle.wasm_lists.proofs.reading.check_joined_items.Goals as goal

pub loop-cursor-init : goal.loop-cursor-init
loop-cursor-init g c = rw c.new-cursor.ensures (record { some = none_counted (minimal_only g.T.Readable.format) (place true c.args.bytes.now); minimal = refl; few = omega arith })

pub returns-in-Err-clause-stops : goal.returns-in-Err-clause-stops
returns-in-Err-clause-stops g c =
    let fault = c.in-Err.fault in
    let h = c.in-Err.ensures in
    let w = c.loop-cursor.invariant.some in
    let here = c.loop-cursor.cursor in
    let new = c.read_next_item.new.cursor in
    let F = minimal_only g.T.Readable.format in
    let longest = longest_passed (List g.row.T.Denot) h.lawful h.some (place true c.args.bytes.now) here new w.values fault h.bytes w.passed h.reads h.stays in
    rw c.new.ensures (stops_behind F c.args.bytes.now new.left (record { left = c.len-in-Err.result; passed = c.loop-cursor.passed; fault = fault }) (unless_malformed (List g.row.T.Denot) fault longest) (omega (arith, c.len-in-Err.ensures)) (omega (arith, ap (λ (p : Place). length p.left) h.stays)))

pub loop-cursor-smaller-in-Ok : goal.loop-cursor-smaller-in-Ok
loop-cursor-smaller-in-Ok g c =
    let h = c.in-Ok.ensures in
    (one_counted h.lawful h.some (place true c.args.bytes.now) c.loop-cursor.cursor c.read_next_item.new.cursor c.loop-cursor.passed (g.T.Readable.view c.in-Ok.field-0) h.bytes c.loop-cursor.invariant.some h.reads).fewer

pub loop-cursor-preserved-in-Ok : goal.loop-cursor-preserved-in-Ok
loop-cursor-preserved-in-Ok g c =
    let h = c.in-Ok.ensures in
    let one = one_counted h.lawful h.some (place true c.args.bytes.now) c.loop-cursor.cursor c.read_next_item.new.cursor c.loop-cursor.passed (g.T.Readable.view c.in-Ok.field-0) h.bytes c.loop-cursor.invariant.some h.reads in
    record { some = one.counted; minimal = h.passed; few = omega (arith, one.fewer, c.loop-cursor.invariant.few) }

pub returns-in-Err-clause-names : goal.returns-in-Err-clause-names
returns-in-Err-clause-names g c =
    let h = c.in-Err.ensures in
    let w = c.loop-cursor.invariant.some in
    let here = c.loop-cursor.cursor in
    rw c.new.ensures (stops_in_item g.row.T.Denot g.T.Readable.Breaks c.args.bytes.now w.passed.progress.prefix here.left c.len-in-Err.result c.loop-cursor.passed c.in-Err.fault w.passed.progress.parts (omega (arith, c.len-in-Err.ensures, ap (λ (p : Place). length p.left) h.stays)) (h.uncounted refl))
