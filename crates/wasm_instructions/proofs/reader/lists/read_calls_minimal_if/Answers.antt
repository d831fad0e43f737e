use Rattle.std.proofs.Common.{rules, ◌≡◌, List, length, sym, ap, subst, arith}
use Rattle.wasm_codec.specs.Places.{Place}
use Rattle.wasm_codec.specs.formats.Combinators.{minimal_if}
use Rattle.wasm_codec.proofs.MinimalIfLaws.{flag}
use Rattle.wasm_codec.proofs.RefusalNumbers.{stops_behind, unless_malformed}
use Rattle.wasm_lists.proofs.EndLaws.{PassedSome, one_passed, wanting, all_passed, longest_passed}
use Rattle.wasm_instructions.specs.formats.Instructions.{Instruction, instruction}
use Rattle.wasm_instructions.proofs.reader.lists.read_calls_minimal_if.Goals as goal

pub loop-alloc-smaller-in-Some : goal.loop-alloc-smaller-in-Some
loop-alloc-smaller-in-Some g c =
    let h = c.in-Some.ensures in
    (one_passed h.lawful h.some c.args.cursor.now c.loop-alloc.cursor c.read_next_frequent_call.new.cursor c.loop-alloc.calls.items c.in-Some.call h.bytes c.loop-alloc.invariant.some h.reads).fewer

pub loop-alloc-preserved-in-Some : goal.loop-alloc-preserved-in-Some
loop-alloc-preserved-in-Some g c =
    let h = c.in-Some.ensures in
    rw c.in_ok-push.ensures.items (record {
      some = (one_passed h.lawful h.some c.args.cursor.now c.loop-alloc.cursor c.read_next_frequent_call.new.cursor c.loop-alloc.calls.items c.in-Some.call h.bytes c.loop-alloc.invariant.some h.reads).passed;
      minimal_if = h.passed;
    })

pub returns-in-Err-clause-reads : goal.returns-in-Err-clause-reads
returns-in-Err-clause-reads g c =
    let here = c.read_next_frequent_call.new.cursor in
    let stays : here ≡ c.loop-alloc.cursor = search rules in
    let F = minimal_if (flag g.row.STRICT) instruction in
    let w = subst (λ (p : Place). PassedSome F c.args.cursor.now p c.loop-alloc.calls.items) (sym stays) c.loop-alloc.invariant.some in
    rw c.new.ensures (wanting F c.args.cursor.now here c.read_next_item.new.cursor c.loop-alloc.calls.items c.in-Err.fault w (omega (arith, ap (λ (p : Place). length p.left) stays)) c.in-Err.ensures.reads)

pub returns-in-Err-clause-stops : goal.returns-in-Err-clause-stops
returns-in-Err-clause-stops g c =
    let fault = c.in-Err.fault in
    let h = c.in-Err.ensures in
    let old = c.args.cursor.now in
    let here = c.read_next_frequent_call.new.cursor in
    let new = c.read_next_item.new.cursor in
    let stays : here ≡ c.loop-alloc.cursor = search rules in
    let F = minimal_if (flag g.row.STRICT) instruction in
    let w = subst (λ (p : Place). PassedSome F old p c.loop-alloc.calls.items) (sym stays) c.loop-alloc.invariant.some in
    let longest = longest_passed (List Instruction) h.lawful h.some old here new c.loop-alloc.calls.items fault h.bytes w h.reads h.stays in
    let left : c.len-in-Err.result ≡ length new.left = omega (arith, c.len-in-Err.ensures) in
    rw c.new.ensures (stops_behind F old.left new.left (record { left = c.len-in-Err.result; passed = c.len-in-Err-2.result; fault = fault }) (unless_malformed (List Instruction) fault longest) left (omega (arith, ap (λ (p : Place). length p.left) h.stays, ap (λ (p : Place). length p.left) stays)))

pub loop-alloc-smaller : goal.loop-alloc-smaller
loop-alloc-smaller g c =
    let h = c.in-Ok.ensures in
    let here = c.read_next_frequent_call.new.cursor in
    let stays : here ≡ c.loop-alloc.cursor = search rules in
    let w = subst (λ (p : Place). PassedSome (minimal_if (flag g.row.STRICT) instruction) c.args.cursor.now p c.loop-alloc.calls.items) (sym stays) c.loop-alloc.invariant.some in
    let one = one_passed h.lawful h.some c.args.cursor.now here c.read_next_item.new.cursor c.loop-alloc.calls.items c.in-Ok.call h.bytes w h.reads in
    omega (arith, one.fewer, ap (λ (p : Place). length p.left) stays)

pub loop-alloc-preserved : goal.loop-alloc-preserved
loop-alloc-preserved g c =
    let h = c.in-Ok.ensures in
    let here = c.read_next_frequent_call.new.cursor in
    let stays : here ≡ c.loop-alloc.cursor = search rules in
    let w = subst (λ (p : Place). PassedSome (minimal_if (flag g.row.STRICT) instruction) c.args.cursor.now p c.loop-alloc.calls.items) (sym stays) c.loop-alloc.invariant.some in
    rw c.in_ok-push-2.ensures.items (record {
      some = (one_passed h.lawful h.some c.args.cursor.now here c.read_next_item.new.cursor c.loop-alloc.calls.items c.in-Ok.call h.bytes w h.reads).passed;
      minimal_if = h.passed;
    })

pub returns-clause-reads : goal.returns-clause-reads
returns-clause-reads g c =
    rw c.from.ensures (all_passed (minimal_if (flag g.row.STRICT) instruction) c.args.cursor.now c.loop-alloc.cursor c.loop-alloc.calls.items c.loop-alloc.invariant.some (omega arith))
