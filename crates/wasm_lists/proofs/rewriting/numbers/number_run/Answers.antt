use Rattle.std.proofs.Common.{◌≡◌, ◌-◌, length, take, drop, length-drop, arith}
use Rattle.std.proofs.lemmas.List.{take_all}
use Rattle.wasm_codec.specs.formats.Combinators.{u32}
use Rattle.wasm_codec.proofs.Skipping.{run_low, run_scanned}
use Rattle.wasm_lists.proofs.rewriting.numbers.number_run.Goals as goal

pub loop-items-preserved-then-begins_low : goal.loop-items-preserved-then-begins_low
loop-items-preserved-then-begins_low c =
    let bytes = c.args.bytes.now in
    let left = drop c.loop-items.size bytes in
    let all : take (length bytes - c.loop-items.size) left ≡ left = take_all (length bytes - c.loop-items.size) left (omega (arith, length-drop c.loop-items.size bytes)) in
    record {
      few = omega arith;
      begins = run_low bytes c.loop-items.items c.loop-items.size 8 c.loop-items.invariant.begins (rw all at (c.begins_low.ensures.within c.if-begins_low.true)) (rw all at (c.begins_low.ensures.low c.if-begins_low.true));
    }

pub loop-items-preserved : goal.loop-items-preserved
loop-items-preserved c =
    let bytes = c.args.bytes.now in
    let left = drop c.loop-items.size bytes in
    let all : take (length bytes - c.loop-items.size) left ≡ left = take_all (length bytes - c.loop-items.size) left (omega (arith, length-drop c.loop-items.size bytes)) in
    record {
      few = omega arith;
      begins = run_scanned u32 bytes c.loop-items.items c.loop-items.size c.in-Some.count c.loop-items.invariant.begins (rw all at c.in-Some.ensures);
    }
