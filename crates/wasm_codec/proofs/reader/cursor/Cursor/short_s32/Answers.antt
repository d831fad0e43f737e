use Rattle.std.proofs.Common.{rules, ◌≡◌, ◌+◌, ◌-◌, ◌*◌, ◌%◌, ◌-ℤ◌, pos, negsuc, w32, FitsSigned, arith}
use Rattle.std.proofs.lemmas.Int.{ints, to_z-of_z}
use Rattle.wasm_codec.proofs.DigitSteps.{short_low, short_high}
use Rattle.wasm_codec.proofs.reader.cursor.Cursor.short_s32.Goals as goal

pub returns-then-last-lt64 : goal.returns-then-last-lt64
returns-then-last-lt64 c =
    let p = short_low c.args.self.now c.next_byte.new.self c.next_byte-2.new.self c.in_ok-first.first c.in_ok-last.last (omega (arith, c.if-first-lt128.false)) c.if-last-lt64.true (rw c.in_default.ensures.stays at c.in_ok-first.ensures) c.in_ok-last.ensures in
    let f : FitsSigned w32 c.from-then-last-lt64-2.result = search rules in
    rw (to_z-of_z w32 c.from-then-last-lt64-2.result f, c.keep.ensures, c.is_fewest.ensures, c.from-then-last-lt64-2.ensures, c.from-then-last-lt64.ensures, c.from.ensures, c.from-2.ensures) p

pub returns : goal.returns
returns c =
    let p = short_high c.args.self.now c.next_byte.new.self c.next_byte-2.new.self c.in_ok-first.first c.in_ok-last.last (omega (arith, c.if-first-lt128.false)) (omega (arith, c.if-last-lt64.false)) (omega (arith, c.if-last-ge128.false)) (rw c.in_default.ensures.stays at c.in_ok-first.ensures) c.in_ok-last.ensures in
    let f : FitsSigned w32 c.from-4.result = search rules in
    let n = c.in_ok-first.first % 128 + c.in_ok-last.last * 128 in
    let e : pos n -ℤ pos 16384 ≡ negsuc (16383 - n) = omega (arith, ints, c.if-last-ge128.false) in
    let g : FitsSigned w32 (negsuc (16383 - n)) = omega arith in
    rw (to_z-of_z w32 c.from-4.result f, c.keep-2.ensures, c.is_fewest-2.ensures, c.from-4.ensures, c.from-3.ensures, c.from.ensures, c.from-2.ensures, e, to_z-of_z w32 (negsuc (16383 - n)) g) (rw e at p)
