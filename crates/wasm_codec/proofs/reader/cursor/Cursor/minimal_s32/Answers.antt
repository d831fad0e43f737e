use Rattle.std.proofs.Common.{rules, ◌≡◌, pos, negsuc, ◌-◌, ◌-ℤ◌, w32, FitsSigned, arith}
use Rattle.std.proofs.lemmas.Int.{ints, to_z-of_z}
use Rattle.wasm_codec.proofs.NumberReading.{s32_low, s32_high}
use Rattle.wasm_codec.proofs.reader.cursor.Cursor.minimal_s32.Goals as goal

pub returns-then-byte-lt64-clause-reads : goal.returns-then-byte-lt64-clause-reads
returns-then-byte-lt64-clause-reads c =
    let p = s32_low c.args.self.now c.one_digit.new.self c.in-Some.byte c.if-byte-lt64.true c.in-Some.ensures.1 in
    let f : FitsSigned w32 c.from-value.result = search rules in
    rw (to_z-of_z w32 c.from-value.result f, c.from-value.ensures) p

pub returns-else-byte-lt64-clause-reads : goal.returns-else-byte-lt64-clause-reads
returns-else-byte-lt64-clause-reads c =
    let p = s32_high c.args.self.now c.one_digit.new.self c.in-Some.byte c.if-byte-lt64.false c.in-Some.ensures.0 c.in-Some.ensures.1 in
    let f : FitsSigned w32 c.from-value.result = search rules in
    let e : pos c.in-Some.byte -ℤ pos 128 ≡ negsuc (127 - c.in-Some.byte) = omega (arith, ints, c.in-Some.ensures.0) in
    let g : FitsSigned w32 (negsuc (127 - c.in-Some.byte)) = omega arith in
    rw (to_z-of_z w32 c.from-value.result f, c.from-value.ensures, e, to_z-of_z w32 (negsuc (127 - c.in-Some.byte)) g) (rw e at p)
