use Rattle.std.proofs.Common.{rules, ◌≡◌, pos, negsuc, ◌-◌, ◌-ℤ◌, w64, FitsSigned, arith}
use Rattle.std.proofs.lemmas.Int.{ints, to_z-of_z}
use Rattle.wasm_codec.proofs.NumberReading.{s64_low, s64_high}
use Rattle.wasm_codec.proofs.reader.cursor.Cursor.s64.Goals as goal

pub returns-then-byte-lt64 : goal.returns-then-byte-lt64
returns-then-byte-lt64 c =
    let p = s64_low c.args.self.now c.one_digit.new.self c.in-Some.byte c.if-byte-lt64.true c.in-Some.ensures.1 in
    let f : FitsSigned w64 c.from-value.result = search rules in
    rw (to_z-of_z w64 c.from-value.result f, c.from-value.ensures) (record { reads = p; err = tt })

pub returns-else-byte-lt64 : goal.returns-else-byte-lt64
returns-else-byte-lt64 c =
    let p = s64_high c.args.self.now c.one_digit.new.self c.in-Some.byte c.if-byte-lt64.false c.in-Some.ensures.0 c.in-Some.ensures.1 in
    let f : FitsSigned w64 c.from-value.result = search rules in
    let e : pos c.in-Some.byte -ℤ pos 128 ≡ negsuc (127 - c.in-Some.byte) = omega (arith, ints, c.in-Some.ensures.0) in
    let g : FitsSigned w64 (negsuc (127 - c.in-Some.byte)) = omega arith in
    rw (to_z-of_z w64 c.from-value.result f, c.from-value.ensures, e, to_z-of_z w64 (negsuc (127 - c.in-Some.byte)) g) (let q = rw e at p in record { reads = q; err = tt })
