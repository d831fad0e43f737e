use Rattle.std.proofs.Common.{arith}
use Rattle.wasm_codec.proofs.DigitSteps.{short_one, short_two}
use Rattle.wasm_codec.proofs.reader.cursor.Cursor.short_u32.Goals as goal

pub returns-then-first-lt128 : goal.returns-then-first-lt128
returns-then-first-lt128 c = rw c.from.ensures (short_one c.args.self.now c.next_byte.new.self c.in_ok-first.first c.if-first-lt128.true c.in_ok-first.ensures)

pub returns : goal.returns
returns c =
    let p = short_two c.args.self.now c.next_byte.new.self c.next_byte-2.new.self c.in_ok-first.first c.in_ok-last.last (omega (arith, c.if-first-lt128.false)) (omega (arith, c.if-last-ge128.false)) c.in_ok-first.ensures c.in_ok-last.ensures in
    rw (c.keep.ensures, c.is_fewest.ensures, c.from-4.ensures, c.from-2.ensures, c.from-3.ensures) p
