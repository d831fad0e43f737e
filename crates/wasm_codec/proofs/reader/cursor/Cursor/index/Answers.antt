use Rattle.wasm_codec.proofs.NumberReading.{index_low, index_high}
use Rattle.wasm_codec.proofs.reader.cursor.Cursor.index.Goals as goal

pub returns-then-byte-ge64-clause-reads : goal.returns-then-byte-ge64-clause-reads
returns-then-byte-ge64-clause-reads c = index_high c.args.self.now c.one_digit.new.self c.in-Some.byte c.if-byte-ge64.true c.in-Some.ensures.0 c.in-Some.ensures.1

pub returns-in-Some : goal.returns-in-Some
returns-in-Some c =
    let p = index_low c.args.self.now c.one_digit.new.self c.in-Some.byte c.if-byte-ge64.false c.in-Some.ensures.1 in
    rw c.from.ensures (record { reads = p; err = tt })
