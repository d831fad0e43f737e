use Rattle.wasm_codec.proofs.NumberReading.{u64_one}
use Rattle.wasm_codec.proofs.reader.cursor.Cursor.short_u64.Goals as goal

pub returns-in-Some-clause-reads : goal.returns-in-Some-clause-reads
returns-in-Some-clause-reads c =
    let p = u64_one c.args.self.now c.one_digit.new.self c.in-Some.byte c.in-Some.ensures.0 c.in-Some.ensures.1 in
    rw c.from.ensures p
