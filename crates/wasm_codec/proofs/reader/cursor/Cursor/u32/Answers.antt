use Rattle.wasm_codec.proofs.NumberReading.{u32_one}
use Rattle.wasm_codec.proofs.reader.cursor.Cursor.u32.Goals as goal

pub returns-in-Some : goal.returns-in-Some
returns-in-Some c =
    let p = u32_one c.args.self.now c.one_digit.new.self c.in-Some.byte c.in-Some.ensures.0 c.in-Some.ensures.1 in
    rw c.from.ensures (record { reads = p; err = tt; item = tt })
