use Rattle.std.proofs.Common.{None, false, true, length, refl, arith}
use Rattle.wasm_codec.specs.Places.{place}
use Rattle.wasm_codec.proofs.ListReading.{IsBytes-from}
use Rattle.wasm_lists.proofs.ItemReadingLaws.{gives_items, reading_of}
use Rattle.wasm_lists.proofs.item_reader.ItemReader.to_end_at.Goals as goal

pub returns-clause-gives : goal.returns-clause-gives
returns-clause-gives g c =
    let h = c.is_lawful.ensures in
    let bytes = c.args.bytes.now in
    rw c.new.ensures (gives_items g.T.Readable.view g.T.Readable.format h.lawful h.some bytes (reading_of c.args.start (length bytes) (place true bytes) None 0 c.args.is_strict false) (IsBytes-from bytes (λ i. omega (arith, c.type_inv.bytes i))) refl refl refl)
