use Rattle.wasm_codec.proofs.FormatLaws.{Lawful-u32}
use Rattle.wasm_codec.proofs.Shortening.{in_window}
use Rattle.wasm_lists.proofs.rewriting.numbers.number_len.Goals as goal

pub returns : goal.returns
returns c =
    let scan = c.in-Some-Minimal-scan_u32 in
    in_window Lawful-u32 c.args.bytes.now 5 scan.count c.are_bytes.ensures (rw scan.field-0-is at scan.ensures)
