use Rattle.std.proofs.Common.{◌+◌, arith}
use Rattle.wasm_codec.specs.formats.Bodies.{byte_list}
use Rattle.wasm_codec.proofs.ScanLaws.{from_start}
use Rattle.wasm_externals.specs.formats.Expressions.{expr}
use Rattle.wasm_sections.proofs.ScannedEntries.{active_scanned, passive_scanned}
use Rattle.wasm_sections.proofs.data.scan_data_segment.Goals as goal

pub returns-in_ok-contents-in-0 : goal.returns-in_ok-contents-in-0
returns-in_ok-contents-in-0 c =
    let bytes = c.args.bytes.now in
    let offset = c.in_ok-offset-in-0.offset in
    let contents = c.in_ok-contents-in-0.contents in
    active_scanned bytes offset contents (omega arith) c.in-0.is (from_start expr bytes 1 offset c.in_ok-offset-in-0.ensures) (from_start byte_list bytes (1 + offset) contents c.in_ok-contents-in-0.ensures)

pub returns-in_ok-contents-in-1 : goal.returns-in_ok-contents-in-1
returns-in_ok-contents-in-1 c =
    let bytes = c.args.bytes.now in
    let contents = c.in_ok-contents-in-1.contents in
    passive_scanned bytes contents (omega arith) c.in-1.is (from_start byte_list bytes 1 contents c.in_ok-contents-in-1.ensures)
