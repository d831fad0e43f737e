use Rattle.std.proofs.Common.{arith}
use Rattle.wasm_codec.specs.formats.Combinators.{index}
use Rattle.wasm_codec.proofs.ScanLaws.{from_start}
use Rattle.wasm_types.specs.formats.Types.{heap_type}
use Rattle.wasm_types.proofs.ScannedValTypes.{nullable_scanned, bare_scanned}
use Rattle.wasm_types.proofs.types.value.scan_val_type.Goals as goal

pub returns-in_ok-index-in-99 : goal.returns-in_ok-index-in-99
returns-in_ok-index-in-99 c =
    let bytes = c.args.bytes.now in
    let n = c.in_ok-index-in-99.index in
    nullable_scanned bytes n (omega arith) c.in-99.is (from_start index bytes 1 n c.in_ok-index-in-99.ensures)

pub returns-in_ok-heap-in-100 : goal.returns-in_ok-heap-in-100
returns-in_ok-heap-in-100 c =
    let bytes = c.args.bytes.now in
    let n = c.in_ok-heap-in-100.heap in
    bare_scanned bytes n (omega arith) c.in-100.is (from_start heap_type bytes 1 n c.in_ok-heap-in-100.ensures)
