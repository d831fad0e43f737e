use Rattle.std.proofs.Common.{Some, take, drop, ◌-◌, length, subst, arith}
use Rattle.wasm_codec.specs.Scanning.{Scans}
use Rattle.wasm_codec.specs.formats.Combinators.{u32}
use Rattle.wasm_codec.proofs.ScanLaws.{from_start}
use Rattle.wasm_externals.specs.formats.Externals.{global_type}
use Rattle.wasm_externals.proofs.ScannedEntities.{function_scanned, global_scanned}
use Rattle.wasm_externals.proofs.types.scan_entity_type.Goals as goal

pub returns-in-Some-Minimal : goal.returns-in-Some-Minimal
returns-in-Some-Minimal c =
    let bytes = c.args.bytes.now in
    let n = c.in-Some-Minimal.count in
    let index = subst (λ s. Scans u32 (take (length bytes - 1) (drop 1 bytes)) (Some s)) c.in-Some-Minimal.field-0-is c.in-Some-Minimal.ensures in
    function_scanned bytes n (omega arith) c.in-0.is (from_start u32 bytes 1 n index)

pub returns-in_ok-count-in-3 : goal.returns-in_ok-count-in-3
returns-in_ok-count-in-3 c =
    let bytes = c.args.bytes.now in
    let n = c.in_ok-count-in-3.count in
    global_scanned bytes n (omega arith) c.in-3.is (from_start global_type bytes 1 n c.in_ok-count-in-3.ensures)
