use Rattle.std.proofs.Common.{Some, ◌+◌, ◌-◌, length, take, drop, subst, arith}
use Rattle.wasm_codec.specs.Scanning.{Scans}
use Rattle.wasm_codec.specs.formats.Combinators.{u32}
use Rattle.wasm_codec.proofs.ScanLaws.{from_start}
use Rattle.wasm_sections.proofs.ScannedEntries.{export_scanned}
use Rattle.wasm_sections.proofs.exports.scan_export.Goals as goal

pub returns-in-Some-Minimal : goal.returns-in-Some-Minimal
returns-in-Some-Minimal c =
    let bytes = c.args.bytes.now in
    let text = c.in_ok-name.name in
    let n = c.in-Some-Minimal.count in
    let index = subst (λ s. Scans u32 (take (length bytes - (text + 1)) (drop (text + 1) bytes)) (Some s)) c.in-Some-Minimal.field-0-is c.in-Some-Minimal.ensures in
    export_scanned bytes text n (omega (arith, c.if-name-bytes.false)) c.if-bytes-name-ge5.false c.in_ok-name.ensures (from_start u32 bytes (text + 1) n index)
