use Rattle.std.proofs.Common.{arith}
use Rattle.wasm_codec.specs.formats.Combinators.{u64}
use Rattle.wasm_codec.proofs.ScanLaws.{from_start}
use Rattle.wasm_instructions.proofs.ScannedParts.{named_scanned}
use Rattle.wasm_instructions.proofs.normaliser.scan.parts.scan_any_mem_arg.Goals as goal

pub returns-in-Some-Minimal-scan_u64 : goal.returns-in-Some-Minimal-scan_u64
returns-in-Some-Minimal-scan_u64 c =
    let bytes = c.args.bytes.now in
    let s = c.in-Some-Minimal-scan_u64 in
    named_scanned bytes s.count (omega arith) (omega arith) (omega arith) (omega arith) (omega arith) (from_start u64 bytes 2 s.count (rw s.field-0-is at s.ensures))
