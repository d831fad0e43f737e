use Rattle.std.proofs.Common.{◌+◌, arith}
use Rattle.wasm_codec.specs.formats.Combinators.{u32}
use Rattle.wasm_codec.proofs.ScanLaws.{from_start}
use Rattle.wasm_instructions.proofs.ScannedParts.{pair_clause_scanned, all_clause_scanned}
use Rattle.wasm_instructions.proofs.normaliser.scan.parts.scan_clause.Goals as goal

pub returns-then-bytes-gt1 : goal.returns-then-bytes-gt1
returns-then-bytes-gt1 c =
    let bytes = c.args.bytes.now in
    let m = c.in_ok-first.first in
    all_clause_scanned bytes m (omega arith) (omega arith) (omega arith) (from_start u32 bytes 1 m c.in_ok-first.ensures)

pub returns : goal.returns
returns c =
    let bytes = c.args.bytes.now in
    let m = c.in_ok-first.first in
    let n = c.in_ok-label.label in
    pair_clause_scanned bytes m n (omega arith) (omega arith) (from_start u32 bytes 1 m c.in_ok-first.ensures) (from_start u32 bytes (1 + m) n c.in_ok-label.ensures)
