use Rattle.wasm_codec.proofs.ScanLaws.{from_start}
use Rattle.wasm_instructions.specs.formats.Instructions.{operands_format}
use Rattle.wasm_instructions.proofs.ScannedPrefixed.{opcode_scanned}
use Rattle.wasm_instructions.proofs.normaliser.scan.prefixed.scan_rare_call.Goals as goal

pub returns : goal.returns
returns c =
    let bytes = c.args.bytes.now in
    let k = c.in_ok-kind.kind in
    let start = c.in_ok-kind.start in
    let n = c.in_ok-operands.operands in
    opcode_scanned bytes k start n c.in_ok-kind.ensures (from_start (operands_format k) bytes start n c.in_ok-operands.ensures)
