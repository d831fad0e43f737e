use Rattle.std.proofs.Common.{arith}
use Rattle.wasm_codec.proofs.ScanLaws.{from_start}
use Rattle.wasm_types.specs.formats.Types.{val_type}
use Rattle.wasm_instructions.proofs.ScannedParts.{one_type_scanned}
use Rattle.wasm_instructions.proofs.normaliser.scan.parts.scan_one_type.Goals as goal

pub returns : goal.returns
returns c =
    let bytes = c.args.bytes.now in
    let n = c.in_ok-ty.ty in
    one_type_scanned bytes n (omega arith) (omega (arith, c.if-bytes-ne1.false)) (from_start val_type bytes 1 n c.in_ok-ty.ensures)
