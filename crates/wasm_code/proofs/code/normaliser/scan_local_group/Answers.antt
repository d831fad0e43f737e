use Rattle.std.proofs.Common.{Some}
use Rattle.wasm_codec.specs.Scanning.{Scans}
use Rattle.wasm_codec.specs.declared.rewriter.scan.Scanned.TheVariants.{Minimal}
use Rattle.wasm_codec.specs.formats.Combinators.{u32}
use Rattle.wasm_codec.proofs.ScanLaws.{from_start, pair_scanned}
use Rattle.wasm_types.specs.formats.Types.{val_type}
use Rattle.wasm_code.proofs.code.normaliser.scan_local_group.Goals as goal

pub returns : goal.returns
returns c =
    let bytes = c.args.bytes.now in
    let s = c.in-Some-Minimal in
    let n = c.in_ok-ty.ty in
    let number : Scans u32 bytes (Some (Minimal s.count)) = rw s.field-0-is at s.ensures in
    pair_scanned u32 val_type bytes s.count n number (from_start val_type bytes s.count n c.in_ok-ty.ensures)
