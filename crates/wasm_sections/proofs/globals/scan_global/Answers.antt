use Rattle.wasm_codec.proofs.ScanLaws.{from_start}
use Rattle.wasm_externals.specs.formats.Expressions.{expr}
use Rattle.wasm_sections.proofs.ScannedEntries.{global_scanned}
use Rattle.wasm_sections.proofs.globals.scan_global.Goals as goal

pub returns : goal.returns
returns c =
    let bytes = c.args.bytes.now in
    let ty = c.in_ok-ty.ty in
    let init = c.in_ok-init.init in
    global_scanned bytes ty init c.in_ok-ty.ensures (from_start expr bytes ty init c.in_ok-init.ensures)
