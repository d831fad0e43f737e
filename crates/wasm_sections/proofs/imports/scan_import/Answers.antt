use Rattle.std.proofs.Common.{◌+◌}
use Rattle.wasm_codec.proofs.ScanLaws.{from_start}
use Rattle.wasm_externals.specs.formats.Names.{name}
use Rattle.wasm_externals.specs.formats.Externals.{entity_type}
use Rattle.wasm_sections.proofs.ScannedEntries.{import_scanned}
use Rattle.wasm_sections.proofs.imports.scan_import.Goals as goal

pub returns : goal.returns
returns c =
    let bytes = c.args.bytes.now in
    let first = c.in_ok-module_name.module_name in
    let field = c.in_ok-field.field in
    let ty = c.in_ok-ty.ty in
    import_scanned bytes first field ty c.in_ok-module_name.ensures (from_start name bytes first field c.in_ok-field.ensures) (from_start entity_type bytes (first + field) ty c.in_ok-ty.ensures)
