use Rattle.wasm_codec.specs.formats.Combinators.{items}
use Rattle.wasm_codec.proofs.ScanLaws.{from_start}
use Rattle.wasm_instructions.specs.formats.Operands.{catch_clause}
use Rattle.wasm_instructions.proofs.ScannedParts.{try_scanned}
use Rattle.wasm_instructions.proofs.normaliser.scan.prefixed.scan_try_table.Goals as goal

pub returns : goal.returns
returns c =
    let bytes = c.args.bytes.now in
    let ty_size = c.in_ok-ty.ty in
    let clauses_size = c.in_ok-clauses.clauses in
    try_scanned bytes ty_size clauses_size c.in_ok-ty.ensures (from_start (items catch_clause) bytes (ty_size) clauses_size c.in_ok-clauses.ensures)
