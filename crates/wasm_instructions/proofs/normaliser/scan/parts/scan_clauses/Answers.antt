use Rattle.std.proofs.Common.{◌≡◌, ◌-◌, length, slice_index_or, take, drop, length-drop, refl, arith}
use Rattle.std.proofs.lemmas.List.{take_all}
use Rattle.wasm_codec.proofs.ScanLaws.{from_start}
use Rattle.wasm_codec.proofs.Skipping.{run_scanned}
use Rattle.wasm_instructions.specs.formats.Operands.{catch_clause}
use Rattle.wasm_instructions.proofs.ScannedParts.{items_scanned}
use Rattle.wasm_instructions.proofs.normaliser.scan.parts.scan_clauses.Goals as goal

pub loop-index-preserved : goal.loop-index-preserved
loop-index-preserved c =
    let bytes = c.args.bytes.now in
    let clauses = take (length bytes - 1) (drop 1 bytes) in
    let size = c.loop-index.size in
    let n = c.in_ok-clause.clause in
    record { few = omega arith; begins = run_scanned catch_clause clauses c.loop-index.index size n c.loop-index.invariant.begins (from_start catch_clause clauses size n c.in_ok-clause.ensures) }

pub returns : goal.returns
returns c =
    let bytes = c.args.bytes.now in
    let count = slice_index_or bytes 0 0 in
    let size = c.loop-index.size in
    let all : take (length bytes - 1) (drop 1 bytes) ≡ drop 1 bytes = take_all (length bytes - 1) (drop 1 bytes) (omega (arith, length-drop 1 bytes)) in
    let full : c.loop-index.index ≡ count = omega (arith, c.loop-index.invariant.few) in
    items_scanned catch_clause bytes count size (omega arith) refl (omega arith) (rw (full, all) at c.loop-index.invariant.begins)
