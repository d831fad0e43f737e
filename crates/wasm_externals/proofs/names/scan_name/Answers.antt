use Rattle.std.proofs.Common.{◌≡◌, take, drop, slice_index_or, subst, refl, arith}
use Rattle.wasm_instructions.proofs.ScannedPrefixed.{AreOnes, ones_taken}
use Rattle.wasm_externals.proofs.ScannedEntities.{name_scanned}
use Rattle.wasm_externals.proofs.names.scan_name.Goals as goal

pub loop-index-preserved : goal.loop-index-preserved
loop-index-preserved c = ones_taken c.args.bytes.now c.loop-index.index (omega arith) c.loop-index.invariant c.if-bytes-index-ge128.false

pub returns : goal.returns
returns c =
    let count = slice_index_or c.args.bytes.now 0 0 in
    let full : c.loop-index.index ≡ count = omega arith in
    name_scanned c.args.bytes.now count (omega arith) refl (omega arith) (omega arith) (subst (λ k. AreOnes (take k (drop 1 c.args.bytes.now))) full c.loop-index.invariant)
