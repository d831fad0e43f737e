use Rattle.std.proofs.Common.{◌≡◌, take, drop, slice_index_or, subst, refl, arith}
use Rattle.wasm_types.proofs.ScannedTypes.{AreWhole, whole_taken, result_scanned}
use Rattle.wasm_types.proofs.types.function.scan_result_type.Goals as goal

pub loop-index-preserved : goal.loop-index-preserved
loop-index-preserved c = whole_taken c.args.bytes.now c.loop-index.index (omega arith) c.loop-index.invariant (c.is_whole_type.ensures c.if-not-is_whole_type.false)

pub returns : goal.returns
returns c =
    let full : c.loop-index.index ≡ slice_index_or c.args.bytes.now 0 0 = omega arith in
    result_scanned c.args.bytes.now (slice_index_or c.args.bytes.now 0 0) (omega arith) refl (omega arith) (omega arith) (subst (λ k. AreWhole (take k (drop 1 c.args.bytes.now))) full c.loop-index.invariant)
