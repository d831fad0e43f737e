use Rattle.wasm_externals.proofs.ScannedEntities.{global_type_scanned}
use Rattle.wasm_externals.proofs.types.scan_global_type.Goals as goal

pub returns : goal.returns
returns c = global_type_scanned c.args.bytes.now c.if-bytes-lt2.false (c.is_whole_type.ensures c.if-not-is_whole_type.false) c.if-bytes-ge4.false
