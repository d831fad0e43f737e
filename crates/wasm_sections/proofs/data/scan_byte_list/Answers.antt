use Rattle.std.proofs.Common.{slice_index_or, refl, arith}
use Rattle.wasm_sections.proofs.ScannedEntries.{list_scanned}
use Rattle.wasm_sections.proofs.data.scan_byte_list.Goals as goal

pub returns : goal.returns
returns c = list_scanned c.args.bytes.now (slice_index_or c.args.bytes.now 0 0) (omega arith) refl (omega arith) (omega arith)
