use Rattle.std.proofs.Common.{Some, arith}
use Rattle.wasm_codec.specs.Scanning.{Scans}
use Rattle.wasm_codec.specs.declared.rewriter.scan.Scanned.TheVariants.{Minimal}
use Rattle.wasm_instructions.specs.formats.Operands.{block_type}
use Rattle.wasm_instructions.proofs.ScannedCalls.{first_is, empty_scanned}
use Rattle.wasm_instructions.proofs.normaliser.scan.parts.scan_any_block_type.Goals as goal

pub returns-then-bytes-eq64 : goal.returns-then-bytes-eq64
returns-then-bytes-eq64 c = first_is (λ bytes. Scans block_type bytes (Some (Minimal 1))) 0x40 c.args.bytes.now empty_scanned (omega arith) c.if-bytes-eq64.true
