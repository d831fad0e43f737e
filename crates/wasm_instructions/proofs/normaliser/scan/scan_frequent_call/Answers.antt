use Rattle.std.proofs.Common.{arith}
use Rattle.wasm_instructions.proofs.ScannedCalls.{variable_scanned}
use Rattle.wasm_instructions.proofs.normaliser.scan.scan_frequent_call.Goals as goal

pub returns : goal.returns
returns c = variable_scanned c.args.bytes.now c.in_ok-scan_short_u32.field-0 (omega arith) (omega arith) (omega arith) c.in_ok-scan_short_u32.ensures
