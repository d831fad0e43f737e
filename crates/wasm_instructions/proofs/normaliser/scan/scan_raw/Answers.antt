use Rattle.std.proofs.Common.{arith}
use Rattle.wasm_instructions.proofs.ScannedCalls.{number_scanned}
use Rattle.wasm_instructions.proofs.normaliser.scan.scan_raw.Goals as goal

pub returns : goal.returns
returns c = number_scanned c.args.count c.args.bytes.now (omega (arith, c.if-bytes-count.false))
