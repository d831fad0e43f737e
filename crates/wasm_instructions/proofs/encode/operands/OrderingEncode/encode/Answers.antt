use Rattle.wasm_instructions.proofs.CallRanges.{ordering_written}
use Rattle.wasm_instructions.proofs.encode.operands.OrderingEncode.encode.Goals as goal

pub returns-clause-written : goal.returns-clause-written
returns-clause-written g c = ordering_written c.args.self.now
