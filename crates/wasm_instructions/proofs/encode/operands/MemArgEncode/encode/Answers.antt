use Rattle.wasm_instructions.proofs.CallRanges.{mem_arg_written}
use Rattle.wasm_instructions.proofs.encode.operands.MemArgEncode.encode.Goals as goal

pub returns-clause-written : goal.returns-clause-written
returns-clause-written g c = mem_arg_written c.args.self.now c.put_mem_arg.ensures.fits
