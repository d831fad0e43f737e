use Rattle.wasm_types.proofs.WrittenTypes.{abstract_written}
use Rattle.wasm_types.proofs.types.heap.AbstractHeapTypeEncode.encode.Goals as goal

pub returns-clause-written : goal.returns-clause-written
returns-clause-written g c = abstract_written c.args.self.now
