use Rattle.std.proofs.Common.{arith}
use Rattle.wasm_codec.proofs.ListReading.{IsBytes-from}
use Rattle.wasm_codec.proofs.rewriter.place_of.Goals as goal

pub returns-clause-bytes : goal.returns-clause-bytes
returns-clause-bytes c = IsBytes-from c.args.bytes.now (λ i. omega (arith, c.type_inv.bytes i))
