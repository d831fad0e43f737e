use Rattle.std.proofs.Common.{arith}
use Rattle.wasm_codec.proofs.ListReading.{IsBytes-from, IsBytes-drop}
use Rattle.wasm_codec.proofs.reader.cursor.Cursor.at.Goals as goal

pub returns-clause-bytes : goal.returns-clause-bytes
returns-clause-bytes c = IsBytes-drop c.args.bytes.now c.args.position (IsBytes-from c.args.bytes.now (λ i. omega (arith, c.type_inv.bytes i)))
