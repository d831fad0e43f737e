use Rattle.std.proofs.Common.{eqb-true, bit_and}
use Rattle.wasm_codec.proofs.LowBytes.{low_word}
use Rattle.wasm_codec.proofs.rewriter.scan.begins_low.Goals as goal

pub returns-clause-low : goal.returns-clause-low
returns-clause-low c none = low_word c.args.bytes.now c.from_le_bytes.result c.are_bytes.ensures c.in-len8-up.len_at_least c.from_le_bytes.ensures (eqb-true (bit_and c.from_le_bytes.result 0x8080808080808080) 0 none)
