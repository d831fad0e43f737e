use Rattle.wasm_codec.proofs.NumberLaws.{index_written}
use Rattle.wasm_codec.proofs.encode.leb128.put_index.Goals as goal

pub returns-clause-minimal : goal.returns-clause-minimal
returns-clause-minimal g c = index_written c.args.index c.ranges.index.fits
