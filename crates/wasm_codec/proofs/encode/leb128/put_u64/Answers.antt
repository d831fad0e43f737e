use Rattle.wasm_codec.proofs.NumberLaws.{u64_written}
use Rattle.wasm_codec.proofs.encode.leb128.put_u64.Goals as goal

pub returns-clause-minimal : goal.returns-clause-minimal
returns-clause-minimal g c = u64_written c.args.value c.ranges.value.fits
