use Rattle.wasm_codec.proofs.NumberLaws.{u32_written}
use Rattle.wasm_codec.proofs.encode.leb128.put_u32.Goals as goal

pub returns-clause-minimal : goal.returns-clause-minimal
returns-clause-minimal g c = u32_written c.args.value c.ranges.value.fits
