use Rattle.wasm_codec.proofs.NumberLaws.{s32_written}
use Rattle.wasm_codec.proofs.encode.leb128.put_i32.Goals as goal

pub returns-then-value-lt0-clause-minimal : goal.returns-then-value-lt0-clause-minimal
returns-then-value-lt0-clause-minimal g c = s32_written c.args.value c.ranges.value

pub returns-else-value-lt0-clause-minimal : goal.returns-else-value-lt0-clause-minimal
returns-else-value-lt0-clause-minimal g c = s32_written c.args.value c.ranges.value
