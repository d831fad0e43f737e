use Rattle.wasm_codec.specs.formats.Numbers.{EncodesU32}
use Rattle.wasm_codec.proofs.FormatLaws.{Lawful-u32}
use Rattle.wasm_lists.proofs.readable.U32Readable.is_lawful.Goals as goal

pub returns-clause-lawful : goal.returns-clause-lawful
returns-clause-lawful c = Lawful-u32

pub returns-clause-some : goal.returns-clause-some
unfolding EncodesU32
returns-clause-some c v g = g.0
