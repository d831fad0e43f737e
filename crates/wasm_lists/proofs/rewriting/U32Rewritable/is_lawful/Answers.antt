use Rattle.std.proofs.Common.{refl}
use Rattle.wasm_codec.proofs.FormatLaws.{Lawful-u32, takes_bytes}
use Rattle.wasm_lists.proofs.rewriting.U32Rewritable.is_lawful.Goals as goal

pub returns-clause-lawful : goal.returns-clause-lawful
returns-clause-lawful c = Lawful-u32

pub returns-clause-some : goal.returns-clause-some
returns-clause-some c = takes_bytes Lawful-u32 refl
