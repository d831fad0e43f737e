use Rattle.std.proofs.Common.{inl, inr, arith}
use Rattle.std.proofs.lemmas.Bool.{leb-true}
use Rattle.wasm_types.proofs.ScannedTypes.{is_whole}
use Rattle.wasm_types.proofs.types.value.is_whole_type.Goals as goal

pub returns-then-byte-lt118 : goal.returns-then-byte-lt118
returns-then-byte-lt118 c is = is_whole c.args.byte (omega arith) (omega arith) (inl (omega arith))

pub returns-else-byte-lt118 : goal.returns-else-byte-lt118
returns-else-byte-lt118 c is = is_whole c.args.byte (omega arith) (omega arith) (inr (leb-true 0x7b c.args.byte is))
