-- The promises of a reader of operands.
use Rattle.std.specs.Prelude.{◌≡◌, Result, IfOk}
use Rattle.wasm_codec.specs.Places.{Place, Reads}
use Rattle.wasm_codec.specs.declared.reader.cursor.Fault.{Fault}
use Rattle.wasm_instructions.specs.declared.table.call.Operands.{Operands}
use Rattle.wasm_instructions.specs.declared.table.opcode.Kind.{Kind}
use Rattle.wasm_instructions.specs.formats.Instructions.{operands_format}
use Rattle.wasm_instructions.specs.Instructions.{IsAligned, IsCounted, kind_of}

-- A call that reads operands of this kind.
pub record ReadsOperands (kind : Kind) (old new : Place) (result : Result Operands Fault) : Type 0 where
  pub reads : Reads (operands_format kind).at old new result
  pub of_kind : IfOk result (λ o. kind_of o ≡ kind)
  pub aligned : IfOk result (λ o. IsAligned o)
  pub counted : IfOk result (λ o. IsCounted o)
