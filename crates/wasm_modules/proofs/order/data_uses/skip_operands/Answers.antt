use Rattle.wasm_instructions.proofs.InstructionFormatLaws.{Lawful-operands}
use Rattle.wasm_instructions.specs.formats.Instructions.{operands_format}
use Rattle.wasm_modules.proofs.SkippingLaws.{passes_read}
use Rattle.wasm_modules.proofs.order.data_uses.skip_operands.Goals as goal

pub returns-in_default : goal.returns-in_default
returns-in_default c = rw c.without_value.ensures (passes_read (operands_format c.args.kind) (Lawful-operands c.args.kind) c.args.cursor.now c.read_operands.new.cursor c.read_operands.result c.read_operands.ensures.reads)
