use Rattle.wasm_instructions.proofs.NameLaws.{below_end}
use Rattle.wasm_instructions.proofs.names.name_at.Goals as goal

pub bounds-names-opcode : goal.bounds-names-opcode
bounds-names-opcode c = below_end c.args.opcode _ c.args.names.now c.requires.table c.requires.known
