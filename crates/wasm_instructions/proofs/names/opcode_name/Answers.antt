use Rattle.wasm_instructions.specs.Names.{IsNameTable}
use Rattle.wasm_instructions.specs.formats.OpcodeNames.{names}
use Rattle.wasm_instructions.specs.formats.Opcodes.{ranges}
use Rattle.wasm_instructions.specs.declared.table.opcode.Prefix.{Prefix}
use Rattle.std.proofs.Common.{refl, subst, sym}
use Rattle.wasm_instructions.proofs.names.opcode_name.Goals as goal

pub name_at-requires-clause-table : goal.name_at-requires-clause-table
unfolding names ranges
name_at-requires-clause-table c = subst (λ (p : Prefix). IsNameTable p _) (sym c.in-None.is) (record { each = refl; end = refl })

pub name_at-requires-in-Fd-clause-table : goal.name_at-requires-in-Fd-clause-table
unfolding names ranges
name_at-requires-in-Fd-clause-table c = subst (λ (p : Prefix). IsNameTable p _) (sym c.in-Fd.is) (record { each = refl; end = refl })
