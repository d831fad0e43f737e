-- Expressions (WebAssembly Core 3.0, Expressions): instructions up to the `end` that closes none of them.
use Rattle.std.specs.Prelude.{ℕ, zero, suc, ◌==◌, Bool, ◌||◌, if◌then◌else◌, List}
use Rattle.wasm_codec.specs.formats.Combinators.{Format}
use Rattle.wasm_instructions.specs.declared.table.opcode.Prefix.TheVariants as prefixes
use Rattle.wasm_instructions.specs.declared.table.opcode.Opcode.{Opcode}
use Rattle.wasm_instructions.specs.declared.table.call.Operands.TheVariants as operands
use Rattle.wasm_instructions.specs.formats.Instructions.{Instruction, call, instruction}
use Rattle.wasm_instructions.specs.formats.Opcodes.{without_prefix}
use Rattle.wasm_externals.specs.formats.PartCombinators.{Move, goes_on, ends, fails, until}

-- The opcode opens a block: `block`, `loop`, `if`, `try` or `try_table`.
abbrev pub opens : ℕ → Bool
opens b = b == 0x02 || (b == 0x03 || (b == 0x04 || (b == 0x06 || b == 0x1f)))

-- An `end` closes a block, or ends the expression if no block is open.
abbrev pub closed : ℕ → Move ℕ
closed zero = ends
closed (suc depth) = goes_on depth

-- A `delegate` closes its `try`. Outside all blocks it fails.
abbrev pub delegated : ℕ → Move ℕ
delegated zero = fails
delegated (suc depth) = goes_on depth

-- The effect of an opcode of one byte if this many blocks are open.
abbrev pub nested_by : ℕ → ℕ → Move ℕ
nested_by depth b = if opens b then goes_on (suc depth) else if b == 0x0b then closed depth else if b == 0x18 then delegated depth else goes_on depth

-- The effect of an opcode if this many blocks are open.
abbrev pub nested : ℕ → Opcode → Move ℕ
nested depth op = elim op.prefix [ prefixes.None ↦ nested_by depth op.number | _ ↦ goes_on depth ]

-- The instruction `end`.
abbrev pub end_call : Instruction
end_call = call (without_prefix 0x0b) operands.None

-- An expression.
-- expr ::= in*:instr* 0x0B ⇒ in*, if each block in in* is closed
unfoldable pub expr : Format (List Instruction)
expr = until (λ depth i. nested depth i.op) end_call 0 instruction
