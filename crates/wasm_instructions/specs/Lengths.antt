-- The lengths of encoded calls.
use Rattle.std.specs.Prelude.{◌≡◌, ℕ, ◌≤◌, List, length}
use Rattle.wasm_instructions.specs.declared.table.call.Operands.{Operands}
use Rattle.wasm_instructions.specs.declared.table.call.Operands.TheVariants as operands
use Rattle.wasm_instructions.specs.Instructions.{HasNoList}

-- None of the operands is a list, except a list of one type.
abbrev pub HasNoLongList : Operands → Type 0
HasNoLongList (operands.Types types) = length types ≡ 1
HasNoLongList o = HasNoList o

-- The encoding has from 1 to 20 bytes.
abbrev pub IsShortEncoding : List ℕ → Type 0
IsShortEncoding encoding = (1 ≤ length encoding) × (length encoding ≤ 20)
