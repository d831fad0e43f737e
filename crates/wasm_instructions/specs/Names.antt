-- Opcodes and calls by name.
use Rattle.std.specs.Prelude.{◌≡◌, ℕ, ◌<◌, List, IsTrue, Option, Some, IfSome, length}
use Rattle.wasm_instructions.specs.declared.table.call.Operands.{Operands}
use Rattle.wasm_instructions.specs.declared.table.opcode.Kind.{Kind}
use Rattle.wasm_instructions.specs.declared.table.opcode.Opcode.{Opcode}
use Rattle.wasm_instructions.specs.declared.table.opcode.Prefix.{Prefix}
use Rattle.wasm_instructions.specs.formats.OpcodeNames.{names, opcode_name}
use Rattle.wasm_instructions.specs.formats.Opcodes.{opcode_kind, ranges}
use Rattle.wasm_instructions.specs.Instructions.{IsAligned, IsCall}
use Rattle.wasm_instructions.specs.OpcodeTables.{end_below}

-- The table gives the name of each number after this prefix, and no opcode lies past its end.
pub record IsNameTable (prefix : Prefix) (table : List (List ℕ)) : Type 0 where
  pub each : table ≡ names prefix
  pub end : IsTrue (end_below (ranges prefix) (length table))

-- The opcode has this name, and operands of this kind if one is given.
pub record HasName (name : List ℕ) (kind : Option Kind) (op : Opcode) : Type 0 where
  pub named : opcode_name op ≡ Some name
  pub fits : IfSome kind (λ kind. opcode_kind op ≡ Some kind)

-- The opcode is the first of its prefix that has this name and operands of this kind.
pub record IsFirstNamed (name : List ℕ) (kind : Option Kind) (op : Opcode) : Type 0 where
  pub has : HasName name kind op
  pub first : (number : ℕ) → number < op.number → HasName name kind (record { prefix = op.prefix; number = number }) → ⊥

-- No opcode with this prefix has this name and operands of this kind.
abbrev pub HasNoneAfter : Prefix → List ℕ → Option Kind → Type 0
HasNoneAfter prefix name kind = (number : ℕ) → HasName name kind (record { prefix = prefix; number = number }) → ⊥

-- No opcode has this name and operands of this kind.
abbrev pub HasNoneNamed : List ℕ → Option Kind → Type 0
HasNoneNamed name kind = (op : Opcode) → HasName name kind op → ⊥

-- These are operands of no instruction that has this name.
abbrev pub FitNoneNamed : List ℕ → Operands → Type 0
FitNoneNamed name operands = (op : Opcode) → opcode_name op ≡ Some name → IsCall op operands → IsAligned operands → ⊥
