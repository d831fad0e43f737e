-- The opcodes of one byte that are scanned with their operands, and opcodes that are scanned by themselves.
use Rattle.std.specs.Prelude.{◌≡◌, ℕ, zero, suc, ◌+◌, ◌<◌, ◌≤◌, true, List, [], ◌∷◌, drop, length, Option, Some}
use Rattle.wasm_codec.specs.Places.{Place, place}
use Rattle.wasm_codec.specs.Scanning.{Scans}
use Rattle.wasm_codec.specs.declared.rewriter.scan.Scanned.{Scanned}
use Rattle.wasm_codec.specs.formats.Combinators.{u32}
use Rattle.wasm_instructions.specs.declared.table.opcode.Prefix.TheVariants as prefixes
use Rattle.wasm_instructions.specs.declared.table.opcode.Kind.{Kind}
use Rattle.wasm_instructions.specs.declared.table.opcode.Kind.TheVariants as kinds
use Rattle.wasm_instructions.specs.declared.normaliser.scan.opcodes.ScannedKind.{ScannedKind}
use Rattle.wasm_instructions.specs.declared.normaliser.scan.opcodes.ScannedKind.TheVariants as scanned
use Rattle.wasm_instructions.specs.declared.table.opcode.Opcode.{Opcode}
use Rattle.wasm_instructions.specs.formats.Instructions.{opcode}
use Rattle.wasm_instructions.specs.formats.Opcodes.{Range, ranges, kind_among, opcode_kind}

-- How the operands of this kind are scanned; `No` if they aren't.
abbrev pub scanned_of : Option Kind → ScannedKind
scanned_of (Some kinds.None) = scanned.Plain
scanned_of (Some kinds.Block) = scanned.Block
scanned_of (Some kinds.Index) = scanned.Index
scanned_of (Some kinds.Mem) = scanned.Mem
scanned_of (Some kinds.I32) = scanned.I32
scanned_of (Some kinds.I64) = scanned.I64
scanned_of (Some kinds.F32) = scanned.F32
scanned_of (Some kinds.F64) = scanned.F64
scanned_of k = scanned.No

-- How the operands of this many opcodes are scanned, from the first on.
abbrev pub scanned_from : List Range → ℕ → ℕ → List ScannedKind
scanned_from rs first zero = []
scanned_from rs first (suc more) = scanned_of (kind_among rs first) ∷ scanned_from rs (first + 1) more

-- The table tells of each byte how the operands after it are scanned.
abbrev pub IsScanTable : List ScannedKind → Type 0
IsScanTable places = places ≡ scanned_from (ranges prefixes.None) 0 256

-- The bytes begin with a minimally encoded opcode of this many bytes, whose operands are of this kind.
pub record HasOpcode (bytes : List ℕ) (kind : Kind) (size : ℕ) : Type 0 where
  pub op : Opcode
  pub within : size ≤ length bytes
  pub reads : opcode.at (place true bytes) ≡ Some (op, place true (drop size bytes))
  pub kind_is : opcode_kind op ≡ Some kind

-- The byte is a prefix, and the operands of the opcode of this number after it are of this kind.
pub record IsKindAfter (prefix number : ℕ) (kind : Kind) : Type 0 where
  pub op : Opcode
  pub kind_is : opcode_kind op ≡ Some kind
  pub reads : (bytes more : List ℕ) → u32.at (place true bytes) ≡ Some (number, place true more) → opcode.at (place true (prefix ∷ bytes)) ≡ Some (op, place true more)

-- The bytes begin with a padded u32 below 64, the alignment of a memory argument without the index of a memory.
pub record IsPaddedAlignment (bytes : List ℕ) (s : Scanned) : Type 0 where
  pub scans : Scans u32 bytes (Some s)
  pub small : (n : ℕ) (after : Place) → u32.at (place true bytes) ≡ Some (n, after) → n < 64

-- The bytes begin with an opcode of one byte whose operand is a memory argument, and then a padded alignment.
pub record IsPaddedLoad (bytes : List ℕ) (s : Scanned) : Type 0 where
  pub opcode : HasOpcode bytes kinds.Mem 1
  pub alignment : IsPaddedAlignment (drop 1 bytes) s
