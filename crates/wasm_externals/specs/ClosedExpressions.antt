-- Expressions that can be written, and those whose blocks are closed (WebAssembly Core 3.0, Expressions).
use Rattle.std.specs.Prelude.{ℕ, List, Result, IfOk}
use Rattle.std.specs.List.{AllByRecursion}
use Rattle.wasm_codec.specs.Encoding.{IsMinimal}
use Rattle.wasm_codec.specs.Outcomes.{EncodesSome, IfRefused, IsLongestPrefix, IsOrMemory}
use Rattle.wasm_codec.specs.declared.reader.ReadError.{ReadError}
use Rattle.wasm_instructions.specs.Appending.{CountedCall}
use Rattle.wasm_instructions.specs.formats.Instructions.{Instruction, Instructions}
use Rattle.wasm_externals.specs.formats.PartCombinators.{AreEnded}
use Rattle.wasm_externals.specs.formats.Expressions.{nested, end_call, expr}

-- The instructions close each block that they open, and no more.
abbrev pub IsClosed : List Instruction → Type 0
IsClosed calls = AreEnded (λ depth i. nested depth i.op) end_call 0 calls

-- A u32 counts the items of each list in the instructions.
abbrev pub IsCountedExpr : List Instruction → Type 0
IsCountedExpr calls = AllByRecursion CountedCall calls

-- If the expression closes its blocks, its encoding is right and every other is longer.
abbrev pub IsWrittenExpr : List Instruction → Type 0
IsWrittenExpr calls = IsClosed calls → IsMinimal expr.Encodes expr.bytes calls

-- A call that reads an expression without the final `end`.
pub record ReadsClosed (bytes : List ℕ) (result : Result (List Instruction) ReadError) : Type 0 where
  -- The bytes encode the instructions that it returns.
  pub given : IfOk result (Instructions bytes)
  -- It refuses at the length of the longest prefix of whole instructions.
  pub prefix : IfRefused result (IsLongestPrefix (EncodesSome Instructions) bytes)
  -- If the bytes encode instructions whose blocks are closed, it returns these instructions, or memory ran out.
  pub complete : (calls : List Instruction) → Instructions bytes calls → IsClosed calls → IsOrMemory (λ calls. calls) calls result
  -- It refuses only bytes that encode no such instructions.
  pub unencoded : IfRefused result (λ _. (calls : List Instruction) → Instructions bytes calls → IsClosed calls → ⊥)
