-- Code bodies that can be written: a u32 counts the locals, the items of each list in an instruction, and the bytes
-- (WebAssembly Core 3.0, Lists and Code Section).
use Rattle.std.specs.Prelude.{ℕ, List, ◌++◌, length}
use Rattle.std.specs.List.{AllByRecursion}
use Rattle.wasm_codec.specs.Encoding.{IsCount}
use Rattle.wasm_codec.specs.formats.Combinators.{items}
use Rattle.wasm_instructions.specs.Appending.{CountedCall}
use Rattle.wasm_instructions.specs.formats.Instructions.{instructions_bytes}
use Rattle.wasm_code.specs.declared.code.CodeBody.{CodeBody}
use Rattle.wasm_code.specs.formats.CodeBodies.{local_group}

-- The locals and the instructions of a code body, without its size.
abbrev pub func_bytes : CodeBody → List ℕ
func_bytes b = (items local_group).bytes b.locals ++ instructions_bytes b.calls

-- A u32 counts the locals, the items of each list in the instructions, and the bytes.
abbrev pub CountedBody : CodeBody → Type 0
CountedBody b = IsCount (length b.locals) × AllByRecursion CountedCall b.calls × IsCount (length (func_bytes b))
