-- Code bodies in the binary format, each part stated once, under the standard's production (WebAssembly Core 3.0, Code
-- Section).
use Rattle.std.specs.Prelude.{ℕ, true, List, Option, Some}
use Rattle.wasm_types.specs.declared.types.value.ValType.{ValType}
use Rattle.wasm_types.specs.formats.Types.{val_type}
use Rattle.wasm_instructions.specs.formats.Instructions.{Instruction}
use Rattle.wasm_instructions.specs.formats.Instructions.{instruction}
use Rattle.wasm_codec.specs.formats.Combinators.{Format, ◌⊗◌, made, u32, items}
use Rattle.wasm_codec.specs.formats.Grammar.{Grammar}
use Rattle.wasm_codec.specs.Lists.{IsListPrefix, ListMinimalIf, IsListPrefixMinimalIf}
use Rattle.wasm_codec.specs.formats.Bodies.{bytes_to_end, sized, to_end}
use Rattle.wasm_code.specs.declared.code.CodeBody.{CodeBody}
use Rattle.wasm_code.specs.declared.code.function_body.FunctionBody.{FunctionBody}

-- A group of locals: their number and their type.
-- local ::= n:u32 t:valtype ⇒ t^n, here as the pair of n and t
abbrev pub local_group : Format (ℕ × ValType)
local_group = u32 ⊗ val_type

-- The code body with these locals and these instructions.
abbrev pub code_body_of : List (ℕ × ValType) × List Instruction → CodeBody
code_body_of p = record { locals = p.0; calls = p.1 }

-- The locals and the instructions of a code body.
abbrev pub code_body_parts : CodeBody → Option (List (ℕ × ValType) × List Instruction)
code_body_parts b = Some (b.locals, b.calls)

-- A code body without its size: locals, then instructions to the end.
-- code ::= size:u32 code:func ⇒ code (if size = ||func||), func ::= loc**:list(local) e:expr ⇒ (local*, e)
-- Here the instructions end with the size, whether their last is 0x0B or not.
abbrev pub function_code : Format (List (ℕ × ValType) × List Instruction)
function_code = items local_group ⊗ to_end instruction

-- A code body: its size, its locals and its instructions.
unfoldable pub code_body : Format CodeBody
code_body = made code_body_of code_body_parts (sized function_code)

-- The locals of a function, and its instructions as bytes.
abbrev pub FunctionParts : Type 0
FunctionParts = List (ℕ × ValType) × List ℕ

-- The value of a function body whose instructions are still bytes: its locals and these bytes.
abbrev pub function_parts : FunctionBody → FunctionParts
function_parts body = (body.locals, body.instructions.now)

-- A function body without its size: locals, then the bytes of its instructions to the end.
abbrev pub function_bytes : Format FunctionParts
function_bytes = items local_group ⊗ bytes_to_end

-- A function body: its size, its locals, and the bytes of its instructions.
unfoldable pub function_body : Format FunctionParts
function_body = sized function_bytes

-- The body of a code section: a count, then as many code bodies.
-- codesec ::= code*:section_10(list(code)) ⇒ code*, without the id and the size of the section
unfoldable pub code_section_body : Format (List CodeBody)
code_section_body = items code_body

-- The prefix is empty, or it is a count and at most as many code bodies.
abbrev pub IsCodeSectionBodyPrefix : List ℕ → Type 0
IsCodeSectionBodyPrefix = IsListPrefix code_body.Encodes

-- The bytes encode these code bodies, with the count and each body minimally encoded.
abbrev pub MinimalCodeSectionBody : Grammar (List CodeBody)
MinimalCodeSectionBody = ListMinimalIf true code_body

-- The prefix is empty, or it is a count and at most as many code bodies, all minimally encoded.
abbrev pub IsMinimalCodeSectionBodyPrefix : List ℕ → Type 0
IsMinimalCodeSectionBodyPrefix = IsListPrefixMinimalIf true code_body
