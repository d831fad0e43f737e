-- The exports of functions in the binary format (WebAssembly Core 3.0, Export Section).
use Rattle.std.specs.Prelude.{ℕ, List, ◌∷◌, ◌++◌, length, map}
use Rattle.wasm_encoder.specs.Bodies.{byte_list}
use Rattle.wasm_encoder.specs.Combinators.{Format, ◌▷◌, ◌⊗◌, u32}
use Rattle.wasm_encoder.specs.Encoding.{byte_list_bytes, CanEncodeList, IsCount}
use Rattle.wasm_encoder.specs.Lists.{items_bytes}
use Rattle.wasm_encoder.specs.Leb128.{unsigned_leb128}
use Rattle.example_sections.specs.declared.exports.FunctionExport.{FunctionExport}
use Rattle.example_sections.specs.declared.read.ReadExport.{ReadExport}

-- The bytes of an export of a function.
-- export ::= nm:name xx:externidx, externidx ::= 0x00 x:funcidx
abbrev pub export_bytes : FunctionExport → List ℕ
export_bytes export = byte_list_bytes export.name.now ++ 0x00 ∷ unsigned_leb128 export.function

-- An export of a function, as a format: a name and an index.
abbrev pub export : Format (List ℕ × ℕ)
export = byte_list ⊗ (0x00 ▷ u32)

-- The name and the index of an export that was read.
abbrev pub parts_of : ReadExport → List ℕ × ℕ
parts_of e = (e.name.now, e.function)

-- The names and the indexes of exports that were read.
abbrev pub all_parts_of : List ReadExport → List (List ℕ × ℕ)
all_parts_of = map parts_of

-- A u32 counts the bytes of the name.
abbrev pub HasShortName : FunctionExport → Type 0
HasShortName export = IsCount (length export.name.now)

-- The body of the section: a count, then the exports.
-- exportsec ::= ex*:section_7(list(export)), without the id and the size
abbrev pub body_of : List FunctionExport → List ℕ
body_of exports = items_bytes export_bytes exports

-- A u32 counts the exports, one the bytes of each name, and one all their bytes.
abbrev pub CanExport : List FunctionExport → Type 0
CanExport exports = CanEncodeList HasShortName exports × IsCount (length (body_of exports))
