-- Modules in the binary format, each part stated once, under the standard's production (WebAssembly Core 3.0, Modules).
use Rattle.std.specs.Prelude.{ℕ, ◌==◌, Bool, true, List, Option, Some, None}
use Rattle.wasm_types.specs.declared.types.recursive.TypeEntry.{TypeEntry}
use Rattle.wasm_types.specs.formats.Types.{type_body}
use Rattle.wasm_codec.specs.formats.Combinators.{Format, a_byte, ◌⊗>◌, ◌⊗◌, made, choose, minimal_if}
use Rattle.wasm_codec.specs.formats.Grammar.{Grammar}
use Rattle.wasm_codec.specs.formats.Bodies.{bytes_to_end, sized, byte_list, to_end, headed}
use Rattle.wasm_code.specs.declared.code.CodeBody.{CodeBody}
use Rattle.wasm_code.specs.formats.CodeBodies.{code_section_body}
use Rattle.wasm_code.specs.formats.Sections.{header, type_section_id, code_section_id, SectionParts, section_of, Content, type_entries, code_bodies, raw_bytes, TypedSection, typed_section_of}

-- ---- sections

abbrev pub section_parts : SectionParts → Option (ℕ × List ℕ)
section_parts s = Some (s.id, s.body)

-- A section with its body as bytes: its id, its size and its body.
-- section_N(X) ::= N:byte len:u32 x:X ⇒ x (if len = ||X||), with the bytes of X as they are
unfoldable pub raw_section : Format SectionParts
raw_section = made section_of section_parts (a_byte ⊗ byte_list)

abbrev pub entries_part : Content → Option (List TypeEntry)
entries_part (type_entries entries) = Some entries
entries_part c = None

abbrev pub bodies_part : Content → Option (List CodeBody)
bodies_part (code_bodies bodies) = Some bodies
bodies_part c = None

abbrev pub bytes_part : Content → Option (List ℕ)
bytes_part (raw_bytes bytes) = Some bytes
bytes_part c = None

-- The content of a section with this id: type entries, code bodies or bytes.
abbrev pub held_by : ℕ → Format Content
held_by id =
    choose (id == type_section_id) (made type_entries entries_part type_body)
    (choose (id == code_section_id) (made code_bodies bodies_part code_section_body)
    (made raw_bytes bytes_part bytes_to_end))

abbrev pub content_parts : TypedSection → Option (ℕ × Content)
content_parts s = Some (s.id, s.content)

-- A section with its content: type entries, code bodies or bytes.
-- typesec ::= ty*:section_1(list(rectype)) ⇒ ty*, codesec ::= code*:section_10(list(code)) ⇒ code*,
-- and any other section with its bytes as they are
unfoldable pub typed_section : Format TypedSection
typed_section = made typed_section_of content_parts (a_byte ⊗> (λ id. sized (held_by id)))

-- The body of the section encodes this content.
abbrev pub HoldsContent : SectionParts → Content → Type 0
HoldsContent s c = (held_by s.id).Encodes s.body c

-- ---- modules

-- A module of such sections: the header, then sections to the end.
-- magic ::= 0x00 0x61 0x73 0x6D, version ::= 0x01 0x00 0x00 0x00
-- module ::= magic version section*, with nothing left over, for sections in any degree of decoding
abbrev pub module_of : {V : Type 0} → Format V → Format (List V)
module_of F = headed header (to_end F)

-- A module whose sections have their bodies as bytes.
abbrev pub raw_module : Format (List SectionParts)
raw_module = module_of raw_section

-- A module whose sections have their bodies as bytes; if `strict`, each size is minimally encoded.
abbrev pub module_minimal_if : Bool → Format (List SectionParts)
module_minimal_if strict = module_of (minimal_if strict raw_section)

-- The bytes encode these sections, each with its size minimally encoded.
abbrev pub MinimalModule : Grammar (List SectionParts)
MinimalModule = (module_minimal_if true).Encodes

-- A module whose type and code sections are decoded.
abbrev pub typed_module : Format (List TypedSection)
typed_module = module_of typed_section
