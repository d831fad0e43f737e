-- The bodies of sections that aren't lists, without the id and the size, each under the standard's production
-- (WebAssembly Core 3.0, Modules).
use Rattle.std.specs.Prelude.{ℕ, List, Option, Some}
use Rattle.wasm_codec.specs.formats.Combinators.{Format, ◌⊗◌, made, u32}
use Rattle.wasm_codec.specs.formats.Bodies.{bytes_to_end}
use Rattle.wasm_sections.specs.formats.EntryParts.{CustomParts}
use Rattle.wasm_externals.specs.formats.Names.{name}

abbrev pub custom_of : List ℕ × List ℕ → CustomParts
custom_of p = record { name = p.0; data_bytes = p.1 }

abbrev pub parts_of_custom : CustomParts → Option (List ℕ × List ℕ)
parts_of_custom c = Some (c.name, c.data_bytes)

-- The body of a custom section: a name, then any bytes.
-- customsec ::= section_0(custom), custom ::= name byte*
unfoldable pub custom_body : Format CustomParts
custom_body = made custom_of parts_of_custom (name ⊗ bytes_to_end)

-- The body of a start section: a function index.
-- startsec ::= st?:section_8(start) ⇒ st?, start ::= x:funcidx ⇒ start x
unfoldable pub start_body : Format ℕ
start_body = u32

-- The body of a data count section: a number.
-- datacntsec ::= n?:section_12(u32) ⇒ n?
unfoldable pub data_count_body : Format ℕ
data_count_body = u32
