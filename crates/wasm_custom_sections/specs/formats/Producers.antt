-- The contents of producers sections (tool conventions, Producers Section).
use Rattle.std.specs.Prelude.{ℕ, List, Some}
use Rattle.wasm_codec.specs.formats.Combinators.{Format, ◌⊗◌, made, items}
use Rattle.wasm_externals.specs.formats.Names.{name}
use Rattle.wasm_custom_sections.specs.formats.ProducerParts.{FieldParts, ProducerParts}

-- The language or the tool with these parts.
abbrev pub producer_of : List ℕ × List ℕ → ProducerParts
producer_of p = record { name = p.0; version = p.1 }

-- A language or a tool.
-- versioned-name ::= name:name version:name
unfoldable pub producer : Format ProducerParts
producer = made producer_of (λ p. Some (p.name, p.version)) (name ⊗ name)

-- The field with these parts.
abbrev pub field_of : List ℕ × List ProducerParts → FieldParts
field_of p = record { field = p.0; values = p.1 }

-- A field. The contents of the section are a list of them.
-- field ::= field_name:name list(versioned-name)
unfoldable pub producers_field : Format FieldParts
producers_field = made field_of (λ f. Some (f.field, f.values)) (name ⊗ items producer)
