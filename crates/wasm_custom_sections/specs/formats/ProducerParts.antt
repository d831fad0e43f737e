-- The parts of a producers section, without the borrows from the input.
use Rattle.std.specs.Prelude.{ℕ, List, map}
use Rattle.wasm_custom_sections.specs.declared.producers.Producer.{Producer}
use Rattle.wasm_custom_sections.specs.declared.producers.Producers.{Producers}

-- The parts of a language or a tool.
pub record ProducerParts : Type 0 where
  pub name : List ℕ
  pub version : List ℕ

-- The parts of a language or a tool that borrows from the input.
abbrev pub producer_parts : Producer → ProducerParts
producer_parts p = record { name = p.name.now; version = p.version.now }

-- The parts of each language or tool.
abbrev pub all_producer_parts : List Producer → List ProducerParts
all_producer_parts = map producer_parts

-- The parts of a field.
pub record FieldParts : Type 0 where
  pub field : List ℕ
  pub values : List ProducerParts

-- The parts of a field that borrows from the input.
abbrev pub field_parts : Producers → FieldParts
field_parts p = record { field = p.field.now; values = all_producer_parts p.values }

-- The parts of each field.
abbrev pub all_field_parts : List Producers → List FieldParts
all_field_parts = map field_parts
