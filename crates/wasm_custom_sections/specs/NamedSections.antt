-- Custom sections of a fixed name (WebAssembly Core 3.0, Custom Section).
use Rattle.std.specs.Prelude.{ℕ, List, length}
use Rattle.wasm_codec.specs.Encoding.{byte_list_bytes, IsCount}
use Rattle.wasm_codec.specs.formats.Combinators.{Format, items, minimal_only}
use Rattle.wasm_lists.specs.EncodedLists.{EncodedItems, body_bytes}
use Rattle.wasm_sections.specs.ListSections.{StandsForItems}
use Rattle.wasm_sections.specs.SectionBytes.{IsSectionAfter}
use Rattle.wasm_sections.specs.formats.EntryParts.{CustomParts}
use Rattle.wasm_sections.specs.formats.ModuleSectionParts.{custom}
use Rattle.wasm_sections.specs.formats.Sections.{custom_body}

-- The custom section with this name and these contents.
abbrev pub named : List ℕ → List ℕ → CustomParts
named text contents = record { name = text; data_bytes = contents }

-- The size of its body, and the body: the name and the contents.
abbrev pub named_bytes : List ℕ → List ℕ → List ℕ
named_bytes text contents = byte_list_bytes (custom_body.bytes (named text contents))

-- A u32 counts the bytes of its name, and one those of its body.
abbrev pub CountedNamed : List ℕ → List ℕ → Type 0
CountedNamed text contents = IsCount (length text) × IsCount (length (custom_body.bytes (named text contents)))

-- After the id 0, these bytes are the minimal encoding of the module's section with this name and these contents.
abbrev pub IsNamedSection : List ℕ → List ℕ → Type 0
IsNamedSection text contents = IsSectionAfter 0 (named_bytes text contents) (custom (named text contents))

-- The contents are the minimal encoding of the items that the section stands for: their number, and the items.
abbrev pub HoldsList : {V : Type 0} → Format V → EncodedItems → Type 0
HoldsList {V} F section = (values : List V) → StandsForItems F section values → (minimal_only (items F)).Encodes (body_bytes section) values
