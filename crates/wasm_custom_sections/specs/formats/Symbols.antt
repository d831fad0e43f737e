-- The symbols of an object file (tool conventions, WebAssembly Object File Linking, Symbol Table Subsection).
use Rattle.std.specs.Prelude.{◌≡◌, ℕ, ◌==◌, ◌||◌, Bool, not, List, Option, Some, is_some, bit_and}
use Rattle.wasm_codec.specs.formats.Combinators.{Format, ◌⊗◌, ◌⊗>◌, made, any_of, no_other, tagged, u32}
use Rattle.wasm_externals.specs.formats.Names.{name}
use Rattle.wasm_externals.specs.formats.PartCombinators.{part_if}
use Rattle.wasm_custom_sections.specs.declared.symbols.DataSymbolDefinition.{DataSymbolDefinition}
use Rattle.wasm_custom_sections.specs.declared.symbols.SectionSymbol.{SectionSymbol}
use Rattle.wasm_custom_sections.specs.formats.SymbolParts.{ItemParts, DataParts, SymbolParts, symbol_kind, function, data_object, global, section, tag, table, function_part, data_part, global_part, section_part, tag_part, table_part}

-- ---- flags

-- The object file defines the symbol: WASM_SYM_UNDEFINED, 0x10, isn't set.
abbrev pub is_defined : ℕ → Bool
is_defined flags = bit_and flags 0x10 == 0

-- The symbol of an item has a name here: the item isn't imported, or WASM_SYM_EXPLICIT_NAME, 0x40, is set.
abbrev pub has_name : ℕ → Bool
has_name flags = is_defined flags || not (bit_and flags 0x40 == 0)

-- ---- symbols

abbrev pub item_of : ℕ × (ℕ × Option (List ℕ)) → ItemParts
item_of p = record { flags = p.0; index = p.1.0; name = p.1.1 }

-- The symbol of an item after its kind.
-- flags:u32 index:u32 (name:name if the symbol has a name)
unfoldable pub item_symbol : Format ItemParts
item_symbol = made item_of (λ s. Some (s.flags, (s.index, s.name))) (u32 ⊗> λ flags. u32 ⊗ part_if (has_name flags) name)

abbrev pub definition_of : ℕ × (ℕ × ℕ) → DataSymbolDefinition
definition_of p = record { index = p.0; offset = p.1.0; size = p.1.1 }

-- The place of defined data.
-- index:u32 offset:u32 size:u32
unfoldable pub definition : Format DataSymbolDefinition
definition = made definition_of (λ d. Some (d.index, (d.offset, d.size))) (u32 ⊗ (u32 ⊗ u32))

abbrev pub data_of : ℕ × (List ℕ × Option DataSymbolDefinition) → DataParts
data_of p = record { flags = p.0; name = p.1.0; definition = p.1.1 }

-- The symbol of data after its kind.
-- flags:u32 name:name (index:u32 offset:u32 size:u32 if the symbol is defined)
unfoldable pub data_symbol : Format DataParts
data_symbol = made data_of (λ s. Some (s.flags, (s.name, s.definition))) (u32 ⊗> λ flags. name ⊗ part_if (is_defined flags) definition)

abbrev pub section_of : ℕ × ℕ → SectionSymbol
section_of p = record { flags = p.0; section = p.1 }

-- The symbol of a section after its kind.
-- flags:u32 section:u32
unfoldable pub section_symbol : Format SectionSymbol
section_symbol = made section_of (λ s. Some (s.flags, s.section)) (u32 ⊗ u32)

-- A symbol. A symbol table is a list of them.
-- syminfo ::= 0 of a function | 1 of data | 2 of a global | 3 of a section | 4 of a tag | 5 of a table
unfoldable pub symbol : Format SymbolParts
symbol = any_of
    (tagged symbol_kind 0 (made function function_part item_symbol)
    (tagged symbol_kind 1 (made data_object data_part data_symbol)
    (tagged symbol_kind 2 (made global global_part item_symbol)
    (tagged symbol_kind 3 (made section section_part section_symbol)
    (tagged symbol_kind 4 (made tag tag_part item_symbol)
    (tagged symbol_kind 5 (made table table_part item_symbol)
    no_other))))))

-- ---- written symbols

-- The symbol of an item has a name if and only if its flags say so.
abbrev pub ItemAgrees : ItemParts → Type 0
ItemAgrees s = is_some s.name ≡ has_name s.flags

-- The symbol of data has a definition if and only if its flags say so.
abbrev pub DataAgrees : DataParts → Type 0
DataAgrees s = is_some s.definition ≡ is_defined s.flags

-- The parts of the symbol are those that its flags ask for.
abbrev pub Agrees : SymbolParts → Type 0
Agrees (function s) = ItemAgrees s
Agrees (data_object s) = DataAgrees s
Agrees (global s) = ItemAgrees s
Agrees (section s) = Unit {0}
Agrees (tag s) = ItemAgrees s
Agrees (table s) = ItemAgrees s
