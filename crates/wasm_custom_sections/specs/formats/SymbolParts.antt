-- The parts of the symbols of an object file, without the borrows from the input.
use Rattle.std.specs.Prelude.{ℕ, List, map, Option, Some, None, option_map}
use Rattle.wasm_custom_sections.specs.declared.symbols.DataSymbol.{DataSymbol}
use Rattle.wasm_custom_sections.specs.declared.symbols.DataSymbolDefinition.{DataSymbolDefinition}
use Rattle.wasm_custom_sections.specs.declared.symbols.ItemSymbol.{ItemSymbol}
use Rattle.wasm_custom_sections.specs.declared.symbols.SectionSymbol.{SectionSymbol}
use Rattle.wasm_custom_sections.specs.declared.symbols.Symbol.{Symbol}
use Rattle.wasm_custom_sections.specs.declared.symbols.Symbol.TheVariants as read

-- The parts of a symbol of a function, a global, a tag or a table.
pub record ItemParts : Type 0 where
  pub flags : ℕ
  pub index : ℕ
  pub name : Option (List ℕ)

-- The parts of such a symbol that borrows from the input.
abbrev pub item_parts : ItemSymbol → ItemParts
item_parts s = record { flags = s.flags; index = s.index; name = option_map (λ text. text.now) s.name }

-- The parts of a symbol of data.
pub record DataParts : Type 0 where
  pub flags : ℕ
  pub name : List ℕ
  pub definition : Option DataSymbolDefinition

-- The parts of such a symbol that borrows from the input.
abbrev pub data_parts : DataSymbol → DataParts
data_parts s = record { flags = s.flags; name = s.name.now; definition = s.definition }

-- A symbol with its parts.
pub data SymbolParts : Type 0 where
  function : ItemParts → SymbolParts
  data_object : DataParts → SymbolParts
  global : ItemParts → SymbolParts
  section : SectionSymbol → SymbolParts
  tag : ItemParts → SymbolParts
  table : ItemParts → SymbolParts

-- The symbol with its parts, without the borrows from the input.
abbrev pub symbol_parts : Symbol → SymbolParts
symbol_parts (read.Function s) = function (item_parts s)
symbol_parts (read.Data s) = data_object (data_parts s)
symbol_parts (read.Global s) = global (item_parts s)
symbol_parts (read.Section s) = section s
symbol_parts (read.Tag s) = tag (item_parts s)
symbol_parts (read.Table s) = table (item_parts s)

-- The symbols with their parts.
abbrev pub all_symbol_parts : List Symbol → List SymbolParts
all_symbol_parts = map symbol_parts

-- ---- taken apart, for the minimal encoding

-- The kind of a symbol with these parts.
abbrev pub symbol_kind : SymbolParts → ℕ
symbol_kind (function s) = 0
symbol_kind (data_object s) = 1
symbol_kind (global s) = 2
symbol_kind (section s) = 3
symbol_kind (tag s) = 4
symbol_kind (table s) = 5

abbrev pub function_part : SymbolParts → Option ItemParts
function_part (function s) = Some s
function_part s = None

abbrev pub data_part : SymbolParts → Option DataParts
data_part (data_object s) = Some s
data_part s = None

abbrev pub global_part : SymbolParts → Option ItemParts
global_part (global s) = Some s
global_part s = None

abbrev pub section_part : SymbolParts → Option SectionSymbol
section_part (section s) = Some s
section_part s = None

abbrev pub tag_part : SymbolParts → Option ItemParts
tag_part (tag s) = Some s
tag_part s = None

abbrev pub table_part : SymbolParts → Option ItemParts
table_part (table s) = Some s
table_part s = None
