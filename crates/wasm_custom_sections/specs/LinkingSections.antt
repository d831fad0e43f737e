-- Symbol tables and linking sections that are built value by value.
use Rattle.std.specs.Prelude.{◌≡◌, ℕ, ◌⊎◌, List, ◌∷◌, length, true, Bool, Option, Some, None, Result, IfSome}
use Rattle.wasm_codec.specs.declared.encode.EncodeError.{EncodeError}
use Rattle.wasm_codec.specs.declared.encode.EncodeError.TheVariants.{SymbolFlags}
use Rattle.wasm_codec.specs.Encoding.{IsCount, IsMinimal}
use Rattle.wasm_codec.specs.formats.Combinators.{minimal_only}
use Rattle.wasm_lists.specs.EncodedLists.{EncodedItems, IsFull, IsMemoryOrTooLong, IsUncounted}
use Rattle.wasm_sections.specs.ListSections.{Adds, GainsItem, StandsForItems}
use Rattle.wasm_custom_sections.specs.formats.SymbolParts.{SymbolParts, function, data_object, global, section, tag, table}
use Rattle.wasm_custom_sections.specs.formats.Symbols.{Agrees, has_name, symbol}
use Rattle.wasm_custom_sections.specs.formats.Linking.{LinkingParts, linking_data, linking_subsection, versioned}

-- A u32 counts the bytes of the name, if there is one and a flag says so.
abbrev pub CanName : Bool → Option (List ℕ) → Type 0
CanName there name = there ≡ true → IfSome name (λ text. IsCount (length text))

-- A u32 counts the bytes of the symbol's name.
abbrev pub CountedSymbol : SymbolParts → Type 0
CountedSymbol (function s) = CanName (has_name s.flags) s.name
CountedSymbol (data_object s) = IsCount (length s.name)
CountedSymbol (global s) = CanName (has_name s.flags) s.name
CountedSymbol (section s) = Unit {0}
CountedSymbol (tag s) = CanName (has_name s.flags) s.name
CountedSymbol (table s) = CanName (has_name s.flags) s.name

-- The length of the text in bytes, or 0.
abbrev pub text_length : Option (List ℕ) → ℕ
text_length None = 0
text_length (Some text) = length text

-- The length of the symbol's name in bytes, or 0.
abbrev pub name_length : SymbolParts → ℕ
name_length (function s) = text_length s.name
name_length (data_object s) = length s.name
name_length (global s) = text_length s.name
name_length (section s) = 0
name_length (tag s) = text_length s.name
name_length (table s) = text_length s.name

-- If its parts are those that its flags ask for, the symbol has its minimal encoding.
abbrev pub IsWrittenSymbol : SymbolParts → Type 0
IsWrittenSymbol s = Agrees s → IsMinimal symbol.Encodes symbol.bytes s

-- The parts of the symbol aren't those that its flags ask for; or they are, and memory ran out, the table is full or the
-- name is too long.
abbrev pub IsSymbolRefusal : EncodedItems → SymbolParts → EncodeError → Type 0
IsSymbolRefusal old s e = ((Agrees s → ⊥) × (e ≡ SymbolFlags)) ⊎ (Agrees s × IsMemoryOrTooLong (IsFull old ⊎ IsUncounted (name_length s)) e)

-- A method that adds a symbol, if its parts are those that its flags ask for.
abbrev pub AddsSymbol : EncodedItems → SymbolParts → EncodedItems → Result (Unit {0}) EncodeError → Type 0
AddsSymbol old s new = Adds (GainsItem symbol) old s new (IsSymbolRefusal old s)

-- The contents are the minimal encoding of the subsections that the section stands for, after the version.
abbrev pub HoldsLinking : EncodedItems → Type 0
HoldsLinking built = (values : List LinkingParts) → StandsForItems linking_subsection built values → (minimal_only linking_data).Encodes (2 ∷ built.bytes) (versioned values)
