-- The contents of linking sections (tool conventions, WebAssembly Object File Linking, Linking Metadata Section).
use Rattle.std.specs.Prelude.{◌≡◌, ℕ, ◌==◌, Bool, true, not, List, map, Option, Some, None, if◌then◌else◌}
use Rattle.wasm_codec.specs.formats.Bodies.{sized, byte_list, to_end}
use Rattle.wasm_codec.specs.formats.Combinators.{Format, ◌⊗◌, made, any_of, or_else, tagged, byte_where, items, minimal_if, u32}
use Rattle.wasm_codec.specs.Reading.{◌>>=◌}
use Rattle.wasm_custom_sections.specs.declared.linking.LinkingSubsection.{LinkingSubsection}
use Rattle.wasm_custom_sections.specs.declared.linking.LinkingSubsection.TheVariants as read
use Rattle.wasm_custom_sections.specs.formats.SymbolParts.{SymbolParts, all_symbol_parts}
use Rattle.wasm_custom_sections.specs.formats.Symbols.{symbol}

-- A subsection of a linking section with its content.
pub data LinkingParts : Type 0 where
  symbols : List SymbolParts → LinkingParts
  other : ℕ → List ℕ → LinkingParts

-- The subsection with its content, without the borrows from the input.
abbrev pub linking_parts : LinkingSubsection → LinkingParts
linking_parts (read.SymbolTable table) = symbols (all_symbol_parts table)
linking_parts (read.Other id bytes) = other id bytes.now

-- The subsections with their content.
abbrev pub all_linking_parts : List LinkingSubsection → List LinkingParts
all_linking_parts = map linking_parts

-- The id of a subsection with this content.
abbrev pub linking_id : LinkingParts → ℕ
linking_id (symbols ss) = 8
linking_id (other id bytes) = id

abbrev pub symbols_part : LinkingParts → Option (List SymbolParts)
symbols_part (symbols ss) = Some ss
symbols_part s = None

-- The subsection of this id with these bytes.
abbrev pub other_of : ℕ × List ℕ → LinkingParts
other_of p = other p.0 p.1

abbrev pub other_part : LinkingParts → Option (ℕ × List ℕ)
other_part (other id bytes) = Some (id, bytes)
other_part s = None

-- An id that isn't that of a symbol table.
abbrev pub is_other : ℕ → Bool
is_other id = not (id == 8)

-- A subsection: its id, its size and its content. Here subsections other than symbol tables have any bytes.
-- WASM_SYMBOL_TABLE ::= 8 size:u32 list(syminfo)
-- WASM_SEGMENT_INFO, WASM_INIT_FUNCS, WASM_COMDAT_INFO ::= 5, 6, 7 size:u32 ..
unfoldable pub linking_subsection : Format LinkingParts
linking_subsection = any_of
    (tagged linking_id 8 (made symbols symbols_part (sized (items symbol)))
    (or_else (made other_of other_part (byte_where is_other ⊗ byte_list))))

-- The values for which the test holds.
abbrev pub such_that : {A : Type 0} → (A → Bool) → Format A → Format A
such_that test F = record {
  Encodes = λ bytes v. F.Encodes bytes v × (test v ≡ true);
  at = λ p. F.at p >>= λ x. if test x.0 then Some x else None;
  bytes = F.bytes;
  InRange = λ v. F.InRange v × (test v ≡ true);
  first = F.first;
}

-- The version, which is 2.
-- version ::= n:u32 (if n = 2)
unfoldable pub version : Format ℕ
version = such_that (λ n. n == 2) u32

-- The version, then subsections to the end; in minimal encodings alone if `strict`.
abbrev pub linking_if : Bool → Format (ℕ × List LinkingParts)
linking_if strict = minimal_if strict version ⊗ to_end (minimal_if strict linking_subsection)

-- The contents of a linking section: the version and subsections, in any order and number.
-- linking ::= version subsection*
abbrev pub linking_data : Format (ℕ × List LinkingParts)
linking_data = version ⊗ to_end linking_subsection

-- The contents with these subsections.
abbrev pub versioned : List LinkingParts → ℕ × List LinkingParts
versioned subsections = (2, subsections)
