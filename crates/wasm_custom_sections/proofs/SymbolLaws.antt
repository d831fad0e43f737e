-- The laws of the symbols of object files, and what is written of them.
use Rattle.std.proofs.Common.{◌≡◌, ℕ, ◌+◌, ◌<◌, ◌^◌, ◌⊎◌, Bool, true, false, List, [], ◌∷◌, ◌++◌, Option, Some, None, Result, Ok, Err, OnOk, OnErr, IfErr, inr, refl, lit≤, sym, subst}
use Rattle.std.specs.Prelude.{is_some}
use Rattle.std.proofs.lemmas.List.{append-nil}
use Rattle.wasm_codec.specs.declared.encode.EncodeError.{EncodeError}
use Rattle.wasm_codec.specs.Appending.{Appends}
use Rattle.wasm_codec.specs.Encoding.{IsCount, IsMinimal}
use Rattle.wasm_codec.specs.Lawful.{IsLawful}
use Rattle.wasm_codec.specs.Leb128.{unsigned_leb128}
use Rattle.wasm_codec.specs.formats.Combinators.{u32}
use Rattle.wasm_codec.specs.formats.Grammar.{TakesBytes}
use Rattle.wasm_codec.specs.formats.Numbers.{EncodesU32}
use Rattle.wasm_codec.proofs.FormatLaws.{Every-made, Lawful-both, Lawful-made, Lawful-then, Lawful-u32, Tagged-never, Tagged-or, takes_bytes}
use Rattle.wasm_codec.proofs.NumberLaws.{written}
use Rattle.wasm_externals.specs.formats.Names.{name}
use Rattle.wasm_externals.specs.formats.PartCombinators.{part_if, some_of}
use Rattle.wasm_codec.proofs.AppendLaws.{appends_as, three}
use Rattle.wasm_externals.proofs.NameLaws.{name_is_lawful, in_name}
use Rattle.wasm_externals.proofs.PartCombinatorLaws.{Lawful-part-if}
use Rattle.wasm_lists.specs.EncodedLists.{EncodedItems, IsFull, IsMemoryOrTooLong, IsUncounted}
use Rattle.wasm_lists.proofs.EncodedListLaws.{counted_or, gains_one, which}
use Rattle.wasm_lists.proofs.WrittenLists.{in_range_of}
use Rattle.wasm_sections.specs.ListSections.{GainsItem}
use Rattle.wasm_custom_sections.specs.LinkingSections.{AddsSymbol, CanName, CountedSymbol, IsSymbolRefusal, IsWrittenSymbol, name_length, text_length}
use Rattle.wasm_custom_sections.specs.declared.symbols.DataSymbolDefinition.{DataSymbolDefinition}
use Rattle.wasm_custom_sections.specs.declared.symbols.SectionSymbol.{SectionSymbol}
use Rattle.wasm_custom_sections.specs.formats.SymbolParts.{ItemParts, DataParts, SymbolParts, symbol_kind, function, data_object, global, section, tag, table, function_part, data_part, global_part, section_part, tag_part, table_part}
use Rattle.wasm_custom_sections.specs.formats.Symbols.{Agrees, DataAgrees, ItemAgrees, data_of, data_symbol, definition, definition_of, has_name, is_defined, item_of, item_symbol, section_of, section_symbol, symbol}
use Rattle.wasm_custom_sections.proofs.GainingLaws.{IsRefused, refused}

item_is_lawful : IsLawful item_symbol
unfolding item_symbol
item_is_lawful = Lawful-made item_of (λ s. Some (s.flags, (s.index, s.name))) (λ p. refl) (Lawful-then Lawful-u32 (λ flags. Lawful-both Lawful-u32 (Lawful-part-if (has_name flags) name_is_lawful)))

definition_is_lawful : IsLawful definition
unfolding definition
definition_is_lawful = Lawful-made definition_of (λ d. Some (d.index, (d.offset, d.size))) (λ p. refl) (Lawful-both Lawful-u32 (Lawful-both Lawful-u32 Lawful-u32))

data_is_lawful : IsLawful data_symbol
unfolding data_symbol
data_is_lawful = Lawful-made data_of (λ s. Some (s.flags, (s.name, s.definition))) (λ p. refl) (Lawful-then Lawful-u32 (λ flags. Lawful-both name_is_lawful (Lawful-part-if (is_defined flags) definition_is_lawful)))

section_is_lawful : IsLawful section_symbol
unfolding section_symbol
section_is_lawful = Lawful-made section_of (λ s. Some (s.flags, s.section)) (λ p. refl) (Lawful-both Lawful-u32 Lawful-u32)

pub symbol_is_lawful : IsLawful symbol
unfolding symbol
symbol_is_lawful =
    (Tagged-or symbol_kind 0 refl (lit≤ tt) (Every-made (λ s. refl)) (Lawful-made function function_part (λ s. refl) item_is_lawful)
    (Tagged-or symbol_kind 1 refl (lit≤ tt) (Every-made (λ s. refl)) (Lawful-made data_object data_part (λ s. refl) data_is_lawful)
    (Tagged-or symbol_kind 2 refl (lit≤ tt) (Every-made (λ s. refl)) (Lawful-made global global_part (λ s. refl) item_is_lawful)
    (Tagged-or symbol_kind 3 refl (lit≤ tt) (Every-made (λ s. refl)) (Lawful-made section section_part (λ s. refl) section_is_lawful)
    (Tagged-or symbol_kind 4 refl (lit≤ tt) (Every-made (λ s. refl)) (Lawful-made tag tag_part (λ s. refl) item_is_lawful)
    (Tagged-or symbol_kind 5 refl (lit≤ tt) (Every-made (λ s. refl)) (Lawful-made table table_part (λ s. refl) item_is_lawful)
    Tagged-never)))))).choice.lawful

pub symbol_takes : TakesBytes symbol.Encodes
unfolding symbol
symbol_takes = takes_bytes symbol_is_lawful refl

-- ---- what is written, and what is in range

-- nothing was appended
pub no_more : (old : List ℕ) → old ≡ old ++ []
no_more old = sym (append-nil old)

in_u32 : (n : ℕ) → IsMinimal EncodesU32 unsigned_leb128 n → n < 2 ^ 32
in_u32 n h = in_range_of u32 Lawful-u32 n h

pub name_there : (text : List ℕ) → IsMinimal name.Encodes name.bytes text → name.InRange text × (some_of text ≡ some_of text)
name_there text h = (in_name text h, refl)

pub definition_there : (d : DataSymbolDefinition) → IsMinimal EncodesU32 unsigned_leb128 d.index → IsMinimal EncodesU32 unsigned_leb128 d.offset → IsMinimal EncodesU32 unsigned_leb128 d.size → definition.InRange d
unfolding definition
definition_there d index offset size = ((in_u32 d.index index, (in_u32 d.offset offset, in_u32 d.size size)), refl)

pub definition_appended : (d : DataSymbolDefinition) (old one two new : List ℕ) → one ≡ old ++ unsigned_leb128 d.index → two ≡ one ++ unsigned_leb128 d.offset → new ≡ two ++ unsigned_leb128 d.size → new ≡ old ++ definition.bytes d
unfolding definition
definition_appended d old a b new p q r = three old (unsigned_leb128 d.index) (unsigned_leb128 d.offset) (unsigned_leb128 d.size) a b new p q r

pub definition_if_there : (there : Bool) (o : Option DataSymbolDefinition) (d : DataSymbolDefinition) → o ≡ Some d → definition.InRange d → is_some o ≡ there → (part_if there definition).InRange o
unfolding part_if
definition_if_there true o d is fits agrees = rw is (fits, refl)
definition_if_there false o d is fits agrees = absurd cc

pub definition_if_bytes : (there : Bool) (o : Option DataSymbolDefinition) (d : DataSymbolDefinition) → there ≡ true → o ≡ Some d → (part_if there definition).bytes o ≡ definition.bytes d
unfolding part_if
definition_if_bytes true o d flag is = rw is refl
definition_if_bytes false o d flag is = absurd cc

pub item_there : (s : ItemParts) → IsMinimal EncodesU32 unsigned_leb128 s.flags → IsMinimal EncodesU32 unsigned_leb128 s.index → (is_some s.name ≡ has_name s.flags → (part_if (has_name s.flags) name).InRange s.name) → ItemAgrees s → item_symbol.InRange s
unfolding item_symbol
item_there s flags index fits agrees = ((in_u32 s.flags flags, (in_u32 s.index index, fits agrees)), refl)

pub data_there : (s : DataParts) → IsMinimal EncodesU32 unsigned_leb128 s.flags → IsMinimal name.Encodes name.bytes s.name → (is_some s.definition ≡ is_defined s.flags → (part_if (is_defined s.flags) definition).InRange s.definition) → DataAgrees s → data_symbol.InRange s
unfolding data_symbol
data_there s flags text fits agrees = ((in_u32 s.flags flags, (in_name s.name text, fits agrees)), refl)

pub section_there : (s : SectionSymbol) → IsMinimal EncodesU32 unsigned_leb128 s.flags → IsMinimal EncodesU32 unsigned_leb128 s.section → section_symbol.InRange s
unfolding section_symbol
section_there s flags number = ((in_u32 s.flags flags, in_u32 s.section number), refl)

pub section_appended : (s : SectionSymbol) (old one two new : List ℕ) → one ≡ old ++ 3 ∷ [] → two ≡ one ++ unsigned_leb128 s.flags → new ≡ two ++ unsigned_leb128 s.section → new ≡ old ++ 3 ∷ section_symbol.bytes s
unfolding section_symbol
section_appended s old a b new p q r = three old (3 ∷ []) (unsigned_leb128 s.flags) (unsigned_leb128 s.section) a b new p q r

-- the parts of each kind are in range
abbrev pub PartsInRange : SymbolParts → Type 0
PartsInRange (function s) = ItemAgrees s → item_symbol.InRange s
PartsInRange (data_object s) = DataAgrees s → data_symbol.InRange s
PartsInRange (global s) = ItemAgrees s → item_symbol.InRange s
PartsInRange (section s) = section_symbol.InRange s
PartsInRange (tag s) = ItemAgrees s → item_symbol.InRange s
PartsInRange (table s) = ItemAgrees s → item_symbol.InRange s

symbol_there : (s : SymbolParts) → PartsInRange s → Agrees s → symbol.InRange s
unfolding symbol
symbol_there (function s) fits agrees = (fits agrees, refl)
symbol_there (data_object s) fits agrees = (fits agrees, refl)
symbol_there (global s) fits agrees = (fits agrees, refl)
symbol_there (section s) fits agrees = (fits, refl)
symbol_there (tag s) fits agrees = (fits agrees, refl)
symbol_there (table s) fits agrees = (fits agrees, refl)

symbol_written : (s : SymbolParts) → PartsInRange s → IsWrittenSymbol s
symbol_written s fits agrees = written symbol_is_lawful.minimal s (symbol_there s fits agrees)

-- the bytes of each kind
abbrev pub kind_bytes : SymbolParts → List ℕ
kind_bytes (function s) = 0 ∷ item_symbol.bytes s
kind_bytes (data_object s) = 1 ∷ data_symbol.bytes s
kind_bytes (global s) = 2 ∷ item_symbol.bytes s
kind_bytes (section s) = 3 ∷ section_symbol.bytes s
kind_bytes (tag s) = 4 ∷ item_symbol.bytes s
kind_bytes (table s) = 5 ∷ item_symbol.bytes s

pub bytes_are : (s : SymbolParts) → symbol.bytes s ≡ kind_bytes s
unfolding symbol
bytes_are (function s) = refl
bytes_are (data_object s) = refl
bytes_are (global s) = refl
bytes_are (section s) = refl
bytes_are (tag s) = refl
bytes_are (table s) = refl

pub symbol_appends : {r : Result (Unit {0}) EncodeError} {old new : List ℕ} (s : SymbolParts) → Appends (kind_bytes s) (CountedSymbol s) (PartsInRange s) old new r → Appends (symbol.bytes s) (CountedSymbol s) (IsWrittenSymbol s) old new r
symbol_appends s call = appends_as (sym (bytes_are s)) (symbol_written s) call

-- ---- methods that add

name_fits : (there : Bool) (o : Option (List ℕ)) → IsCount (text_length o) → CanName there o
name_fits there None few is = tt
name_fits there (Some text) few is = few

symbol_fits : (s : SymbolParts) → IsCount (name_length s) → CountedSymbol s
symbol_fits (function s) few = name_fits (has_name s.flags) s.name few
symbol_fits (data_object s) few = few
symbol_fits (global s) few = name_fits (has_name s.flags) s.name few
symbol_fits (section s) few = tt
symbol_fits (tag s) few = name_fits (has_name s.flags) s.name few
symbol_fits (table s) few = name_fits (has_name s.flags) s.name few

module _ (was old new : EncodedItems) (s : SymbolParts) (r : Result (Unit {0}) EncodeError) (same : was ≡ old) where
  gained : (t : Result (Unit {0}) EncodeError) → Agrees s → OnOk t (new.count ≡ was.count + 1) → OnOk t (new.bytes ≡ was.bytes ++ symbol.bytes s) → OnOk t (IsWrittenSymbol s) → OnOk t (GainsItem symbol was s new)
  gained (Ok x) agrees count bytes fits = gains_one symbol (λ item. Unit {0}) was new s count bytes tt (in_range_of symbol symbol_is_lawful s (fits agrees))
  gained (Err e) agrees count bytes fits = tt

  too_long : (CountedSymbol s → ⊥) → IsUncounted (name_length s)
  too_long cannot = which (counted_or (name_length s)) (λ few. cannot (symbol_fits s few))

  refused_so : {X : Type 0} (t : Result X EncodeError) → Agrees s → IfErr t (IsMemoryOrTooLong (IsFull was ⊎ IsUncounted (name_length s))) → IfErr t (IsSymbolRefusal was s)
  refused_so (Ok x) agrees why = tt
  refused_so (Err e) agrees why = inr (agrees, why)

  pub adds_symbol : Agrees s → OnOk r (new.count ≡ was.count + 1) → OnOk r (new.bytes ≡ was.bytes ++ symbol.bytes s) → OnOk r (IsWrittenSymbol s) → OnErr r (new ≡ was) → IfErr r (IsRefused (CountedSymbol s) was) → AddsSymbol old s new r
  adds_symbol agrees count bytes fits unchanged refusal =
      subst (λ (list : EncodedItems). AddsSymbol list s new r) same
      (record { gains = gained r agrees count bytes fits; same = unchanged; refused = refused_so r agrees (refused r was too_long refusal) })
