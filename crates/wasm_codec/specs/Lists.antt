-- Lists: a count, then the items (WebAssembly Core 3.0, Lists).
use Rattle.std.specs.Prelude.{◌≡◌, ℕ, ◌+◌, ◌-◌, ◌<◌, ◌≤◌, ◌⊎◌, Bool, List, [], ◌++◌, length, Option, Some, None, Result, Ok, Err}
use Rattle.std.specs.List.{flat_map}
use Rattle.wasm_codec.specs.formats.Grammar.{Grammar, Joined, Counted}
use Rattle.wasm_codec.specs.Reading.{PlainReader, plain_counted_at}
use Rattle.wasm_codec.specs.formats.Numbers.{EncodesU32}
use Rattle.wasm_codec.specs.Leb128.{unsigned_leb128}
use Rattle.wasm_codec.specs.formats.Combinators.{Format, u32, minimal_if}
use Rattle.wasm_codec.specs.Lawful.{plain}
use Rattle.wasm_codec.specs.declared.reader.cursor.Fault.{Fault}
use Rattle.wasm_codec.specs.declared.reader.cursor.Fault.TheVariants as faults
use Rattle.wasm_codec.specs.declared.reader.refusal.Refusal.{Refusal}

-- The bytes encode this list: a count, then as many items.
abbrev pub EncodesList : {A : Type 0} → Grammar A → Grammar (List A)
EncodesList G = Counted EncodesU32 G

-- Reads a list: a count, then as many items.
abbrev pub list_at : {A : Type 0} → PlainReader A → PlainReader (List A)
list_at read = plain_counted_at (plain u32.at) read

-- The minimal encoding of a list: its count, then the bytes of each item.
abbrev pub items_bytes : {A : Type 0} → (A → List ℕ) → List A → List ℕ
items_bytes encoding xs = unsigned_leb128 (length xs) ++ flat_map encoding xs

-- A count, then at most as many items.
pub record HasItems {A : Type 0} (Count : Grammar ℕ) (G : Grammar A) (prefix : List ℕ) : Type 0 where
  pub count : ℕ
  pub items : List A
  pub head : List ℕ
  pub back : List ℕ
  pub parts : prefix ≡ head ++ back
  pub counted : Count head count
  pub few : length items ≤ count
  pub encoded : Joined G back items

-- The prefix is empty, or it is a count, encoded so, and at most as many items.
abbrev pub IsCountedPrefix : {A : Type 0} → Grammar ℕ → Grammar A → List ℕ → Type 0
IsCountedPrefix Count G prefix = (prefix ≡ []) ⊎ HasItems Count G prefix

-- The prefix is empty, or it is a count and at most as many items.
abbrev pub IsListPrefix : {A : Type 0} → Grammar A → List ℕ → Type 0
IsListPrefix G = IsCountedPrefix EncodesU32 G

-- ---- minimal encodings alone, if `strict`

-- The bytes encode this list; if `strict`, the count and each item are minimally encoded.
abbrev pub ListMinimalIf : {A : Type 0} → Bool → Format A → Grammar (List A)
ListMinimalIf strict F = Counted (minimal_if strict u32).Encodes (minimal_if strict F).Encodes

-- Reads a list; if `strict`, reads minimal encodings alone.
abbrev pub list_minimal_if_at : {A : Type 0} → Bool → Format A → PlainReader (List A)
list_minimal_if_at strict F = plain_counted_at (plain (minimal_if strict u32).at) (plain (minimal_if strict F).at)

-- The prefix is empty, or a count and at most as many items, all minimally encoded if `strict`.
abbrev pub IsListPrefixMinimalIf : {A : Type 0} → Bool → Format A → List ℕ → Type 0
IsListPrefixMinimalIf strict F = IsCountedPrefix (minimal_if strict u32).Encodes (minimal_if strict F).Encodes

-- ---- the numbers in a refusal

-- The bytes before this offset are a count and this number of items.
pub record HasItemsBefore {V : Type 0} (Count : Grammar ℕ) (G : Grammar V) (bytes : List ℕ) (count index at : ℕ) : Type 0 where
  pub head : List ℕ
  pub back : List ℕ
  pub rest : List ℕ
  pub items : List V
  pub parts : bytes ≡ head ++ (back ++ rest)
  pub at_is : length head + length back ≡ at
  pub counted : Count head count
  pub few : length items ≤ count
  pub encoded : Joined G back items
  pub index_is : length items ≡ index

-- If the refusal names an item, its index is the number of items before it, and less than the count. If it names none,
-- it is at the count, or after the whole list.
abbrev pub IsCountedAt : {V : Type 0} → Grammar ℕ → Grammar V → List ℕ → ℕ → Option ℕ → Type 0
IsCountedAt Count G bytes at (Some index) = (count : ℕ) × (index < count) × HasItemsBefore Count G bytes count index at
IsCountedAt Count G bytes at None = (at ≡ 0) ⊎ ((count : ℕ) × HasItemsBefore Count G bytes count count at)

-- The item that the refusal names counts the items before it; if `strict`, all of them are minimally encoded.
abbrev pub CountsItems : {V : Type 0} → Bool → Format V → List ℕ → Refusal → Type 0
CountsItems strict F bytes refusal = IsCountedAt (minimal_if strict u32).Encodes (minimal_if strict F).Encodes bytes refusal.at refusal.item

-- The same of the fault of a call that reads a list. If the call succeeds, it has taken no bytes, or the whole list.
abbrev pub CountsRead : {X V : Type 0} → Bool → Format V → List ℕ → List ℕ → Result X Fault → Type 0
CountsRead strict F old new (Ok items) = IsCountedAt (minimal_if strict u32).Encodes (minimal_if strict F).Encodes old (length old - length new) None
CountsRead strict F old new (Err (faults.Malformed m)) = IsCountedAt (minimal_if strict u32).Encodes (minimal_if strict F).Encodes old (length old - length new) m.item
CountsRead strict F old new (Err faults.Memory) = Unit {0}

-- The list breaks off at the item with this index: the items before it decode, and it doesn't.
pub record BreaksAtItem {V : Type 0} (Count : Format ℕ) (F : Format V) (body : List ℕ) (index : ℕ) : Type 0 where
  pub count : ℕ
  pub at : ℕ
  pub before : HasItemsBefore Count.Encodes F.Encodes body count index at
  pub few : index < count
  pub broken : (plain F.at) before.rest ≡ None

-- The bytes begin with a size and a body of that size, which breaks off at the item with this index.
pub record BreaksInBody (Breaks : List ℕ → ℕ → Type 0) (bytes : List ℕ) (index : ℕ) : Type 0 where
  pub size : List ℕ
  pub body : List ℕ
  pub rest : List ℕ
  pub parts : bytes ≡ size ++ (body ++ rest)
  pub sized : EncodesU32 size (length body)
  pub breaks : Breaks body index

-- The bytes before this offset are this number of items, without a count.
pub record HasJoinedBefore {V : Type 0} (G : Grammar V) (bytes : List ℕ) (index at : ℕ) : Type 0 where
  pub prefix : List ℕ
  pub rest : List ℕ
  pub items : List V
  pub parts : bytes ≡ prefix ++ rest
  pub at_is : length prefix ≡ at
  pub encoded : Joined G prefix items
  pub index_is : length items ≡ index
