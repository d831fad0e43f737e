-- The items that an iterator gives, call by call and in all.
use Rattle.std.specs.Prelude.{◌≡◌, ℕ, zero, suc, ◌+◌, ◌-◌, ◌<◌, ◌≤◌, ◌⊎◌, Bool, true, false, List, [], length, map, Option, Some, None, Result, Ok, Err, if◌then◌else◌}
use Rattle.std.specs.Iterator.{Yields, YieldsThen}
use Rattle.wasm_codec.specs.Lists.{IsListPrefixMinimalIf, ListMinimalIf}
use Rattle.wasm_codec.specs.Outcomes.{EncodesSome, HoldsAtRefusal, IsLongestPrefix, read_error_of}
use Rattle.wasm_codec.specs.Reading.{BeginsWith}
use Rattle.wasm_codec.specs.declared.reader.DecodeError.{DecodeError}
use Rattle.wasm_codec.specs.declared.reader.ReadError.{ReadError}
use Rattle.wasm_codec.specs.declared.reader.ReadError.TheVariants as errors
use Rattle.wasm_codec.specs.formats.Combinators.{Format, minimal_if, u32}
use Rattle.wasm_codec.specs.formats.Grammar.{Grammar, Joined}

-- The state of an iterator over items.
pub record Reading : Type 0 where
  -- the offset of the next item
  pub offset : ℕ
  -- the bytes from there on
  pub left : List ℕ
  -- the number of items to come, if they are counted
  pub due : Option ℕ
  -- only minimal encodings are read
  pub strict : Bool
  -- an error was given
  pub ended : Bool

-- The same error, with its offset counted from this number of bytes further in front.
abbrev pub shifted : ℕ → ReadError → ReadError
shifted start errors.Memory = errors.Memory
shifted start (errors.Refused at) = errors.Refused (at + start)

-- Before the first item of these bytes, which begin at an offset.
abbrev pub starting : ℕ → List ℕ → Bool → Reading
starting offset bytes strict = record { offset = offset; left = bytes; due = None; strict = strict; ended = false }

-- ---- one call

-- No item is to come, as far as they are counted.
abbrev pub NoneDue : Option ℕ → Type 0
NoneDue None = Unit {0}
NoneDue (Some n) = n ≡ 0

-- The number of items to come, after one.
abbrev pub OneLess : Option ℕ → Option ℕ → Type 0
OneLess None after = after ≡ None
OneLess (Some n) after = (m : ℕ) × (n ≡ suc m) × (after ≡ Some m)

-- The iterator gave the next item, which stands for this value.
pub record GivesItem {V : Type 0} (G : Grammar V) (old : Reading) (offset : ℕ) (v : V) (new : Reading) : Type 0 where
  pub begins : BeginsWith G old.left v new.left
  pub offset_is : offset ≡ old.offset
  pub moves : new.offset + length new.left ≡ old.offset + length old.left
  pub due : OneLess old.due new.due
  pub going : old.ended ≡ false
  pub goes_on : new.ended ≡ false
  pub strict : new.strict ≡ old.strict

-- One more item is to be read: it is due, or bytes are left.
abbrev pub HasMore : Option ℕ → List ℕ → Type 0
HasMore None left = 0 < length left
HasMore (Some due) left = 0 < due

-- The bytes begin with no item.
abbrev pub BeginsWithNone : {V : Type 0} → Grammar V → List ℕ → Type 0
BeginsWithNone {V} G bytes = (v : V) (rest : List ℕ) → BeginsWith G bytes v rest → ⊥

-- Bytes are left but no item is due, or they don't begin with the next item.
abbrev pub IsStuck : {V : Type 0} → Grammar V → Option ℕ → List ℕ → Type 0
IsStuck G None left = (0 < length left) × BeginsWithNone G left
IsStuck G (Some zero) left = 0 < length left
IsStuck G (Some (suc due)) left = BeginsWithNone G left

-- An error was given.
pub record GivesError {V : Type 0} (G : Grammar V) (old : Reading) (error : DecodeError) (new : Reading) : Type 0 where
  pub at : HoldsAtRefusal (read_error_of error) (λ at. at ≡ old.offset)
  pub stuck : HoldsAtRefusal (read_error_of error) (λ at. IsStuck G old.due old.left)
  pub going : old.ended ≡ false
  pub ends : new.ended ≡ true

-- Nothing was given: there was an error, or everything was read.
pub record GivesNone (old new : Reading) : Type 0 where
  pub stays : new ≡ old
  pub done : (old.ended ≡ true) ⊎ ((old.left ≡ []) × NoneDue old.due)

-- A call gives nothing, an item or an error.
abbrev pub GivesNext : {X V : Type 0} → (X → V) → Format V → Reading → Option (Result (ℕ × X) DecodeError) → Reading → Type 0
GivesNext view F old None new = GivesNone old new
GivesNext view F old (Some (Ok item)) new = GivesItem (minimal_if old.strict F).Encodes old item.0 (view item.1) new
GivesNext view F old (Some (Err error)) new = GivesError (minimal_if old.strict F).Encodes old error new

-- Calls that give this many items more at most: each takes a byte, an error none.
abbrev pub most_left : Reading → ℕ
most_left r = if r.ended then 0 else suc (length r.left)

-- ---- all calls

-- The values that the items stand for, without their offsets.
abbrev pub values_of : {X V : Type 0} → (X → V) → List (ℕ × X) → List V
values_of view items = map (λ item. view item.1) items

-- Calls gave these items and no error.
abbrev pub GaveItems : {X V : Type 0} → (X → V) → Format V → Reading → List (ℕ × X) → Reading → Type 0
GaveItems {X} view F start items here = Yields (GivesNext view F) start (map (λ item. Ok item) items) here

-- Calls gave these items, and then this.
abbrev pub GaveItemsThen : {X V : Type 0} → (X → V) → Format V → Reading → List (ℕ × X) → Option (Result (ℕ × X) DecodeError) → Reading → Type 0
GaveItemsThen {X} view F start items last here = YieldsThen (GivesNext view F) start (map (λ item. Ok item) items) last here

-- The bytes encode no values; their longest prefix that does ends at this offset.
pub record RefusesItems {V : Type 0} (G : Grammar V) (start : ℕ) (bytes : List ℕ) (at : ℕ) : Type 0 where
  pub behind : start ≤ at
  pub longest : IsLongestPrefix (EncodesSome (Joined G)) bytes (at - start)
  pub none : (values : List V) → Joined G bytes values → ⊥

-- The items given tell which values the bytes encode one after another, however many calls the caller makes.
pub record GivesToEnd {X V : Type 0} (view : X → V) (F : Format V) (bytes : List ℕ) (start : Reading) : Type 0 where
  -- The items given so far encode the bytes before the next one.
  pub so_far : (items : List (ℕ × X)) (here : Reading) → GaveItems view F start items here
      → BeginsWith (Joined (minimal_if start.strict F).Encodes) bytes (values_of view items) here.left
  -- At the end, all of the bytes encode them.
  pub whole : (items : List (ℕ × X)) (here : Reading) → GaveItemsThen view F start items None here
      → Joined (minimal_if start.strict F).Encodes bytes (values_of view items)
  -- An error names the end of the longest prefix that decodes, and the bytes encode no values.
  pub refused : (items : List (ℕ × X)) (error : DecodeError) (here : Reading) → GaveItemsThen view F start items (Some (Err error)) here
      → HoldsAtRefusal (read_error_of error) (RefusesItems (minimal_if start.strict F).Encodes start.offset bytes)
  -- Nothing is given after an error.
  pub silent : (items : List (ℕ × X)) (error : DecodeError) (here : Reading) → GaveItemsThen view F start items (Some (Err error)) here
      → (next : Option (Result (ℕ × X) DecodeError)) (there : Reading) → GivesNext view F here next there → next ≡ None

-- ---- the items of a list

-- The bytes encode no list; their longest whole prefix ends at this offset.
pub record EncodesNoList {V : Type 0} (strict : Bool) (F : Format V) (start : ℕ) (bytes : List ℕ) (at : ℕ) : Type 0 where
  pub behind : start ≤ at
  pub longest : IsLongestPrefix (IsListPrefixMinimalIf strict F) bytes (at - start)
  pub none : (values : List V) → ListMinimalIf strict F bytes values → ⊥

-- The items given tell which list these bytes at an offset encode, however many calls the caller makes.
pub record GivesList {X V : Type 0} (view : X → V) (F : Format V) (offset : ℕ) (bytes : List ℕ) (start : Reading) : Type 0 where
  -- The number of items.
  pub count : ℕ
  pub due : start.due ≡ Some count
  pub counted : BeginsWith (minimal_if start.strict u32).Encodes bytes count start.left
  pub place : start.offset + length start.left ≡ offset + length bytes
  -- The items given so far encode the bytes between the count and the next one.
  pub so_far : (items : List (ℕ × X)) (here : Reading) → GaveItems view F start items here
      → BeginsWith (Joined (minimal_if start.strict F).Encodes) start.left (values_of view items) here.left
  -- At the end, they are the list.
  pub whole : (items : List (ℕ × X)) (here : Reading) → GaveItemsThen view F start items None here
      → ListMinimalIf start.strict F bytes (values_of view items)
  -- An error names the end of the longest whole prefix, and the bytes encode no list.
  pub refused : (items : List (ℕ × X)) (error : DecodeError) (here : Reading) → GaveItemsThen view F start items (Some (Err error)) here
      → HoldsAtRefusal (read_error_of error) (EncodesNoList start.strict F offset bytes)
  -- Nothing is given after an error.
  pub silent : (items : List (ℕ × X)) (error : DecodeError) (here : Reading) → GaveItemsThen view F start items (Some (Err error)) here
      → (next : Option (Result (ℕ × X) DecodeError)) (there : Reading) → GivesNext view F here next there → next ≡ None
