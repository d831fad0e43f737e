-- Places in bytes, and reading functions on them. A reading function gives the value at a place and the place after it,
-- or none. A place also tells whether everything read so far was minimally encoded.
use Rattle.std.specs.Prelude.{◌≡◌, ℕ, zero, suc, Bool, true, false, ◌&&◌, not, ◌==◌, nat_lt, if◌then◌else◌, List, [], ◌∷◌, length, take, drop, Option, Some, None, Result, Ok, Err, ℤ, pos, ◌^◌}
use Rattle.wasm_codec.specs.declared.reader.cursor.Fault.{Fault}
use Rattle.wasm_codec.specs.declared.reader.cursor.Fault.TheVariants as faults
use Rattle.wasm_codec.specs.Reading.{◌>>=◌}
use Rattle.wasm_codec.specs.Leb128.{digits_at, below, signed_within, index_below, unsigned_leb128, signed_leb128}

-- A place in bytes: the bytes that are left, and whether everything read so far was minimally encoded.
pub record Place : Type 0 where
  -- the bytes that are left
  pub left : List ℕ
  -- everything read so far was minimally encoded
  pub minimal : Bool

-- The place with these bytes left, and this answer about the encodings read so far.
abbrev pub place : Bool → List ℕ → Place
place minimal left = record { left = left; minimal = minimal }

-- A reading function: the value at a place and the place after it, or none.
abbrev pub Reader : Type 0 → Type 0
Reader V = Place → Option (V × Place)

-- The call reads the value at its place and moves behind it, or fails with `Malformed` if there is none.
abbrev pub Reads : {V : Type 0} → Reader V → Place → Place → Result V Fault → Type 0
Reads read old new (Ok v) = read old ≡ Some (v, new)
Reads read old new (Err (faults.Malformed m)) = read old ≡ None
Reads read old new (Err faults.Memory) = Unit {0}

-- Everything read so far was minimal, and so was this prefix: it is as long as the minimal encoding.
abbrev pub keeps : Bool → List ℕ → List ℕ → Bool
keeps minimal prefix bytes = minimal && (length prefix == length bytes)

-- If `strict`, everything read so far was minimally encoded.
abbrev pub WasMinimalIf : Bool → Place → Type 0
WasMinimalIf true p = p.minimal ≡ true
WasMinimalIf false p = Unit {0}

-- The same place, but not minimally encoded so far if a long form was read.
abbrev pub unless : Bool → Place → Place
unless long p = place (p.minimal && not long) p.left

-- The first of the bytes, and the place after it.
abbrev pub byte_from : Bool → List ℕ → Option (ℕ × Place)
byte_from minimal [] = None
byte_from minimal (b ∷ bytes) = Some (b, place minimal bytes)

-- Reads one byte.
unfoldable pub byte_at : Reader ℕ
byte_at p = byte_from p.minimal p.left

-- The call returns the byte at its place and doesn't move.
abbrev pub Sees : Place → Result ℕ Fault → Type 0
Sees p (Ok b) = (after : Place) × (byte_at p ≡ Some (b, after))
Sees p (Err (faults.Malformed m)) = byte_at p ≡ None
Sees p (Err faults.Memory) = Unit {0}

-- Reads one value, then a second one, which may depend on the first.
abbrev pub then_at : {A B : Type 0} → Reader A → (A → Reader B) → Reader (A × B)
then_at read more p = do
  a ← read p
  b ← more a.0 a.1
  Some ((a.0, b.0), b.1)

-- Reads a value and makes another of it.
abbrev pub map_at : {A B : Type 0} → (A → B) → Reader A → Reader B
map_at make read p = do
  a ← read p
  Some (make a.0, a.1)

-- Reads a value and makes another of it; some values are long forms.
abbrev pub map_unless : {A B : Type 0} → (A → Bool) → (A → B) → Reader A → Reader B
map_unless long make read p = do
  a ← read p
  Some (make a.0, unless (long a.0) a.1)

-- Reads no bytes and gives this value.
abbrev pub nothing_at : {A : Type 0} → A → Reader A
nothing_at a p = Some (a, p)

-- Reads nothing: there is no value at any place.
abbrev pub never_at : {A : Type 0} → Reader A
never_at p = None

-- Reads with the first function if the test holds, else with the second.
abbrev pub either_at : {A : Type 0} → Bool → Reader A → Reader A → Reader A
either_at true read other = read
either_at false read other = other

-- Reads a first byte and then what it selects, which takes the places before and after that byte.
abbrev pub by_byte : {A : Type 0} → (ℕ → Place → Reader A) → Reader A
by_byte reads p = do
  first ← byte_at p
  reads first.0 p first.1

-- Gives the value that there is, and reads no bytes.
abbrev pub only_at : {A : Type 0} → Option A → Reader A
only_at None p = None
only_at (Some a) p = Some (a, p)

-- Reads this number of bytes.
unfoldable pub raw_at : ℕ → Reader (List ℕ)
raw_at count p = if nat_lt (length p.left) count then None else Some (take count p.left, place p.minimal (drop count p.left))

-- Reads this number of values.
unfoldable pub times_at : {A : Type 0} → Reader A → ℕ → Reader (List A)
times_at read zero p = Some ([], p)
times_at read (suc n) p = do
  v ← read p
  vs ← times_at read n v.1
  Some (v.0 ∷ vs.0, vs.1)

-- Reads a count, then as many values.
abbrev pub counted_at : {A : Type 0} → Reader ℕ → Reader A → Reader (List A)
counted_at count read p = do
  n ← count p
  times_at read n.0 n.1

-- ---- numbers

-- Reads a number of at most `most` digits; it is minimal if it has as many digits as are written.
abbrev pub number_at : {V : Type 0} → ℕ → (List ℕ → Option V) → (V → List ℕ) → Reader V
number_at most value bytes p = do
  digits ← digits_at most p.left
  v ← value digits.0
  Some (v, place (keeps p.minimal digits.0 (bytes v)) digits.1)

-- Reads a u32, and tells whether it was minimal.
unfoldable pub u32_at : Reader ℕ
u32_at = number_at 5 (below (2 ^ 32)) unsigned_leb128

-- Reads a u64, and tells whether it was minimal.
unfoldable pub u64_at : Reader ℕ
u64_at = number_at 10 (below (2 ^ 64)) unsigned_leb128

-- Reads an s32, and tells whether it was minimal.
unfoldable pub s32_at : Reader ℤ
s32_at = number_at 5 (signed_within (2 ^ 31)) signed_leb128

-- Reads an s64, and tells whether it was minimal.
unfoldable pub s64_at : Reader ℤ
s64_at = number_at 10 (signed_within (2 ^ 63)) signed_leb128

-- Reads an index in the place of a negative type code, and tells whether it was minimal.
unfoldable pub index_at : Reader ℕ
index_at = number_at 5 (index_below (2 ^ 32)) (λ n. signed_leb128 (pos n))
