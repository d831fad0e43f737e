-- Items that are scanned: how long they are, and which of their bytes the minimal encoding keeps.
use Rattle.std.specs.Prelude.{◌≡◌, ℕ, ◌+◌, ◌<◌, ◌≤◌, ◌-◌, ◌%◌, ◌⊎◌, ◌&&◌, ◌==◌, Bool, true, false, if◌then◌else◌, nat_le, List, [], ◌∷◌, length, get_or, take, drop, Option, Some, None}
use Rattle.std.specs.List.{AllByRecursion}
use Rattle.wasm_codec.specs.formats.Numbers.{last}
use Rattle.wasm_codec.specs.Leb128.{complemented}
use Rattle.wasm_codec.specs.Places.{place}
use Rattle.wasm_codec.specs.Rewriter.{Rewriting, skipped, shortened, cut}
use Rattle.wasm_codec.specs.formats.Combinators.{Format}
use Rattle.wasm_codec.specs.declared.rewriter.scan.Scanned.{Scanned}
use Rattle.wasm_codec.specs.declared.rewriter.scan.Scanned.TheVariants as scanned

-- ---- digits

-- Digits that aren't the last.
abbrev pub AreMore : List ℕ → Type 0
AreMore = AllByRecursion (λ b. (128 ≤ b) × (b < 256))

-- The last digit only repeats the sign of the one before it, or is 0 if there are no signs.
abbrev pub repeats : Bool → ℕ → ℕ → Bool
repeats signed before last = if signed && nat_le 64 (before % 128) then last == 127 else last == 0

-- The number has no encoding with fewer digits.
abbrev pub AreFewest : Bool → List ℕ → ℕ → Type 0
AreFewest signed front end = (front ≡ []) ⊎ (repeats signed (last front) end ≡ false)

-- The minimal encoding keeps the first `kept` of the digits: those after them only repeat the sign.
pub record KeepsDigits (signed : Bool) (bytes : List ℕ) (count kept : ℕ) : Type 0 where
  pub some : 0 < kept
  pub fewer : kept ≤ count
  pub repeated : (k : ℕ) → kept ≤ k → k < count → repeats signed (get_or bytes (k - 1) 0) (get_or bytes k 0 % 128) ≡ true
  pub fewest : (kept ≤ 1) ⊎ (repeats signed (get_or bytes (kept - 2) 0) (get_or bytes (kept - 1) 0 % 128) ≡ false)

-- The bytes begin with digits, the last of them after `before` others.
pub record Begins (most : ℕ) (bytes : List ℕ) (before count : ℕ) : Type 0 where
  pub count_is : count ≡ before + 1
  pub few : count ≤ most
  pub within : before < length bytes
  pub more : AreMore (take before bytes)
  pub small : get_or bytes before 0 < 128

-- The bytes begin with a minimally encoded number: fewer than `most` digits, or the last stands for a number below
-- `top`.
pub record IsShortNumber (signed : Bool) (most top : ℕ) (bytes : List ℕ) (count : ℕ) : Type 0 where
  pub before : ℕ
  pub digits : Begins most bytes before count
  pub fewer : (count < most) ⊎ (complemented (signed && nat_le 64 (get_or bytes before 0)) (get_or bytes before 0) < top)
  pub fewest : AreFewest signed (take before bytes) (get_or bytes before 0)

-- The bytes begin with a number whose last digit only repeats the sign.
pub record IsPaddedNumber (signed : Bool) (most : ℕ) (bytes : List ℕ) (before : ℕ) : Type 0 where
  pub digits : Begins most bytes before (before + 1)
  pub some : 0 < before
  pub last_repeats : repeats signed (last (take before bytes)) (get_or bytes before 0) ≡ true

-- The call tells truly whether the bytes begin with a minimal or with a padded number.
abbrev pub ScansDigits : Bool → ℕ → ℕ → List ℕ → Option Scanned → Type 0
ScansDigits signed most top bytes None = Unit {0}
ScansDigits signed most top bytes (Some (scanned.Minimal count)) = IsShortNumber signed most top bytes count
ScansDigits signed most top bytes (Some (scanned.Padded sign start more)) = (sign ≡ signed) × (start ≡ 0) × IsPaddedNumber signed most bytes more

-- Bytes below 128: each is a number of one byte.
abbrev pub AreLow : List ℕ → Type 0
AreLow = AllByRecursion (λ b. b < 128)

-- ---- items

-- The bytes begin with a longer encoding, and its first bytes, the last without its high bit, are the minimal one.
pub record IsPadded {V : Type 0} (F : Format V) (bytes : List ℕ) (kept count : ℕ) : Type 0 where
  pub value : V
  pub read : F.at (place true bytes) ≡ Some (value, place false (drop count bytes))
  pub minimal : cut kept bytes ≡ F.bytes value

-- The item lies within this number of bytes.
abbrev pub IsWithin : Scanned → ℕ → Type 0
IsWithin (scanned.Minimal count) n = count ≤ n
IsWithin (scanned.Padded signed start more) n = (0 < more) × (start + more < n)

-- The scan describes the value that the bytes begin with.
abbrev pub Tells : {V : Type 0} → Format V → List ℕ → Scanned → Type 0
Tells {V} F bytes (scanned.Minimal count) = (v : V) × (F.at (place true bytes) ≡ Some (v, place true (drop count bytes)))
Tells F bytes (scanned.Padded signed start more) = (kept : ℕ) → KeepsDigits signed (drop start bytes) more kept → IsPadded F bytes (start + kept) (start + more + 1)

-- If the call scans an item, it describes the value that the bytes begin with.
abbrev pub Scans : {V : Type 0} → Format V → List ℕ → Option Scanned → Type 0
Scans F bytes None = Unit {0}
Scans F bytes (Some s) = IsWithin s (length bytes) × Tells F bytes s

-- The same item behind one more byte.
abbrev pub behind_byte : Scanned → Scanned
behind_byte (scanned.Minimal count) = scanned.Minimal (1 + count)
behind_byte (scanned.Padded signed start more) = scanned.Padded signed (1 + start) more

-- The call leaves the scanned item minimally encoded.
abbrev pub RewritesScanned : Scanned → Rewriting → Rewriting → Type 0
RewritesScanned (scanned.Minimal count) old new = new ≡ skipped count old
RewritesScanned (scanned.Padded signed start more) old new = (kept : ℕ) × (KeepsDigits signed (drop start old.place.left) more kept × (new ≡ shortened (start + kept) (start + more + 1) old))

-- ---- runs of items

-- These values are read one after another, each minimally encoded, and these bytes are left.
abbrev pub ReadsShort : {V : Type 0} → Format V → List V → List ℕ → List ℕ → Type 0
ReadsShort F [] bytes left = bytes ≡ left
ReadsShort F (v ∷ values) bytes left = (next : List ℕ) × ((F.at (place true bytes) ≡ Some (v, place true next)) × ReadsShort F values next left)

-- The bytes begin with minimally encoded items of `count` bytes in all.
pub record BeginsShort {V : Type 0} (F : Format V) (bytes : List ℕ) (count : ℕ) : Type 0 where
  pub values : List V
  pub within : count ≤ length bytes
  pub reads : ReadsShort F values bytes (drop count bytes)

-- The bytes begin with this number of minimally encoded items, `size` bytes in all.
pub record BeginsItems {V : Type 0} (F : Format V) (bytes : List ℕ) (items size : ℕ) : Type 0 where
  pub values : List V
  pub counted : length values ≡ items
  pub within : size ≤ length bytes
  pub reads : ReadsShort F values bytes (drop size bytes)

-- The call skips this number of minimally encoded items, at most `most`, which stay as they are.
pub record SkipsMinimal {V : Type 0} (F : Format V) (most : ℕ) (old new : Rewriting) (items : ℕ) : Type 0 where
  pub few : items ≤ most
  pub size : ℕ
  pub begins : BeginsItems F old.place.left items size
  pub kept : new ≡ skipped size old
