-- Bodies: bytes that are one encoding to their end, after their size or after a fixed header.
use Rattle.std.specs.Prelude.{◌≡◌, ℕ, zero, suc, ◌^◌, ◌<◌, Bool, true, false, List, [], ◌∷◌, ◌++◌, length, take, drop, Option, Some, None, nat_lt, if◌then◌else◌}
use Rattle.std.specs.List.{AllByRecursion}
use Rattle.wasm_codec.specs.formats.Grammar.{Grammar, IsBytes, After}
use Rattle.wasm_codec.specs.Reading.{◌>>=◌}
use Rattle.wasm_codec.specs.formats.Numbers.{EncodesU32}
use Rattle.wasm_codec.specs.Leb128.{unsigned_leb128}
use Rattle.wasm_codec.specs.Places.{Place, place, Reader, u32_at}
use Rattle.wasm_codec.specs.formats.Combinators.{Format, any_byte, just, after_at, AllOf, all_bytes}

-- No bytes are left.
abbrev pub at_end : List ℕ → Bool
at_end [] = true
at_end (b ∷ bytes) = false

-- ---- formats that go on to the end of the bytes

-- Any bytes, to the end.
abbrev pub bytes_to_end : Format (List ℕ)
bytes_to_end = record {
  Encodes = λ bytes v. (bytes ≡ v) × IsBytes v;
  at = λ p. Some (p.left, place p.minimal []);
  bytes = λ v. v;
  InRange = IsBytes;
  first = λ b. true;
}

-- Reads items as long as bytes are left, at most `n` of them.
unfoldable pub until_end : {A : Type 0} → Reader A → ℕ → Reader (List A)
until_end read zero p = if at_end p.left then Some ([], p) else None
until_end read (suc n) p = if at_end p.left then Some ([], p) else (do
  v ← read p
  vs ← until_end read n v.1
  Some (v.0 ∷ vs.0, vs.1))

-- Encodings to the end, with nothing between.
abbrev pub to_end : {A : Type 0} → Format A → Format (List A)
to_end F = record {
  Encodes = AllOf F;
  at = λ p. until_end F.at (length p.left) p;
  bytes = all_bytes F;
  InRange = AllByRecursion F.InRange;
  first = λ b. true;
}

-- ---- a size, then as many bytes, which are one encoding

-- A size, then as many bytes, which are one encoding.
abbrev pub Sized : {A : Type 0} → Grammar A → Grammar A
Sized G bytes v = (size : List ℕ) × (body : List ℕ) × (bytes ≡ size ++ body) × EncodesU32 size (length body) × G body v

-- Reads a size, then as many bytes.
abbrev pub body_at : Reader (List ℕ)
body_at p = do
  size ← u32_at p
  if nat_lt (length size.1.left) size.0 then None else Some (take size.0 size.1.left, place size.1.minimal (drop size.0 size.1.left))

-- The value that was read, if no bytes are left over.
abbrev pub if_all : {A : Type 0} → Option (A × Place) → Option (A × Place)
if_all None = None
if_all (Some x) = if at_end x.1.left then Some x else None

-- Reads a size, then a value that takes as many bytes.
abbrev pub sized_at : {A : Type 0} → Reader A → Reader A
sized_at read p = do
  body ← body_at p
  v ← if_all (read (place body.1.minimal body.0))
  Some (v.0, place v.1.minimal body.1.left)

-- A size, then as many bytes, which are one encoding.
abbrev pub sized : {A : Type 0} → Format A → Format A
sized F = record {
  Encodes = Sized F.Encodes;
  at = sized_at F.at;
  bytes = λ v. unsigned_leb128 (length (F.bytes v)) ++ F.bytes v;
  InRange = λ v. F.InRange v × (length (F.bytes v) < 2 ^ 32);
  first = any_byte;
}

-- The number of bytes, then the bytes.
abbrev pub byte_list : Format (List ℕ)
byte_list = sized bytes_to_end

-- ---- these bytes, then the rest

-- Reads these bytes, then the rest.
abbrev pub headed_at : {A : Type 0} → List ℕ → Reader A → Reader A
headed_at [] read p = read p
headed_at (n ∷ head) read p = after_at n (headed_at head read) p

-- The first byte of a header, or of the rest if the header is empty.
abbrev pub headed_first : List ℕ → (Option ℕ → Bool) → Option ℕ → Bool
headed_first [] first b = first b
headed_first (n ∷ head) first b = just n b

-- These bytes, then the rest.
abbrev pub headed : {A : Type 0} → List ℕ → Format A → Format A
headed head F = record {
  Encodes = After head F.Encodes;
  at = headed_at head F.at;
  bytes = λ v. head ++ F.bytes v;
  InRange = F.InRange;
  first = headed_first head F.first;
}
