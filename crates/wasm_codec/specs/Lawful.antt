-- The laws that are proved of every format of the library.
use Rattle.std.specs.Prelude.{◌≡◌, ℕ, Bool, true, List, [], ◌∷◌, ◌++◌, Option, Some, None}
use Rattle.wasm_codec.specs.formats.Grammar.{Grammar, IsBytes}
use Rattle.wasm_codec.specs.Encoding.{IsMinimalOrLonger}
use Rattle.wasm_codec.specs.Reading.{◌>>=◌, BeginsWith, PlainReader}
use Rattle.wasm_codec.specs.Places.{Place, place, Reader, keeps}
use Rattle.wasm_codec.specs.formats.Combinators.{Format}

-- For each value that fits or has an encoding, the written bytes encode it, and every other encoding is longer.
pub record WritesMinimally {V : Type 0} (G : Grammar V) (Fits : V → Type 0) (encoding : V → List ℕ) : Type 0 where
  pub encodes : (v : V) → Fits v → G (encoding v) v
  pub again : (bytes : List ℕ) (v : V) → G bytes v → G (encoding v) v
  pub least : (bytes : List ℕ) (v : V) → G bytes v → IsMinimalOrLonger bytes (encoding v)

-- The first byte, if there is one.
abbrev pub head_of : List ℕ → Option ℕ
head_of [] = None
head_of (b ∷ bytes) = Some b

-- The reading function finds exactly the values that bytes encode, and tells whether each encoding was minimal.
pub record ReadsPlaces {V : Type 0} (G : Grammar V) (bytes : V → List ℕ) (read : Reader V) : Type 0 where
  pub sound : (p : Place) (v : V) (q : Place) → IsBytes p.left → read p ≡ Some (v, q) → BeginsWith G p.left v q.left
  pub complete : (prefix : List ℕ) (v : V) (rest : List ℕ) (s : Bool) → G prefix v → read (place s (prefix ++ rest)) ≡ Some (v, place (keeps s prefix (bytes v)) rest)

-- A lawful format: its reading function, minimal encoding, range and first byte agree with what the bytes encode.
pub record IsLawful {V : Type 0} (F : Format V) : Type 0 where
  -- it reads what the bytes encode, and the place tells whether their encoding was minimal
  pub reads : ReadsPlaces F.Encodes F.bytes F.at
  -- the written bytes encode the value, and every other encoding is longer
  pub minimal : WritesMinimally F.Encodes F.InRange F.bytes
  -- a value that has an encoding is in range
  pub in_range : (bytes : List ℕ) (v : V) → F.Encodes bytes v → F.InRange v
  -- encodings consist of bytes
  pub are_bytes : (bytes : List ℕ) (v : V) → F.Encodes bytes v → IsBytes bytes
  -- and begin with a byte that `first` allows
  pub begins : (bytes : List ℕ) (v : V) → F.Encodes bytes v → F.first (head_of bytes) ≡ true

-- The reading function on bytes alone, without a place.
abbrev pub plain : {V : Type 0} → Reader V → PlainReader V
plain read bytes = read (place true bytes) >>= λ x. Some (x.0, x.1.left)

-- No encoding is a proper prefix of another.
abbrev pub IsPrefixFree : {V : Type 0} → Grammar V → Type 0
IsPrefixFree {V} G = (a b rest : List ℕ) (v w : V) → G a v → G b w → a ≡ b ++ rest → rest ≡ []

-- ---- formats that go on to the end of the bytes

-- The reading function finds exactly the values that all of the bytes encode, and tells whether they were minimal.
pub record ReadsToEnd {V : Type 0} (G : Grammar V) (bytes : V → List ℕ) (read : Reader V) : Type 0 where
  pub sound : (p : Place) (v : V) (q : Place) → IsBytes p.left → read p ≡ Some (v, q) → q.left ≡ [] → G p.left v
  pub complete : (body : List ℕ) (v : V) (s : Bool) → G body v → read (place s body) ≡ Some (v, place (keeps s body (bytes v)) [])

-- The law of a format whose encodings go to the end of the bytes.
pub record IsLawfulBody {V : Type 0} (F : Format V) : Type 0 where
  pub reads : ReadsToEnd F.Encodes F.bytes F.at
  pub minimal : WritesMinimally F.Encodes F.InRange F.bytes
  pub in_range : (bytes : List ℕ) (v : V) → F.Encodes bytes v → F.InRange v
  pub are_bytes : (bytes : List ℕ) (v : V) → F.Encodes bytes v → IsBytes bytes
