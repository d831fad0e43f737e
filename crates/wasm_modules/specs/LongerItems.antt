-- Lists, and the number of their items that aren't minimally encoded.
use Rattle.std.specs.Prelude.{◌≡◌, ◌+◌, ◌<◌, ℕ, List, [], ◌∷◌, ◌++◌, length}
use Rattle.wasm_codec.specs.formats.Numbers.{EncodesU32}
use Rattle.wasm_codec.specs.formats.Combinators.{Format}

-- These are encodings of the items, and this number of them aren't minimal.
pub data HasLonger {V : Type 0} (F : Format V) : List ℕ → List V → ℕ → Type 0 where
  nothing : HasLonger F [] [] 0
  minimal : {bytes : List ℕ} {items : List V} {longer : ℕ} (item : V) → HasLonger F bytes items longer → F.Encodes (F.bytes item) item → HasLonger F (bytes ++ F.bytes item) (items ++ item ∷ []) longer
  more : {bytes : List ℕ} {items : List V} {longer : ℕ} (item : V) (encoding : List ℕ) → HasLonger F bytes items longer → F.Encodes encoding item → length (F.bytes item) < length encoding → HasLonger F (bytes ++ encoding) (items ++ item ∷ []) (longer + 1)

-- The body is a list of this many items, and this number of them aren't minimally encoded.
pub record CountsLonger {V : Type 0} (F : Format V) (body : List ℕ) (count longer : ℕ) : Type 0 where
  pub head : List ℕ
  pub back : List ℕ
  pub items : List V
  pub parts : body ≡ head ++ back
  pub counted : EncodesU32 head count
  pub all : length items ≡ count
  pub longer_items : HasLonger F back items longer
