-- Bodies that are a single value, with nothing left over.
use Rattle.std.specs.Prelude.{◌≡◌, ◌-◌, ◌<◌, ◌≤◌, ℕ, List, true, length, Some, None}
use Rattle.wasm_codec.specs.Outcomes.{IsLongestPrefix}
use Rattle.wasm_codec.specs.formats.Grammar.{IsBytes}
use Rattle.wasm_codec.specs.Places.{Place, place}
use Rattle.wasm_codec.specs.formats.Combinators.{Format}
use Rattle.wasm_code.specs.DecodedPrefixes.{IsNothingOr}

-- The bytes encode no value, and their longest prefix that is empty or encodes a value has this length.
pub record IsRefusedAt {V : Type 0} (F : Format V) (bytes : List ℕ) (at : ℕ) : Type 0 where
  pub prefix : IsLongestPrefix (IsNothingOr F) bytes at
  pub unencoded : (v : V) → F.Encodes bytes v → ⊥

-- If the bytes encode no value, reading them yields the length of their longest prefix that is empty or a value.
pub record AreLawfulPrefixes {V : Type 0} (F : Format V) : Type 0 where
  pub none : (bytes : List ℕ) → F.at (place true bytes) ≡ None → IsLongestPrefix (IsNothingOr F) bytes 0
  pub more : (bytes : List ℕ) (v : V) (q : Place) → IsBytes bytes → F.at (place true bytes) ≡ Some (v, q) → 0 < length q.left → IsLongestPrefix (IsNothingOr F) bytes (length bytes - length q.left)
  pub within : (bytes : List ℕ) (v : V) (q : Place) → IsBytes bytes → F.at (place true bytes) ≡ Some (v, q) → length q.left ≤ length bytes
