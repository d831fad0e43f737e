-- The prefixes at which calls that decode all of their bytes refuse.
use Rattle.std.specs.Prelude.{◌≡◌, ◌⊎◌, ℕ, List, []}
use Rattle.wasm_codec.specs.Outcomes.{EncodesSome}
use Rattle.wasm_codec.specs.formats.Combinators.{Format}
use Rattle.wasm_codec.specs.formats.Grammar.{Grammar}

-- Nothing at all is such a prefix, and so is each encoding of a value.
pub record ArePrefixes {V : Type 0} (G : Grammar V) (IsPrefix : List ℕ → Type 0) : Type 0 where
  pub empty : IsPrefix []
  pub whole : (bytes : List ℕ) (value : V) → G bytes value → IsPrefix bytes

-- The prefix is empty, or it encodes a value.
abbrev pub IsNothingOr : {V : Type 0} → Format V → List ℕ → Type 0
IsNothingOr F prefix = (prefix ≡ []) ⊎ EncodesSome F.Encodes prefix
