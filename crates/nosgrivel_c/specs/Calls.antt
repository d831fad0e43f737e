-- The promises of the calls, whatever they normalise or check.
use Rattle.std.specs.Prelude.{◌≡◌, ◌≢◌, ◌≤◌, ℕ, List, length, take}
use Rattle.wasm_codec.specs.formats.Grammar.{Grammar}
use Rattle.wasm_codec.specs.formats.Combinators.{Format}
use Rattle.wasm_codec.specs.Outcomes.{IsLongestPrefix, IsNormalForm, EncodesSome}
use Rattle.flat_refusals.specs.declared.statuses.TheConstants.{NORMAL, REFUSED, NOT_NORMAL, NO_MEMORY}
use Rattle.nosgrivel_c.specs.declared.delivery.TheConstants.{TOO_LONG}
use Rattle.nosgrivel_c.specs.Delivery.{BeginsWithNormal, IsOutputTooShort, IsShorter, IsDelivery, IsAnswer, IsJudgement, IsRewriting}

module _ {V : Type 0} (F : Format V) (IsPrefix : List ℕ → Type 0) where
  -- A call that writes the minimal encoding of the input to the output `old`, which becomes `new`.
  pub record WritesNormal (input old new : List ℕ) (before count result : ℕ) : Type 0 where
    -- The output begins with the minimal encoding of the input, and the count is its length.
    pub written : result ≡ NORMAL → BeginsWithNormal (IsNormalForm F.Encodes F.bytes input) old new count
    -- Only a malformed input is refused, and the count is the length of the longest prefix that decodes.
    pub refused : result ≡ REFUSED → IsLongestPrefix IsPrefix input count
    pub encodes_none : result ≡ REFUSED → EncodesSome F.Encodes input → ⊥
    -- The minimal encoding is longer than the output, and the count is its length.
    pub too_long : result ≡ TOO_LONG → IsOutputTooShort (IsNormalForm F.Encodes F.bytes input) old count
    -- The output is never too short if it is as long as the input.
    pub room : length input ≤ length old → result ≢ TOO_LONG
    -- Unless the status is `NORMAL`, the output is unchanged.
    pub unchanged : result ≢ NORMAL → new ≡ old
    -- If memory ran out, the count is unchanged.
    pub no_memory : result ≡ NO_MEMORY → count ≡ before
    -- No other status is returned.
    pub status : IsDelivery result

  -- A call that writes the minimal encoding of the bytes `old` over them, which makes them `new`.
  pub record WritesInPlace (old new : List ℕ) (before count result : ℕ) : Type 0 where
    -- The bytes begin with their minimal encoding, and the count is its length.
    pub written : result ≡ NORMAL → BeginsWithNormal (IsNormalForm F.Encodes F.bytes old) old new count
    -- Only a malformed input is refused, and the count is the length of the longest prefix that decodes.
    pub refused : result ≡ REFUSED → IsLongestPrefix IsPrefix old count
    pub encodes_none : result ≡ REFUSED → EncodesSome F.Encodes old → ⊥
    -- Unless the status is `NORMAL`, the bytes are unchanged.
    pub unchanged : result ≢ NORMAL → new ≡ old
    -- If memory ran out, the count is unchanged.
    pub no_memory : result ≡ NO_MEMORY → count ≡ before
    -- No other status is returned: the minimal encoding fits.
    pub status : IsAnswer result

  -- A call that replaces the bytes `old`, which it makes `new`, by their minimal encoding, without memory of its own.
  pub record RewritesNormal (old new : List ℕ) (count result : ℕ) : Type 0 where
    -- The bytes begin with their minimal encoding, and the count is its length.
    pub within : result ≡ NORMAL → count ≤ length new
    pub written : result ≡ NORMAL → IsNormalForm F.Encodes F.bytes old (take count new)
    -- Only a malformed input is refused, and the count is the length of the longest prefix that decodes.
    pub refused : result ≡ REFUSED → IsLongestPrefix IsPrefix old count
    pub encodes_none : result ≡ REFUSED → EncodesSome F.Encodes old → ⊥
    -- No other status is returned.
    pub status : IsRewriting result

  -- A call that returns whether the input is its own minimal encoding, and the length of that encoding.
  pub record JudgesNormal (input : List ℕ) (before count result : ℕ) : Type 0 where
    -- The input is its own minimal encoding, and the count is its length.
    pub normal : result ≡ NORMAL → IsNormalForm F.Encodes F.bytes input input
    pub len : result ≡ NORMAL → count ≡ length input
    -- The minimal encoding is shorter than the input, and the count is its length.
    pub shorter : result ≡ NOT_NORMAL → IsShorter (IsNormalForm F.Encodes F.bytes input) input count
    -- Only a malformed input is refused, and the count is the length of the longest prefix that decodes.
    pub refused : result ≡ REFUSED → IsLongestPrefix IsPrefix input count
    pub encodes_none : result ≡ REFUSED → EncodesSome F.Encodes input → ⊥
    -- If memory ran out, the count is unchanged.
    pub no_memory : result ≡ NO_MEMORY → count ≡ before
    -- No other status is returned.
    pub status : IsJudgement result

-- A call that checks whether the input is a minimal encoding, which `Minimal` says.
pub record ChecksNormal {V : Type 0} (Minimal : Grammar V) (IsPrefix : List ℕ → Type 0) (input : List ℕ) (before count result : ℕ) : Type 0 where
  -- The input is a minimal encoding, and the count is its length.
  pub normal : result ≡ NORMAL → EncodesSome Minimal input
  pub len : result ≡ NORMAL → count ≡ length input
  -- Any other input is refused, and the count is the length of the longest prefix that is minimally encoded.
  pub refused : result ≡ REFUSED → IsLongestPrefix IsPrefix input count
  pub encodes_none : result ≡ REFUSED → EncodesSome Minimal input → ⊥
  -- If memory ran out, the count is unchanged.
  pub no_memory : result ≡ NO_MEMORY → count ≡ before
  -- No other status is returned.
  pub status : IsAnswer result
