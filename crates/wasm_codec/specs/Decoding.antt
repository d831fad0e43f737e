-- Calls that decode all of the bytes that they are given.
use Rattle.std.specs.Prelude.{◌≡◌, ◌↔◌, ◌≤◌, ℕ, List, length, take, Result, IfOk}
use Rattle.std.specs.Global.{Vec}
use Rattle.wasm_codec.specs.declared.reader.ReadError.{ReadError}
use Rattle.wasm_codec.specs.formats.Grammar.{Grammar}
use Rattle.wasm_codec.specs.formats.Combinators.{Format}
use Rattle.wasm_codec.specs.Encoding.{IsMinimalOrLonger}
use Rattle.wasm_codec.specs.Outcomes.{IsOrMemory, NeedsNoMemory, IfRefused, IsLongestPrefix, IsNormalForm, EncodesSome}

-- This grammar takes exactly the minimal encodings of a format.
abbrev pub TakesMinimal : {V : Type 0} → Format V → Grammar V → Type 0
TakesMinimal {V} F Minimal = (bytes : List ℕ) (value : V) → Minimal bytes value ↔ (F.Encodes bytes value × (bytes ≡ F.bytes value))

-- ---- what an implementation of a call owes

-- The result of a call that reads a value from all of the bytes.
pub record ReadsAll {X V : Type 0} (view : X → V) (G : Grammar V) (IsPrefix : List ℕ → Type 0) (bytes : List ℕ) (result : Result X ReadError) : Type 0 where
  -- The bytes encode the value that it returns.
  pub given : IfOk result (λ x. G bytes (view x))
  -- It refuses at the length of the longest prefix that decodes.
  pub prefix : IfRefused result (IsLongestPrefix IsPrefix bytes)
  -- It refuses only bytes that encode no value.
  pub unencoded : IfRefused result (λ _. (value : V) → G bytes value → ⊥)

-- The result of a call that checks whether all of the bytes are in a minimal encoding.
pub record ChecksAll {V : Type 0} (Minimal : Grammar V) (IsPrefix : List ℕ → Type 0) (bytes : List ℕ) (result : Result (Unit {0}) ReadError) : Type 0 where
  -- It accepts only bytes that are the minimal encoding of a value.
  pub given : IfOk result (λ _. EncodesSome Minimal bytes)
  -- It refuses at the length of the longest prefix that is minimally encoded.
  pub prefix : IfRefused result (IsLongestPrefix IsPrefix bytes)
  -- It refuses only bytes that are no minimal encoding.
  pub unencoded : IfRefused result (λ _. (value : V) → Minimal bytes value → ⊥)

-- The result of a call that rewrites all of the bytes to their minimal encoding. `encoding` gets it from the result.
pub record RewritesTo {X V : Type 0} (F : Format V) (IsPrefix : List ℕ → Type 0) (bytes : List ℕ) (encoding : X → List ℕ) (result : Result X ReadError) : Type 0 where
  -- It returns the minimal encoding of a value that the bytes encode.
  pub given : IfOk result (λ x. IsNormalForm F.Encodes F.bytes bytes (encoding x))
  -- It refuses at the length of the longest prefix that decodes.
  pub prefix : IfRefused result (IsLongestPrefix IsPrefix bytes)
  -- It refuses only bytes that encode no value.
  pub unencoded : IfRefused result (λ _. (value : V) → F.Encodes bytes value → ⊥)

-- The same of a call that returns the minimal encoding.
abbrev pub RewritesAll : {V : Type 0} → Format V → (List ℕ → Type 0) → List ℕ → Result (Vec ℕ) ReadError → Type 0
RewritesAll F IsPrefix bytes result = RewritesTo F IsPrefix bytes (λ given. given.items) result

-- The same of a call that leaves the minimal encoding at the start of the slice, and returns its length.
abbrev pub RewritesInPlace : {V : Type 0} → Format V → (List ℕ → Type 0) → List ℕ → List ℕ → Result ℕ ReadError → Type 0
RewritesInPlace F IsPrefix old new result = RewritesTo F IsPrefix old (λ len. take len new) result

-- ---- what a caller gets

-- What a call promises that reads a value from all of the bytes, in any encoding.
pub record Decodes {X V : Type 0} (view : X → V) (F : Format V) (IsPrefix : List ℕ → Type 0) (bytes : List ℕ) (result : Result X ReadError) : Type 0 where
  -- The bytes encode the value that it returns.
  pub given : IfOk result (λ x. F.Encodes bytes (view x))
  -- If the bytes encode a value, it returns this value, or memory ran out.
  pub complete : (value : V) → F.Encodes bytes value → IsOrMemory view value result
  -- It refuses at the length of the longest prefix that decodes.
  pub prefix : IfRefused result (IsLongestPrefix IsPrefix bytes)
  -- It refuses only bytes that encode no value.
  pub unencoded : IfRefused result (λ _. (value : V) → F.Encodes bytes value → ⊥)
  -- The bytes encode at most one value.
  pub one : (value other : V) → F.Encodes bytes value → F.Encodes bytes other → value ≡ other
  -- Every other encoding of the value is longer than its minimal encoding.
  pub minimal : (value : V) → F.Encodes bytes value → IsMinimalOrLonger bytes (F.bytes value)

-- What a strict reader promises, which reads a value from all of the bytes if they are its minimal encoding.
pub record DecodesMinimal {X V : Type 0} (view : X → V) (F : Format V) (Minimal : Grammar V) (IsPrefix : List ℕ → Type 0) (bytes : List ℕ) (result : Result X ReadError) : Type 0 where
  -- The bytes are the minimal encoding of the value that it returns.
  pub given : IfOk result (λ x. Minimal bytes (view x))
  -- If the bytes are the minimal encoding of a value, it returns this value, or memory ran out.
  pub complete : (value : V) → Minimal bytes value → IsOrMemory view value result
  -- It refuses at the length of the longest prefix that is minimally encoded.
  pub prefix : IfRefused result (IsLongestPrefix IsPrefix bytes)
  -- It refuses only bytes that are no minimal encoding.
  pub unencoded : IfRefused result (λ _. (value : V) → Minimal bytes value → ⊥)
  -- The bytes are the minimal encoding of at most one value.
  pub one : (value other : V) → Minimal bytes value → Minimal bytes other → value ≡ other
  -- They are the minimal encoding of a value if and only if they encode it and are as it is written.
  pub minimal : (value : V) → Minimal bytes value ↔ (F.Encodes bytes value × (bytes ≡ F.bytes value))

-- What a check promises: it accepts what the strict reader reads, and refuses the rest at the same offset.
pub record Checks {V : Type 0} (F : Format V) (Minimal : Grammar V) (IsPrefix : List ℕ → Type 0) (bytes : List ℕ) (result : Result (Unit {0}) ReadError) : Type 0 where
  -- It accepts only bytes that are the minimal encoding of a value.
  pub given : IfOk result (λ _. EncodesSome Minimal bytes)
  -- It refuses at the length of the longest prefix that is minimally encoded.
  pub prefix : IfRefused result (IsLongestPrefix IsPrefix bytes)
  -- It refuses only bytes that are no minimal encoding.
  pub unencoded : IfRefused result (λ _. (value : V) → Minimal bytes value → ⊥)
  -- Bytes are the minimal encoding of a value if and only if they encode it and are as it is written.
  pub minimal : (value : V) → Minimal bytes value ↔ (F.Encodes bytes value × (bytes ≡ F.bytes value))

-- What a call promises that rewrites bytes to their minimal encoding. `encoding` gets it from the result.
pub record NormalisesTo {X V : Type 0} (F : Format V) (IsPrefix : List ℕ → Type 0) (bytes : List ℕ) (encoding : X → List ℕ) (result : Result X ReadError) : Type 0 where
  -- It returns the minimal encoding of a value that the bytes encode.
  pub given : IfOk result (λ x. IsNormalForm F.Encodes F.bytes bytes (encoding x))
  -- If the bytes encode a value, it returns the minimal encoding of this value.
  pub complete : (value : V) → F.Encodes bytes value → IsOrMemory encoding (F.bytes value) result
  -- It refuses at the length of the longest prefix that decodes.
  pub prefix : IfRefused result (IsLongestPrefix IsPrefix bytes)
  -- It refuses only bytes that encode no value.
  pub unencoded : IfRefused result (λ _. (value : V) → F.Encodes bytes value → ⊥)
  -- It needs no memory.
  pub memory : NeedsNoMemory result

-- The same of a call that returns the minimal encoding, in the memory of the bytes.
abbrev pub NormalisesInPlace : {V : Type 0} → Format V → (List ℕ → Type 0) → List ℕ → Result (Vec ℕ) ReadError → Type 0
NormalisesInPlace F IsPrefix bytes result = NormalisesTo F IsPrefix bytes (λ encoding. encoding.items) result

-- The same of a call that leaves the minimal encoding at the start of the slice, and returns its length.
pub record NormalisesSlice {V : Type 0} (F : Format V) (IsPrefix : List ℕ → Type 0) (old new : List ℕ) (result : Result ℕ ReadError) : Type 0 where
  pub within : IfOk result (λ len. len ≤ length new)
  pub normalises : NormalisesTo F IsPrefix old (λ len. take len new) result

-- What a normaliser promises, which writes the minimal encoding of what the bytes encode.
pub record Normalises {V : Type 0} (F : Format V) (Minimal : Grammar V) (IsPrefix : List ℕ → Type 0) (bytes : List ℕ) (result : Result (Vec ℕ) ReadError) : Type 0 where
  -- It returns the minimal encoding of a value that the bytes encode.
  pub given : IfOk result (λ encoding. IsNormalForm F.Encodes F.bytes bytes encoding.items)
  -- If the bytes encode a value, it returns the minimal encoding of this value, or memory ran out.
  pub complete : (value : V) → F.Encodes bytes value → IsOrMemory (λ encoding. encoding.items) (F.bytes value) result
  -- It refuses at the length of the longest prefix that decodes.
  pub prefix : IfRefused result (IsLongestPrefix IsPrefix bytes)
  -- It refuses only bytes that encode no value.
  pub unencoded : IfRefused result (λ _. (value : V) → F.Encodes bytes value → ⊥)
  -- The bytes encode at most one value.
  pub one : (value other : V) → F.Encodes bytes value → F.Encodes bytes other → value ≡ other
  -- The result encodes a value if and only if the bytes do.
  pub same : IfOk result (λ encoding. (value : V) → F.Encodes encoding.items value ↔ F.Encodes bytes value)
  -- The result is the minimal encoding of what it encodes.
  pub normal : IfOk result (λ encoding. (value : V) → F.Encodes encoding.items value → encoding.items ≡ F.bytes value)
  -- Every other encoding of the value is longer than its minimal encoding.
  pub minimal : (value : V) → F.Encodes bytes value → IsMinimalOrLonger bytes (F.bytes value)
  -- The result is no longer than the bytes.
  pub no_longer : IfOk result (λ encoding. length encoding.items ≤ length bytes)
  -- A minimal encoding stays as it is, unless memory ran out.
  pub stays : (value : V) → Minimal bytes value → IsOrMemory (λ encoding. encoding.items) bytes result
  -- Bytes that stay as they are were a minimal encoding.
  pub was_minimal : IfOk result (λ encoding. encoding.items ≡ bytes → EncodesSome Minimal bytes)
