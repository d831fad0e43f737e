-- What a function that appends an encoding promises.
use Rattle.std.specs.Prelude.{ℕ, ◌≡◌, ◌++◌, ◌⊎◌, List, length, take, Result, OnOk, IfErr}
use Rattle.wasm_codec.specs.declared.encode.EncodeError.{EncodeError}
use Rattle.wasm_codec.specs.declared.encode.EncodeError.TheVariants.{Memory, TooLong}
use Rattle.wasm_codec.specs.Encoding.{IsMinimal}
use Rattle.wasm_codec.specs.formats.Combinators.{Format}

-- A call that appends these bytes.
pub record Appends (bytes : List ℕ) (Can Written : Type 0) (old new : List ℕ) (result : Result (Unit {0}) EncodeError) : Type 0 where
  -- It appends all of the bytes.
  pub ok : OnOk result (new ≡ old ++ bytes)
  -- It succeeds only if the value has an encoding.
  pub can : OnOk result Can
  -- This holds for every value that was written.
  pub written : OnOk result Written
  -- It fails with `Memory`, or with `TooLong` if the value has no encoding.
  pub refused : IfErr result (λ e. (e ≡ Memory) ⊎ ((Can → ⊥) × (e ≡ TooLong)))
  -- The bytes before stay, also on error.
  pub kept : take (length old) new ≡ old

-- A call that appends the minimal encoding of the value.
abbrev pub AppendsMinimal : {V : Type 0} → Format V → V → Type 0 → List ℕ → List ℕ → Result (Unit {0}) EncodeError → Type 0
AppendsMinimal F v Can = Appends (F.bytes v) Can (IsMinimal F.Encodes F.bytes v)

-- A call that appends the encoding of the value, which is minimal if every block in it is closed.
abbrev pub AppendsIfClosed : {V : Type 0} → Format V → V → Type 0 → Type 0 → List ℕ → List ℕ → Result (Unit {0}) EncodeError → Type 0
AppendsIfClosed F v Can Closed = Appends (F.bytes v) Can (Closed → IsMinimal F.Encodes F.bytes v)
