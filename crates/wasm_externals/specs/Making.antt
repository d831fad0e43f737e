-- Calls that allocate.
use Rattle.std.specs.Prelude.{◌≡◌, Result, IfOk, IfErr}
use Rattle.wasm_codec.specs.declared.encode.EncodeError.{EncodeError}
use Rattle.wasm_codec.specs.declared.encode.EncodeError.TheVariants.{Memory}

-- A call that makes this value.
pub record Makes {X : Type 0} (value : X) (result : Result X EncodeError) : Type 0 where
  -- It returns the value.
  pub made : IfOk result (λ x. x ≡ value)
  -- It fails only with `Memory`.
  pub memory : IfErr result (λ e. e ≡ Memory)
