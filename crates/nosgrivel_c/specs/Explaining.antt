-- The report of a C call on a module that it refuses.
use Rattle.std.specs.Prelude.{◌≡◌, ℕ, Bool, List, length}
use Rattle.wasm_codec.specs.declared.reader.DecodeError.TheVariants as decode_errors
use Rattle.wasm_codec.specs.declared.reader.refusal.Refusal.{Refusal}
use Rattle.wasm_codec.specs.Outcomes.{LiesIn, place_alone}
use Rattle.wasm_code.specs.Reasons.{IsTrueOf}
use Rattle.flat_refusals.specs.FlatRefusals.{flat_refusal}
use Rattle.flat_refusals.specs.declared.refusal.FlatRefusal.{FlatRefusal}

-- The numbers are those of a refusal of this input whose reason is true, whose offset lies in the input, and whose
-- place counts what `Counts` says.
pub record Explains (strict : Bool) (Counts : Refusal → Type 0) (input : List ℕ) (told : FlatRefusal) : Type 0 where
  pub refusal : Refusal
  pub numbers : told ≡ flat_refusal refusal
  pub place : LiesIn (length input) (decode_errors.Malformed refusal)
  pub counts : Counts (place_alone refusal)
  pub why : IsTrueOf strict input (decode_errors.Malformed refusal)
