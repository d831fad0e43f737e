-- A normaliser of a copy tells whether the input decodes.
use Rattle.std.proofs.Common.{◌≡◌, ℕ, List, Result, Ok, Err, subst}
use Rattle.std.specs.Global.{Vec}
use Rattle.wasm_codec.specs.declared.reader.DecodeError.{DecodeError}
use Rattle.wasm_codec.specs.formats.Grammar.{Grammar}
use Rattle.wasm_codec.specs.formats.Combinators.{Format}
use Rattle.wasm_codec.specs.Outcomes.{as_read, read_error_of}
use Rattle.wasm_codec.specs.Decoding.{ChecksAll, Normalises}

module _ {V : Type 0} (F : Format V) (Minimal : Grammar V) (IsPrefix : List ℕ → Type 0) (input : List ℕ) where
  pub decodes : (result : Result (Vec ℕ) DecodeError) (encoding : Vec ℕ) → result ≡ Ok encoding → Normalises F Minimal IsPrefix input (as_read result) → ChecksAll F.Encodes IsPrefix input (Ok tt)
  decodes result encoding is n =
      let m = subst (λ (r : Result (Vec ℕ) DecodeError). Normalises F Minimal IsPrefix input (as_read r)) is n in
      record { given = (m.given.value, m.given.encoded); prefix = tt; unencoded = tt }

  pub fails : (result : Result (Vec ℕ) DecodeError) (error : DecodeError) → result ≡ Err error → Normalises F Minimal IsPrefix input (as_read result) → ChecksAll F.Encodes IsPrefix input (Err (read_error_of error))
  fails result error is n =
      let m = subst (λ (r : Result (Vec ℕ) DecodeError). Normalises F Minimal IsPrefix input (as_read r)) is n in
      record { given = tt; prefix = m.prefix; unencoded = m.unencoded }
