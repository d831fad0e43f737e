-- Bodies that encode no value, at their offset in an input.
use Rattle.std.proofs.Common.{◌≡◌, ℕ, ◌+◌, ◌-◌, Bool, List, Result, Err, sym, subst, arith}
use Rattle.wasm_codec.specs.Decoding.{ReadsAll}
use Rattle.wasm_codec.specs.Outcomes.{HoldsAtRefusal, IsLongestPrefix, as_read, read_error_of}
use Rattle.wasm_codec.specs.declared.reader.DecodeError.{DecodeError}
use Rattle.wasm_codec.specs.declared.reader.DecodeError.TheVariants as decode_errors
use Rattle.wasm_codec.specs.declared.reader.ReadError.{ReadError}
use Rattle.wasm_codec.specs.formats.Combinators.{Format, minimal_if}
use Rattle.wasm_lists.specs.ItemReading.{shifted}
use Rattle.wasm_code.specs.DecodedPrefixes.{IsNothingOr}
use Rattle.wasm_sections.specs.SectionContents.{EncodesNoValue}

-- a body that was refused encodes no value
pub no_value : {X V : Type 0} (view : X → V) (strict : Bool) (F : Format V) (start : ℕ) (body : List ℕ) (r : Result X DecodeError) (e told : DecodeError) → r ≡ Err e → ReadsAll view (minimal_if strict F).Encodes (IsNothingOr (minimal_if strict F)) body (as_read r) → read_error_of told ≡ shifted start (read_error_of e) → HoldsAtRefusal (read_error_of told) (EncodesNoValue strict F start body)
no_value {X} {V} view strict F start body r e told failed reads is =
    subst (λ (error : ReadError). HoldsAtRefusal error (EncodesNoValue strict F start body)) (sym is) (by e (subst (λ (x : Result X DecodeError). ReadsAll view (minimal_if strict F).Encodes (IsNothingOr (minimal_if strict F)) body (as_read x)) failed reads))
  where
    by : (e : DecodeError) → ReadsAll view (minimal_if strict F).Encodes (IsNothingOr (minimal_if strict F)) body (Err (read_error_of e)) → HoldsAtRefusal (shifted start (read_error_of e)) (EncodesNoValue strict F start body)
    by decode_errors.Memory all = tt
    by (decode_errors.Malformed refusal) all =
        let same : refusal.at ≡ (refusal.at + start) - start = omega arith in
        record { behind = omega arith; longest = subst (IsLongestPrefix (IsNothingOr (minimal_if strict F)) body) same all.prefix; none = all.unencoded }
