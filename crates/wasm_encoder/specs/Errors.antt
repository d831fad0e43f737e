-- The error of all calls.
use Rattle.std.specs.Prelude.{ℕ, Option, Some, None}
use Rattle.wasm_codec.specs.declared.reader.DecodeError.TheVariants as decode_errors
use Rattle.wasm_codec.specs.declared.reader.ReadError.TheVariants as read_errors
use Rattle.wasm_encoder.specs.declared.error.Error.{Error}
use Rattle.wasm_encoder.specs.declared.error.Error.TheVariants as errors

-- The offset of the first part that a reader refuses, if the error is such a refusal.
abbrev pub at_of : Error → Option ℕ
at_of (errors.Read (read_errors.Refused at)) = Some at
at_of (errors.Decode (decode_errors.Malformed refusal)) = Some refusal.at
at_of e = None
