-- The results of `strip`.
use Rattle.std.specs.Prelude.{ℕ, Result, Ok, Err}
use Rattle.wasm_codec.specs.declared.reader.ReadError.TheVariants as reads
use Rattle.example_strip.specs.declared.strip.StripError.{StripError}
use Rattle.example_strip.specs.declared.strip.StripError.TheVariants as errors

-- If the module is refused, the property holds of the offset.
abbrev pub IfRefused : {T : Type 0} → Result T StripError → (ℕ → Type 0) → Type 0
IfRefused (Ok x) P = Unit {0}
IfRefused (Err (errors.Read reads.Memory)) P = Unit {0}
IfRefused (Err (errors.Read (reads.Refused at))) P = P at
IfRefused (Err (errors.Write e)) P = Unit {0}
