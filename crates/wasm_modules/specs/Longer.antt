-- Modules that are rewritten and checked.
use Rattle.std.specs.Prelude.{ℕ, Result, Ok, Err}
use Rattle.std.specs.Global.{Vec}
use Rattle.wasm_codec.specs.Outcomes.{read_error_of}
use Rattle.wasm_codec.specs.declared.reader.DecodeError.{DecodeError}
use Rattle.wasm_codec.specs.declared.reader.ReadError.{ReadError}
use Rattle.wasm_modules.specs.declared.modules.CheckedModule.{CheckedModule}

-- The result of the rewriting alone.
abbrev pub form_of : Result CheckedModule DecodeError → Result (Vec ℕ) ReadError
form_of (Ok checked) = Ok checked.bytes
form_of (Err e) = Err (read_error_of e)
