-- The laws of modules that are rewritten and checked.
use Rattle.std.proofs.Common.{Result, Ok, Err}
use Rattle.wasm_codec.specs.Outcomes.{NeedsNoMemory, as_read}
use Rattle.wasm_codec.specs.declared.reader.DecodeError.{DecodeError}
use Rattle.wasm_code.specs.Longer.{len_of}
use Rattle.wasm_code.specs.declared.longer.CheckedInPlace.{CheckedInPlace}

-- the rewriting alone needs no memory
pub form_needs_none : (result : Result CheckedInPlace DecodeError) → NeedsNoMemory (as_read result) → NeedsNoMemory (len_of result)
form_needs_none (Ok checked) h = tt
form_needs_none (Err e) h = h
