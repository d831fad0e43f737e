-- The output of a run of `wasmnorm`, and its result.
use Rattle.std.specs.Prelude.{ℕ, List, Option, Result, Ok, Err}
use Rattle.std.specs.Io.KnownBytes.{Appends}
use Rattle.wasm_codec.specs.Streams.{AppendsPrefix}
use Rattle.wasm_codec.specs.declared.reader.ReadError.{ReadError}
use Rattle.wasm_codec.specs.declared.reader.ReadError.TheVariants as read_errors
use Rattle.wasmnorm.specs.Modes.{NormalForm}
use Rattle.wasmnorm.specs.declared.modes.Mode.{Mode}
use Rattle.wasmnorm.specs.declared.run.RunError.{RunError}
use Rattle.wasmnorm.specs.declared.run.RunError.TheVariants as errors

-- ---- outputs

-- The writer's known contents grew by the minimal encoding of what the input encodes.
pub record AppendsNormalForm (mode : Mode) (input : List ℕ) (old new : Option (List ℕ)) : Type 0 where
  pub encoding : List ℕ
  pub normal : NormalForm mode input encoding
  pub appended : Appends old new encoding

-- The writer's known contents grew by a proper prefix of the minimal encoding of what the input encodes.
pub record AppendsBeginning (mode : Mode) (input : List ℕ) (old new : Option (List ℕ)) : Type 0 where
  pub encoding : List ℕ
  pub normal : NormalForm mode input encoding
  pub appended : AppendsPrefix old new encoding

-- ---- results

-- If the run refuses its input, the property holds of the offset that it reports.
abbrev pub IfRefused : {X : Type 0} → Result X RunError → (ℕ → Type 0) → Type 0
IfRefused (Ok x) P = Unit {0}
IfRefused (Err (errors.Refused at)) P = P at
IfRefused (Err errors.Memory) P = Unit {0}
IfRefused (Err errors.Read) P = Unit {0}
IfRefused (Err errors.Write) P = Unit {0}

-- The property holds of each result that is returned after all input was read.
abbrev pub OnceAllIsRead : {X : Type 0} → Result X RunError → Type 0 → Type 0
OnceAllIsRead (Ok x) P = P
OnceAllIsRead (Err (errors.Refused at)) P = P
OnceAllIsRead (Err errors.Memory) P = Unit {0}
OnceAllIsRead (Err errors.Read) P = Unit {0}
OnceAllIsRead (Err errors.Write) P = P

-- The property holds of each error that is returned before a byte was written.
abbrev pub BeforeAnyWrite : {X : Type 0} → Result X RunError → Type 0 → Type 0
BeforeAnyWrite (Ok x) P = Unit {0}
BeforeAnyWrite (Err (errors.Refused at)) P = P
BeforeAnyWrite (Err errors.Memory) P = P
BeforeAnyWrite (Err errors.Read) P = P
BeforeAnyWrite (Err errors.Write) P = Unit {0}

-- The property holds if a write failed.
abbrev pub IfWriteFailed : {X : Type 0} → Result X RunError → Type 0 → Type 0
IfWriteFailed (Ok x) P = Unit {0}
IfWriteFailed (Err (errors.Refused at)) P = Unit {0}
IfWriteFailed (Err errors.Memory) P = Unit {0}
IfWriteFailed (Err errors.Read) P = Unit {0}
IfWriteFailed (Err errors.Write) P = P

-- The error of the run for this error of the normaliser.
abbrev pub run_error : ReadError → RunError
run_error read_errors.Memory = errors.Memory
run_error (read_errors.Refused at) = errors.Refused at
