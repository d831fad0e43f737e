-- The words that `wasmnorm` takes, its exit status and its messages.
use Rattle.std.specs.Prelude.{ℕ, List, [], ◌∷◌, ◌++◌, Result, Ok, Err, codes, decimal}
use Rattle.wasmnorm.specs.declared.modes.Mode.{Mode}
use Rattle.wasmnorm.specs.declared.modes.Mode.TheVariants.{Calls, Types, Module}
use Rattle.wasmnorm.specs.declared.run.RunError.{RunError}
use Rattle.wasmnorm.specs.declared.run.RunError.TheVariants as errors

-- The word that asks for the mode.
abbrev pub word_of : Mode → List ℕ
word_of Calls = codes "calls"
word_of Types = codes "types"
word_of Module = codes "module"

-- The exit status of a run with this result.
abbrev pub status_of : {X : Type 0} → Result X RunError → ℕ
status_of (Ok x) = 0
status_of (Err (errors.Refused at)) = 1
status_of (Err errors.Memory) = 3
status_of (Err errors.Read) = 4
status_of (Err errors.Write) = 4

-- The message for an error.
abbrev pub message_of : RunError → List ℕ
message_of (errors.Refused at) = codes "refused at " ++ decimal at
message_of errors.Memory = codes "no memory"
message_of errors.Read = codes "read failed"
message_of errors.Write = codes "write failed"

-- The message for an error, and a line feed.
abbrev pub line_of : RunError → List ℕ
line_of error = message_of error ++ 10 ∷ []
