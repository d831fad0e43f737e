-- The errors when everything is read.
use Rattle.wasmnorm.specs.declared.run.RunError.{RunError}
use Rattle.wasmnorm.specs.declared.run.RunError.TheVariants as errors

-- The error is `Memory` or `Read`.
abbrev pub IsReadError : RunError → Type 0
IsReadError (errors.Refused at) = ⊥
IsReadError errors.Memory = Unit {0}
IsReadError errors.Read = Unit {0}
IsReadError errors.Write = ⊥
