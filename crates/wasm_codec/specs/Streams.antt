-- The contents of a writer after a call that writes bytes.
use Rattle.std.specs.Prelude.{◌≡◌, ◌<◌, ◌++◌, ℕ, List, length, Option, Result, OnOk, OnErr}
use Rattle.std.specs.Io.KnownBytes.{Appends}

-- The writer's known contents grew by a proper prefix of these bytes.
pub record AppendsPrefix (old new : Option (List ℕ)) (bytes : List ℕ) : Type 0 where
  pub prefix : List ℕ
  pub rest : List ℕ
  pub parts : bytes ≡ prefix ++ rest
  pub left : 0 < length rest
  pub appended : Appends old new prefix

-- A call that writes these bytes.
pub record WritesAll {T E : Type 0} (bytes : List ℕ) (old new : Option (List ℕ)) (result : Result T E) : Type 0 where
  -- It appends them to the writer's known contents, and nothing else.
  pub ok : OnOk result (Appends old new bytes)
  -- After an error, a proper prefix of them was appended.
  pub err : OnErr result (AppendsPrefix old new bytes)
