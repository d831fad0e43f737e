-- The open blocks, as the code counts them.
use Rattle.std.specs.Prelude.{ℕ}
use Rattle.wasm_externals.specs.declared.expressions.Step.{Step}
use Rattle.wasm_externals.specs.declared.expressions.Step.TheVariants as steps
use Rattle.wasm_externals.specs.formats.PartCombinators.{Move, goes_on, ends, fails}

-- The move that a step of the code stands for.
abbrev pub as_move : Step → Move ℕ
as_move (steps.GoesOn depth) = goes_on depth
as_move steps.Ends = ends
as_move steps.Fails = fails
