-- Hints of functions that are moved with the instructions in the functions' bodies (WebAssembly proposal, Branch Hinting).
use Rattle.std.specs.Prelude.{◌≡◌, ℕ, ◌-◌, ◌≤◌, List, [], ◌∷◌, All, length, map, Option, Some, None, slice_get, IfSome}
use Rattle.wasm_custom_sections.specs.MovedOffsets.{AreFronts, Each, MovesHint}
use Rattle.wasm_custom_sections.specs.declared.branch_hints.FunctionHints.{FunctionHints}
use Rattle.wasm_custom_sections.specs.declared.moved_hints.functions.BodyBytes.{BodyBytes}
use Rattle.wasm_custom_sections.specs.declared.moved_hints.offsets.Fronts.{Fronts}

-- The function with this index has this body, among the bodies of functions after so many imported ones.
pub record IsBodyAt (imported : ℕ) (bodies : List (List ℕ)) (index : ℕ) (body : List ℕ) : Type 0 where
  pub defined : imported ≤ index
  pub is : slice_get bodies (index - imported) ≡ Some body

-- The hints for the same function, moved with their instructions.
pub record MovesFunction (imported : ℕ) (bodies : List (List ℕ)) (old new : FunctionHints) : Type 0 where
  pub same : new.function_index ≡ old.function_index
  pub body : List ℕ
  pub is_body : IsBodyAt imported bodies old.function_index body
  pub hints : Each (MovesHint body) old.hints new.hints

-- The bytes of a function's body that borrows from the input.
abbrev pub bytes_of_body : BodyBytes → List ℕ
bytes_of_body body = body.bytes.now

-- The bytes of each body.
abbrev pub all_bodies : List BodyBytes → List (List ℕ)
all_bodies = map bytes_of_body

-- ---- inside

-- These fronts are known of each body.
abbrev pub HasFronts : List (List ℕ) → List (Option Fronts) → Type 0
HasFronts [] [] = Unit {0}
HasFronts [] (known ∷ more) = ⊥
HasFronts (body ∷ bodies) [] = ⊥
HasFronts (body ∷ bodies) (known ∷ more) = IfSome known (AreFronts body) × HasFronts bodies more

-- No fronts are known of so many bodies.
pub record AreUnknown (count : ℕ) (known : List (Option Fronts)) : Type 0 where
  pub len : length known ≡ count
  pub none : All (λ fronts. fronts ≡ None) known
