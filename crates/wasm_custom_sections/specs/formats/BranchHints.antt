-- The contents of sections of branch hints (WebAssembly proposal, Branch Hinting).
use Rattle.std.specs.Prelude.{ℕ, Bool, true, false, List, [], ◌∷◌, Option, Some}
use Rattle.wasm_codec.specs.formats.Bodies.{sized}
use Rattle.wasm_codec.specs.formats.Combinators.{Format, ◌⊗◌, made, one_byte, items, u32}
use Rattle.wasm_custom_sections.specs.declared.branch_hints.BranchHint.{BranchHint}
use Rattle.wasm_custom_sections.specs.declared.branch_hints.FunctionHints.{FunctionHints}

abbrev pub value_code : Bool → Option ℕ
value_code false = Some 0x00
value_code true = Some 0x01

-- Whether the branch is likely taken.
unfoldable pub hint_value : Format Bool
hint_value = one_byte value_code (false ∷ true ∷ [])

-- The hint with these parts.
abbrev pub hint_of : ℕ × Bool → BranchHint
hint_of p = record { branch_func_offset = p.0; likely = p.1 }

-- A hint: the offset of the instruction, the size of the value, and the value.
-- branchhint ::= off:u32 size:u32 value (if size = ||value||), value ::= 0x00 | 0x01
unfoldable pub branch_hint : Format BranchHint
branch_hint = made hint_of (λ h. Some (h.branch_func_offset, h.likely)) (u32 ⊗ sized hint_value)

-- The hints of a function with these parts.
abbrev pub hints_of : ℕ × List BranchHint → FunctionHints
hints_of p = record { function_index = p.0; hints = p.1 }

-- The hints of a function. The contents of the section are a list of them.
-- funcbranchhints ::= x:funcidx list(branchhint)
unfoldable pub function_hints : Format FunctionHints
function_hints = made hints_of (λ f. Some (f.function_index, f.hints)) (u32 ⊗ items branch_hint)
