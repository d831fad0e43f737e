-- Tables of kinds of operands, with a place for each number up to the end of the table.
use Rattle.std.specs.Prelude.{◌≡◌, ℕ, zero, suc, ◌+◌, Bool, true, IsTrue, List, [], ◌∷◌, length, Option, ◌&&◌, nat_lt}
use Rattle.wasm_instructions.specs.declared.table.opcode.Kind.{Kind}
use Rattle.wasm_instructions.specs.formats.Opcodes.{Range, kind_among}

-- The kinds of this many numbers, from the first on.
abbrev pub kinds_from : List Range → ℕ → ℕ → List (Option Kind)
kinds_from rs first zero = []
kinds_from rs first (suc more) = kind_among rs first ∷ kinds_from rs (first + 1) more

-- Each range ends below this number.
abbrev pub end_below : List Range → ℕ → Bool
end_below [] number = true
end_below (r ∷ rs) number = nat_lt r.last number && end_below rs number

-- The table gives the kind of each number from 0 on, and no opcode lies past its end.
pub record IsTable (places : List (Option Kind)) (rs : List Range) : Type 0 where
  pub each : places ≡ kinds_from rs 0 (length places)
  pub end : IsTrue (end_below rs (length places))
