-- The forms of element segments in parts: what a number says about them, and what follows it.
use Rattle.std.specs.Prelude.{◌≡◌, ℕ, zero, suc, length, List, Some, None, Result}
use Rattle.wasm_codec.specs.declared.reader.cursor.Fault.{Fault}
use Rattle.wasm_codec.specs.Places.{Reader, u32_at}
use Rattle.wasm_codec.specs.Reading.{◌>>=◌}
use Rattle.wasm_codec.specs.Rewriter.{Rewriting, Rewrites, rewritten_at}
use Rattle.wasm_codec.specs.formats.Combinators.{Format, ◌⊗◌, made, u32, items}
use Rattle.wasm_types.specs.formats.Types.{ref_type}
use Rattle.wasm_sections.specs.declared.elements.ElementMode.{ElementMode}
use Rattle.wasm_sections.specs.declared.elements.ElementMode.TheVariants as modes
use Rattle.wasm_sections.specs.declared.elements.Elements.{Elements}
use Rattle.wasm_sections.specs.declared.elements.Elements.TheVariants as held
use Rattle.wasm_externals.specs.formats.Expressions.{expr}
use Rattle.wasm_sections.specs.formats.Elements.{funcref, kind_and_functions, typed_of, typed_part}

-- Reads the offset of an active element segment for this table.
abbrev pub place_at : ℕ → Reader ElementMode
place_at table p = expr.at p >>= λ x. Some (modes.Active table x.0, x.1)

-- Reads the mode of an element segment of this form.
abbrev pub mode_at : ℕ → Reader ElementMode
mode_at zero p = place_at 0 p
mode_at (suc zero) p = Some (modes.Passive, p)
mode_at (suc (suc zero)) p = u32_at p >>= λ x. place_at x.0 x.1
mode_at (suc (suc (suc zero))) p = Some (modes.Declared, p)
mode_at (suc (suc (suc (suc zero)))) p = place_at 0 p
mode_at (suc (suc (suc (suc (suc zero))))) p = Some (modes.Passive, p)
mode_at (suc (suc (suc (suc (suc (suc zero)))))) p = u32_at p >>= λ x. place_at x.0 x.1
mode_at (suc (suc (suc (suc (suc (suc (suc zero))))))) p = Some (modes.Declared, p)
mode_at n p = None

-- Reads function indexes as elements.
abbrev pub functions_at : Reader (List ℕ) → Reader Elements
functions_at read p = read p >>= λ x. Some (held.Functions x.0, x.1)

-- Reads a reference type, then expressions, as elements.
abbrev pub typed_at : Reader Elements
typed_at = (made typed_of typed_part (ref_type ⊗ items expr)).at

-- Reads the elements of an element segment of this form.
abbrev pub elements_at : ℕ → Reader Elements
elements_at zero p = functions_at (items u32).at p
elements_at (suc zero) p = functions_at kind_and_functions.at p
elements_at (suc (suc zero)) p = functions_at kind_and_functions.at p
elements_at (suc (suc (suc zero))) p = functions_at kind_and_functions.at p
elements_at (suc (suc (suc (suc zero)))) p = (items expr).at p >>= λ x. Some (held.Expressions funcref x.0, x.1)
elements_at (suc (suc (suc (suc (suc zero))))) p = typed_at p
elements_at (suc (suc (suc (suc (suc (suc zero)))))) p = typed_at p
elements_at (suc (suc (suc (suc (suc (suc (suc zero))))))) p = typed_at p
elements_at n p = None

-- The call rewrites an item that begins with this number, which was written at a mark.
abbrev pub RewritesForm : {V : Type 0} → Format V → ℕ → ℕ → Rewriting → Rewriting → Result (Unit {0}) Fault → Type 0
RewritesForm F number mark old new result = (begun : Rewriting) → rewritten_at u32 begun ≡ Some (number, old) → mark ≡ length begun.done → Rewrites F begun new result
