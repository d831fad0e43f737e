use Rattle.std.proofs.Common.{ℕ, List, subst, sym}
use Rattle.wasm_sections.specs.formats.ModuleSections.{MinimalWholeModule}
use Rattle.callers.proofs.whole_modules.read_back.Goals as goal

pub returns : goal.returns
returns c = λ sections s. c.read_whole_module_strict.ensures.decodes.complete sections (subst (λ (bytes : List ℕ). MinimalWholeModule bytes sections) (sym c.as_slice.ensures.value) s)
