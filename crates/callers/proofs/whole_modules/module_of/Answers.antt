use Rattle.std.proofs.Common.{[], ◌∷◌}
use Rattle.wasm_sections.specs.formats.ModuleSectionParts.{functions}
use Rattle.callers.proofs.whole_modules.module_of.Goals as goal

pub returns : goal.returns
returns c = λ types entries fs es. c.in_ok-exports.ensures (functions types ∷ []) entries (c.in_ok-functions.ensures [] types c.in_ok-built.ensures.whole fs) es
