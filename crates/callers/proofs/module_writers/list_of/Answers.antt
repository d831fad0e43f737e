use Rattle.std.proofs.Common.{◌≡◌, ℕ, List, [], ◌∷◌, Result, Ok, Err, Some, IfOk, Vec, Global, sym, subst}
use Rattle.wasm_encoder.specs.WrittenModules.{IsWrittenModule}
use Rattle.wasm_sections.specs.formats.ModuleSectionParts.{ModuleSectionParts, exports, functions}
use Rattle.wasm_sections.specs.formats.ModuleSections.{MinimalWholeModule}
use Rattle.callers.proofs.module_writers.list_of.Goals as goal

-- a list that was empty holds the module and nothing else
alone : {E : Type 0} (r : Result (Vec ℕ Global) E) (start : List ℕ) (sections : List ModuleSectionParts) → start ≡ [] → IfOk r (λ bytes. IsWrittenModule (Some start) (Some bytes.items) sections) → IfOk r (λ bytes. MinimalWholeModule bytes.items sections)
alone (Ok bytes) start sections empty written =
    let from_empty : IsWrittenModule (Some []) (Some bytes.items) sections = subst (λ (t : List ℕ). IsWrittenModule (Some t) (Some bytes.items) sections) empty written in
    subst (λ (t : List ℕ). MinimalWholeModule t sections) (sym from_empty.appended) from_empty.minimal
alone (Err e) start sections empty written = tt

pub returns : goal.returns
returns c = λ types entries indexes names. alone c.module_of.result c.new.result.items (functions types ∷ exports entries ∷ []) c.new.ensures.items (c.module_of.ensures types entries indexes names)
