use Rattle.std.proofs.Common.{◌≡◌, inl, inr, List, Err, refl, sym, ap, ◌∙◌, subst}
use Rattle.std.proofs.lemmas.Result.{err_from_is_err_and}
use Rattle.std.specs.Global.{Vec}
use Rattle.wasm_codec.specs.declared.reader.ReadError.{ReadError}
use Rattle.wasm_codec.specs.declared.reader.ReadError.TheVariants as read_errors
use Rattle.wasm_codec.specs.Outcomes.{IsOrMemory}
use Rattle.wasm_sections.specs.declared.module_sections.ModuleSection.{ModuleSection}
use Rattle.wasm_sections.specs.formats.ModuleSectionParts.{ModuleSectionParts, all_module_section_parts}
use Rattle.wasm_sections.specs.formats.ModuleSections.{MinimalWholeModule, whole_module}
use Rattle.wasm_encoder.specs.declared.error.Error.TheVariants as errors
use Rattle.callers.proofs.whole_modules.written_back.Goals as goal

only_memory : {X V : Type 0} (view : X → V) (v : V) (e : ReadError) → IsOrMemory view v (Err e) → e ≡ read_errors.Memory
only_memory view v read_errors.Memory h = refl
only_memory view v (read_errors.Refused at) h = absurd h

pub returns-in_err-sections-clause-memory : goal.returns-in_err-sections-clause-memory
returns-in_err-sections-clause-memory c = λ sections g.
    let p = err_from_is_err_and c.from_residual.result c.from_residual.ensures.1 in
    rw p.1 (inl (p.2 ∙ ap errors.Read (only_memory {X = Vec ModuleSection} (λ read. all_module_section_parts read.items) sections c.in_err-sections.field-0.0 (c.in_err-sections.ensures.decodes.complete sections g))))

pub returns-in_err-from_sections-clause-memory : goal.returns-in_err-from_sections-clause-memory
returns-in_err-from_sections-clause-memory c = λ sections g.
    let p = err_from_is_err_and c.from_residual-in_err-from_sections.result c.from_residual-in_err-from_sections.ensures.1 in
    let is : all_module_section_parts c.deref.result.now ≡ all_module_section_parts c.in_ok-sections.sections.items = ap all_module_section_parts c.deref.ensures.value in
    let given = subst (λ (vs : List ModuleSectionParts). whole_module.Encodes c.args.bytes.now vs) (sym is) c.in_ok-sections.ensures.decodes.given in
    rw p.1 (inr (p.2 ∙ ap errors.Encode (c.in_err-from_sections.ensures.builds.memory c.args.bytes.now given)))

pub returns-clause-same : goal.returns-clause-same
returns-clause-same c = λ sections g.
    let read = c.in_ok-sections.ensures.decodes in
    let is : all_module_section_parts c.deref.result.now ≡ sections = ap all_module_section_parts c.deref.ensures.value ∙ read.one (all_module_section_parts c.in_ok-sections.sections.items) sections read.given g in
    let given = subst (λ (vs : List ModuleSectionParts). whole_module.Encodes c.args.bytes.now vs) (sym is) g in
    subst (λ (vs : List ModuleSectionParts). MinimalWholeModule c.in_ok-from_sections.field-0 vs) is (c.in_ok-from_sections.ensures.builds.encoded c.args.bytes.now given)
