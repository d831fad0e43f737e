-- The laws of modules that are being built of sections with what they hold.
use Rattle.std.proofs.Common.{◌≡◌, ℕ, List, [], ◌∷◌, ◌++◌, Result, Ok, Err, OnOk, OnErr, IfErr, append_assoc, refl, sym, ap, subst, ◌∙◌}
use Rattle.std.proofs.lemmas.List.{append-nil}
use Rattle.wasm_codec.specs.formats.Grammar.{Grammar, Joined}
use Rattle.wasm_codec.specs.formats.Combinators.{minimal_only}
use Rattle.wasm_codec.specs.declared.encode.EncodeError.{EncodeError}
use Rattle.wasm_code.specs.formats.Sections.{header}
use Rattle.wasm_code.proofs.ModuleFormatLaws.{Lawful-raw-module}
use Rattle.wasm_code.proofs.ModuleLaws.{goes_on}
use Rattle.wasm_encoder.specs.BuiltModules.{AppendsSection}
use Rattle.wasm_sections.specs.formats.ModuleSectionParts.{ModuleSectionParts}
use Rattle.wasm_sections.specs.SectionBytes.{IsSectionAfter}
use Rattle.wasm_sections.specs.formats.ModuleSections.{MinimalWholeModule, module_section}

pub no_sections : (m : List ℕ) → m ≡ header → MinimalWholeModule m []
no_sections m is = ([], is ∙ sym (append-nil header), refl)

-- encodings of values, and then one of one value more
one_more : {V : Type 0} (G : Grammar V) (bytes more : List ℕ) (values : List V) (added : V) → Joined G bytes values → G more added → Joined G (bytes ++ more) (values ++ added ∷ [])
one_more G bytes more [] added none g = (more, [], ap (λ (t : List ℕ). t ++ more) none ∙ sym (append-nil more), g, refl)
one_more G bytes more (v ∷ values) added j g =
    (j.0, j.1 ++ more, ap (λ (t : List ℕ). t ++ more) j.2 ∙ append_assoc j.0 j.1 more, j.3, one_more G j.1 more values added j.4 g)

section_added : {T E : Type 0} (r : Result T E) (old new bytes : List ℕ) (id : ℕ) (sections : List ModuleSectionParts) (added : ModuleSectionParts) → OnOk r (new ≡ old ++ id ∷ bytes) → MinimalWholeModule old sections → IsSectionAfter id bytes added
    → OnOk r (MinimalWholeModule new (sections ++ added ∷ []))
section_added (Ok x) old new bytes id sections added is j more =
    (j.0 ++ id ∷ bytes, is ∙ ap (λ (t : List ℕ). t ++ id ∷ bytes) j.1 ∙ append_assoc header j.0 (id ∷ bytes), one_more (minimal_only module_section).Encodes j.0 (id ∷ bytes) sections added j.2 more)
section_added (Err e) old new bytes id sections added is j more = tt

pub appends_section : (was old new encoding : List ℕ) (byte id : ℕ) (Can Written : Type 0) (Refused : EncodeError → Type 0) (r : Result (Unit {0}) EncodeError) → was ≡ old → byte ≡ id → OnOk r (new ≡ was ++ byte ∷ encoding) → OnOk r Can → OnOk r Written → IfErr r Refused → OnErr r (new ≡ was)
    → AppendsSection id encoding Can Written Refused old new r
appends_section was old new encoding byte id Can Written Refused r same is ok can written refused err =
    let appended : OnOk r (new ≡ was ++ id ∷ encoding) = subst (λ (n : ℕ). OnOk r (new ≡ was ++ n ∷ encoding)) is ok in
    subst (λ (m : List ℕ). AppendsSection id encoding Can Written Refused m new r) same (record {
      appended = record { ok = appended; can = can; written = written; refused = refused; err = err };
      goes_on = λ sections body is_module is_body. goes_on r was new encoding body sections id appended is_module is_body;
      first = λ body is_header is_body. goes_on r was new encoding body [] id appended is_header is_body;
      whole = λ sections added is_module is_section. section_added r was new encoding id sections added appended is_module is_section;
      encodes = Lawful-raw-module.minimal.encodes;
      minimal = λ sections bytes g. Lawful-raw-module.minimal.least bytes sections g;
    })
