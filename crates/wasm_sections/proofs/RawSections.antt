-- The sections of a minimally encoded module, with their bodies as bytes.
use Rattle.std.proofs.Common.{◌≡◌, ◌∙◌, ℕ, suc, ◌<◌, ◌^◌, List, [], ◌∷◌, ◌++◌, length, refl, ap, subst, sym}
use Rattle.std.specs.List.{AllByRecursion, flat_map}
use Rattle.wasm_codec.specs.Leb128.{unsigned_leb128}
use Rattle.wasm_codec.specs.Outcomes.{EncodesSome, IsNormalForm}
use Rattle.wasm_codec.specs.formats.Bodies.{byte_list}
use Rattle.wasm_codec.specs.formats.Combinators.{Format, minimal_only}
use Rattle.wasm_codec.specs.formats.Grammar.{IsBytes, Joined}
use Rattle.wasm_codec.proofs.BodyLaws.{Lawful-body, encodes_one}
use Rattle.wasm_codec.proofs.Laws.{IsBytes-back}
use Rattle.wasm_code.specs.formats.Modules.{raw_module, raw_section}
use Rattle.wasm_code.specs.formats.Sections.{SectionParts, header}
use Rattle.wasm_code.proofs.ModuleFormatLaws.{Lawful-raw-section}
use Rattle.wasm_sections.specs.formats.EntryParts.{CustomParts}
use Rattle.wasm_sections.specs.formats.Sections.{custom_body}
use Rattle.wasm_sections.specs.formats.ModuleSectionParts.{ModuleSectionParts, custom, types, imports, functions, tables, memories, globals, exports, start, elements, code, data_segments, data_count, tags}
use Rattle.wasm_sections.specs.formats.ModuleSections.{IsMinimalSection, module_section, whole_module, MinimalWholeModule}
use Rattle.wasm_sections.proofs.CustomLaws.{custom_is_lawful}
use Rattle.wasm_sections.proofs.ModuleSectionLaws.{IsKind, module_section_is_lawful, whole_module_is_lawful, whole_module_is_minimal, custom_kind, types_kind, imports_kind, functions_kind, tables_kind, memories_kind, globals_kind, exports_kind, start_kind, elements_kind, code_kind, data_segments_kind, data_count_kind, tags_kind}

-- ---- one section

-- the bytes are the minimal encoding of a section with its body as bytes
record IsRaw (bytes : List ℕ) : Type 0 where
  pub section : SectionParts
  pub encodes : raw_section.Encodes bytes section
  pub written : bytes ≡ raw_section.bytes section

of_kind : {V : Type 0} {id : ℕ} {make : V → ModuleSectionParts} {F : Format V} → IsKind id make F → (v : V) (bytes : List ℕ) → (minimal_only module_section).Encodes bytes (make v) → length (F.bytes v) < 2 ^ 32 → IsRaw bytes
unfolding raw_section
of_kind {V} {id} {make} {F} k v bytes g short =
    let section : SectionParts = record { id = id; body = F.bytes v } in
    let is : bytes ≡ raw_section.bytes section = g.1 ∙ k.bytes_are v in
    let all : IsBytes (raw_section.bytes section) = subst IsBytes is (module_section_is_lawful.are_bytes bytes (make v) g.0) in
    let body : IsBytes (F.bytes v) = IsBytes-back (unsigned_leb128 (length (F.bytes v))) (F.bytes v) all.1 in
    record {
      section = section;
      encodes = subst (λ (b : List ℕ). raw_section.Encodes b section) (sym is) (Lawful-raw-section.minimal.encodes section ((k.small, (body, short)), refl));
      written = is;
    }

raw_by : (bytes : List ℕ) (s : ModuleSectionParts) → (minimal_only module_section).Encodes bytes s → module_section.InRange s → IsRaw bytes
unfolding module_section
raw_by bytes (custom v) g r = of_kind custom_kind v bytes g r.0.1
raw_by bytes (types v) g r = of_kind types_kind v bytes g r.0.1
raw_by bytes (imports v) g r = of_kind imports_kind v bytes g r.0.1
raw_by bytes (functions v) g r = of_kind functions_kind v bytes g r.0.1
raw_by bytes (tables v) g r = of_kind tables_kind v bytes g r.0.1
raw_by bytes (memories v) g r = of_kind memories_kind v bytes g r.0.1
raw_by bytes (globals v) g r = of_kind globals_kind v bytes g r.0.1
raw_by bytes (exports v) g r = of_kind exports_kind v bytes g r.0.1
raw_by bytes (start v) g r = of_kind start_kind v bytes g r.0.1
raw_by bytes (elements v) g r = of_kind elements_kind v bytes g r.0.1
raw_by bytes (code v) g r = of_kind code_kind v bytes g r.0.1
raw_by bytes (data_segments v) g r = of_kind data_segments_kind v bytes g r.0.1
raw_by bytes (data_count v) g r = of_kind data_count_kind v bytes g r.0.1
raw_by bytes (tags v) g r = of_kind tags_kind v bytes g r.0.1

one_raw : (bytes : List ℕ) (s : ModuleSectionParts) → (minimal_only module_section).Encodes bytes s → IsRaw bytes
one_raw bytes s g = raw_by bytes s g (module_section_is_lawful.in_range bytes s g.0)

-- ---- one custom section

-- the section is this custom section
record IsCustom (section : ModuleSectionParts) (bytes : List ℕ) : Type 0 where
  pub parts : CustomParts
  pub is : section ≡ custom parts

other : {n : ℕ} {xs ys : List ℕ} → suc n ∷ xs ≡ 0 ∷ ys → {A : Type 0} → A
other e = absurd cc

custom_only : (section : ModuleSectionParts) (rest : List ℕ) → module_section.bytes section ≡ 0 ∷ rest → IsCustom section rest
custom_only (custom c) rest e = record { parts = c; is = refl }
custom_only (types v) rest e = other (sym (types_kind.bytes_are v) ∙ e)
custom_only (imports v) rest e = other (sym (imports_kind.bytes_are v) ∙ e)
custom_only (functions v) rest e = other (sym (functions_kind.bytes_are v) ∙ e)
custom_only (tables v) rest e = other (sym (tables_kind.bytes_are v) ∙ e)
custom_only (memories v) rest e = other (sym (memories_kind.bytes_are v) ∙ e)
custom_only (globals v) rest e = other (sym (globals_kind.bytes_are v) ∙ e)
custom_only (exports v) rest e = other (sym (exports_kind.bytes_are v) ∙ e)
custom_only (start v) rest e = other (sym (start_kind.bytes_are v) ∙ e)
custom_only (elements v) rest e = other (sym (elements_kind.bytes_are v) ∙ e)
custom_only (code v) rest e = other (sym (code_kind.bytes_are v) ∙ e)
custom_only (data_segments v) rest e = other (sym (data_segments_kind.bytes_are v) ∙ e)
custom_only (data_count v) rest e = other (sym (data_count_kind.bytes_are v) ∙ e)
custom_only (tags v) rest e = other (sym (tags_kind.bytes_are v) ∙ e)

in_custom_range : (c : CustomParts) → module_section.InRange (custom c) → custom_body.InRange c × (length (custom_body.bytes c) < 2 ^ 32)
unfolding module_section
in_custom_range c r = r.0

-- the body of a minimally encoded custom section is the minimal encoding of its name and its contents
pub custom_minimal : (s : SectionParts) (c : CustomParts) → raw_section.InRange s → IsMinimalSection s → s.id ≡ 0 → custom_body.Encodes s.body c → s.body ≡ custom_body.bytes c
unfolding raw_section
custom_minimal s c fits minimal id g =
    let whole = raw_section.bytes s in
    let rest = byte_list.bytes s.body in
    let only = custom_only minimal.0 rest (sym minimal.1.1 ∙ ap (λ (n : ℕ). n ∷ rest) id) in
    let made : (minimal_only module_section).Encodes whole (custom only.parts) = subst (λ (m : ModuleSectionParts). (minimal_only module_section).Encodes whole m) only.is minimal.1 in
    let range = in_custom_range only.parts (module_section_is_lawful.in_range whole (custom only.parts) made.0) in
    let bare = custom_is_lawful.minimal.encodes only.parts range.0 in
    let t : SectionParts = record { id = 0; body = custom_body.bytes only.parts } in
    let is : whole ≡ raw_section.bytes t = made.1 ∙ custom_kind.bytes_are only.parts in
    let t_fits : raw_section.InRange t = ((custom_kind.small, (custom_is_lawful.are_bytes t.body only.parts bare, range.1)), refl) in
    let t_encodes : raw_section.Encodes whole t = subst (λ (b : List ℕ). raw_section.Encodes b t) (sym is) (Lawful-raw-section.minimal.encodes t t_fits) in
    let same : s ≡ t = encodes_one (Lawful-body Lawful-raw-section) whole s t (Lawful-raw-section.minimal.encodes s fits) t_encodes in
    let body : s.body ≡ custom_body.bytes only.parts = ap (λ (x : SectionParts). x.body) same in
    let again = subst (λ (b : List ℕ). custom_body.Encodes b only.parts) (sym body) bare in
    body ∙ ap custom_body.bytes (sym (encodes_one custom_is_lawful s.body c only.parts g again))

-- ---- all sections

-- the bytes encode sections with their bodies as bytes, each of them minimally encoded, and are written so
pub record HasRaw (G : List ℕ → List SectionParts → Type 0) (write : List SectionParts → List ℕ) (bytes : List ℕ) : Type 0 where
  pub sections : List SectionParts
  pub encodes : G bytes sections
  pub written : bytes ≡ write sections
  pub minimal : AllByRecursion IsMinimalSection sections

joined_raw : (bytes : List ℕ) (parts : List ModuleSectionParts) → Joined (minimal_only module_section).Encodes bytes parts → HasRaw (Joined raw_section.Encodes) (flat_map raw_section.bytes) bytes
joined_raw bytes [] g = record { sections = []; encodes = g; written = g; minimal = tt }
joined_raw bytes (s ∷ parts) g =
    let one = one_raw g.0 s g.3 in
    let more = joined_raw g.1 parts g.4 in
    record {
      sections = one.section ∷ more.sections;
      encodes = (g.0, g.1, g.2, one.encodes, more.encodes);
      written = g.2 ∙ ap (λ (b : List ℕ). b ++ g.1) one.written ∙ ap (λ (b : List ℕ). raw_section.bytes one.section ++ b) more.written;
      minimal = ((s, subst (λ (b : List ℕ). (minimal_only module_section).Encodes b s) one.written g.3), more.minimal);
    }

pub raw_sections : (bytes : List ℕ) → EncodesSome MinimalWholeModule bytes → HasRaw raw_module.Encodes raw_module.bytes bytes
raw_sections bytes g =
    let r = joined_raw g.1.0 g.0 g.1.2 in
    record { sections = r.sections; encodes = (g.1.0, g.1.1, r.encodes); written = g.1.1 ∙ ap (λ (b : List ℕ). header ++ b) r.written; minimal = r.minimal }

joined_whole : (sections : List SectionParts) → AllByRecursion IsMinimalSection sections → EncodesSome (Joined (minimal_only module_section).Encodes) (flat_map raw_section.bytes sections)
joined_whole [] minimal = ([], refl)
joined_whole (s ∷ sections) minimal =
    let more = joined_whole sections minimal.1 in
    (minimal.0.0 ∷ more.0, (raw_section.bytes s, flat_map raw_section.bytes sections, refl, minimal.0.1, more.1))

-- minimally encoded sections are a minimally encoded module
pub whole_again : (sections : List SectionParts) → AllByRecursion IsMinimalSection sections → EncodesSome MinimalWholeModule (raw_module.bytes sections)
whole_again sections minimal =
    let all = joined_whole sections minimal in
    (all.0, (flat_map raw_section.bytes sections, refl, all.1))

-- ---- canonical forms

pub normal_minimal : (bytes encoding : List ℕ) → IsNormalForm whole_module.Encodes whole_module.bytes bytes encoding → EncodesSome MinimalWholeModule encoding
normal_minimal bytes encoding form =
    let again = whole_module_is_lawful.minimal.again bytes form.value form.encoded in
    (form.value, (whole_module_is_minimal encoding form.value).1 (subst (λ (b : List ℕ). whole_module.Encodes b form.value) (sym form.is_minimal) again, form.is_minimal))

pub minimal_normal : (bytes : List ℕ) → EncodesSome MinimalWholeModule bytes → IsNormalForm whole_module.Encodes whole_module.bytes bytes bytes
minimal_normal bytes g =
    let both = (whole_module_is_minimal bytes g.0).0 g.1 in
    record { value = g.0; encoded = both.0; is_minimal = both.1 }
