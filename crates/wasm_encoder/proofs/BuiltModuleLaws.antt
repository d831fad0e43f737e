-- The laws of modules that are built of decoded sections.
use Rattle.std.proofs.Common.{◌≡◌, ℕ, ◌⊎◌, inl, inr, List, [], ◌∷◌, ◌++◌, suc, Ok, Err, refl, sym, ap, ◌∙◌, subst, arith}
use Rattle.std.specs.List.{All, AllByRecursion, Any, flat_map}
use Rattle.std.proofs.lemmas.List.{append-nil}
use Rattle.std.proofs.lemmas.List.Elements.{All-nil, All-cons, All-push}
use Rattle.wasm_codec.specs.declared.encode.EncodeError.{EncodeError}
use Rattle.wasm_codec.specs.declared.encode.EncodeError.TheVariants.{Memory}
use Rattle.wasm_codec.specs.Encoding.{IsRefusal, OnlyTooLong, Refuses}
use Rattle.wasm_codec.specs.formats.Combinators.{minimal_only}
use Rattle.wasm_codec.specs.formats.Grammar.{Joined}
use Rattle.wasm_lists.proofs.WrittenLists.{one_more}
use Rattle.wasm_code.specs.formats.Sections.{header}
use Rattle.wasm_sections.specs.declared.module_sections.ModuleSection.{ModuleSection}
use Rattle.wasm_sections.specs.formats.ModuleSectionParts.{all_module_section_parts, module_section_parts, section_id}
use Rattle.wasm_sections.specs.formats.ModuleSections.{module_section, whole_module}
use Rattle.wasm_sections.specs.WrittenSections.{content_bytes, CountedContent, IsClosedContent, IsWrittenContent, WrittenContent}
use Rattle.wasm_sections.proofs.ModuleSectionLaws.{whole_module_is_lawful, whole_module_is_minimal}
use Rattle.wasm_sections.proofs.WrittenSectionLaws.{content_after_id, section_counted}
use Rattle.wasm_encoder.specs.BuiltModules.{BuildsModule}

-- the minimal encoding of a section
abbrev bytes_of : ModuleSection → List ℕ
bytes_of section = module_section.bytes (module_section_parts section)

-- the module has these sections so far
pub record HasSections (sections : List ModuleSection) (m : List ℕ) : Type 0 where
  pub bytes : m ≡ header ++ flat_map bytes_of sections
  pub can : All CountedContent sections
  pub written : All WrittenContent sections

pub has_none : (m : List ℕ) → m ≡ header → HasSections [] m
has_none m is = record { bytes = is ∙ sym (append-nil header); can = All-nil CountedContent; written = All-nil WrittenContent }

pub has_more : (before : List ModuleSection) (section : ModuleSection) (old new : List ℕ) → HasSections before old → new ≡ old ++ section_id (module_section_parts section) ∷ content_bytes (module_section_parts section) → CountedContent section → WrittenContent section → HasSections (before ++ section ∷ []) new
has_more before section old new h is can written =
    let appended : new ≡ old ++ bytes_of section = is ∙ ap (λ (t : List ℕ). old ++ t) (sym (content_after_id (module_section_parts section))) in
    record {
      bytes = one_more bytes_of header [] before section old new h.bytes appended;
      can = All-push CountedContent before section h.can can;
      written = All-push WrittenContent before section h.written written;
    }

all_bytes : (sections : List ModuleSection) → flat_map bytes_of sections ≡ flat_map module_section.bytes (all_module_section_parts sections)
all_bytes [] = refl
all_bytes (section ∷ sections) = ap (λ (t : List ℕ). bytes_of section ++ t) (all_bytes sections)

module_is : (sections : List ModuleSection) (m : List ℕ) → HasSections sections m → m ≡ whole_module.bytes (all_module_section_parts sections)
module_is sections m h = h.bytes ∙ ap (λ (t : List ℕ). header ++ t) (all_bytes sections)

-- sections that close their blocks are minimally encoded, one after the other
all_joined : (sections : List ModuleSection) → All WrittenContent sections → All IsClosedContent sections → Joined (minimal_only module_section).Encodes (flat_map bytes_of sections) (all_module_section_parts sections)
all_joined [] written closed = refl
all_joined (section ∷ sections) written closed =
    let one : IsWrittenContent (module_section_parts section) = (written 0 section (omega arith)).closed (closed 0 section (omega arith)) in (
      bytes_of section,
      flat_map bytes_of sections,
      refl,
      subst (λ (b : List ℕ). (minimal_only module_section).Encodes b (module_section_parts section)) (sym (content_after_id (module_section_parts section))) one,
      all_joined sections (λ k d lt. written (suc k) d (omega (arith, lt))) (λ k d lt. closed (suc k) d (omega (arith, lt))),
    )

all_counted : (sections : List ModuleSection) → AllByRecursion module_section.InRange (all_module_section_parts sections) → All CountedContent sections
all_counted [] fits = All-nil CountedContent
all_counted (section ∷ sections) fits = All-cons CountedContent section sections (section_counted section fits.0) (all_counted sections fits.1)

pub built : (sections : List ModuleSection) (m : List ℕ) → HasSections sections m → BuildsModule sections (Ok m)
built sections m h =
    let is = module_is sections m h in
    record {
      bytes = is;
      closed = λ closed. (flat_map bytes_of sections, h.bytes, all_joined sections h.written closed);
      encoded = λ bytes g. (whole_module_is_minimal m (all_module_section_parts sections)).1 (subst (λ (b : List ℕ). whole_module.Encodes b (all_module_section_parts sections)) (sym is) (whole_module_is_lawful.minimal.again bytes (all_module_section_parts sections) g), is);
      can = h.can;
      refused = tt;
      memory = λ bytes g. tt;
    }

-- why a section isn't written, which isn't so if some bytes encode the sections
alone : (sections : List ModuleSection) (e : EncodeError) → (e ≡ Memory) ⊎ Any (λ section. Refuses CountedContent OnlyTooLong section e) sections → All CountedContent sections → e ≡ Memory
alone sections e (inl memory) can = memory
alone sections e (inr (k, section, lt, at, (cannot, is))) can = absurd (cannot (subst CountedContent at (can k section lt)))

pub not_built : (sections : List ModuleSection) (e : EncodeError) → (e ≡ Memory) ⊎ Any (λ section. Refuses CountedContent OnlyTooLong section e) sections → BuildsModule sections (Err e)
not_built sections e why = record {
  bytes = tt;
  closed = tt;
  encoded = tt;
  can = tt;
  refused = why;
  memory = λ bytes g. alone sections e why (all_counted sections (whole_module_is_lawful.in_range bytes (all_module_section_parts sections) g));
}

-- this section of the list was refused
pub refused_at : (sections : List ModuleSection) (section : ModuleSection) (e : EncodeError) → ((P : ModuleSection → Type 0) → P section → Any P sections) → IsRefusal CountedContent OnlyTooLong section e → (e ≡ Memory) ⊎ Any (λ s. Refuses CountedContent OnlyTooLong s e) sections
refused_at sections section e one (inl memory) = inl memory
refused_at sections section e one (inr refused) = inr (one (λ s. Refuses CountedContent OnlyTooLong s e) refused)
