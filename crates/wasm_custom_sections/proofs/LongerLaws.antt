-- A minimally encoded module whose contents are minimally encoded stays as it is when they are minimised.
use Rattle.std.proofs.Common.{◌≡◌, ◌∙◌, ℕ, inl, inr, List, ◌∷◌, length, Option, Some, None, Result, Ok, Err, IfOk, refl, sym, ap, subst}
use Rattle.std.specs.List.{AllByRecursion}
use Rattle.std.specs.Prelude.{codes, IfNone, IfSome}
use Rattle.wasm_codec.specs.Lawful.{IsLawfulBody}
use Rattle.wasm_codec.specs.Outcomes.{EncodesSome}
use Rattle.wasm_codec.specs.formats.Combinators.{Format, items}
use Rattle.wasm_codec.proofs.BodyLaws.{encodes_one}
use Rattle.wasm_code.specs.formats.Modules.{raw_module, raw_section}
use Rattle.wasm_code.specs.formats.Sections.{SectionParts}
use Rattle.wasm_code.proofs.ModuleFormatLaws.{Lawful-raw-module}
use Rattle.wasm_sections.specs.formats.EntryParts.{CustomParts}
use Rattle.wasm_sections.specs.formats.ModuleSections.{IsMinimalSection, MinimalWholeModule}
use Rattle.wasm_sections.specs.formats.Sections.{custom_body}
use Rattle.wasm_sections.proofs.CustomLaws.{custom_is_lawful}
use Rattle.wasm_sections.proofs.RawSections.{custom_minimal, raw_sections}
use Rattle.wasm_custom_sections.specs.LongerContents.{HasLongerContents, IsLongerIn, IsLongerInside, IsMinimalIn, IsMinimalInside, IsWritten}
use Rattle.wasm_custom_sections.specs.MinimalContents.{AreMinimised, none, more, HasContents, IsDecodedAs, IsMinimised, Minimises, MinimisesContents}
use Rattle.wasm_custom_sections.specs.NamedSections.{named}
use Rattle.wasm_custom_sections.specs.declared.contents.Decoded.TheVariants as decoded
use Rattle.wasm_custom_sections.specs.formats.Names.{name_data}
use Rattle.wasm_custom_sections.specs.formats.Producers.{producers_field}
use Rattle.wasm_custom_sections.proofs.ProducerLaws.{field_is_lawful}
use Rattle.wasm_sections.proofs.ModuleSectionLaws.{list_body_is_lawful}
use Rattle.wasm_custom_sections.proofs.SubsectionLaws.{name_data_is_lawful}

-- ---- one section

same_inside : {V : Type 0} {F : Format V} (text : List ℕ) (s m : SectionParts) → Minimises text F s m → IsMinimalIn text F s → raw_section.InRange s → IsMinimalSection s → m ≡ s
same_inside {V} {F} text s m k minimal fits is =
    let has = k.has in
    let body : s.body ≡ custom_body.bytes has.custom = custom_minimal s has.custom fits is has.is_custom has.holds in
    let contents : F.bytes has.value ≡ has.custom.data_bytes = sym (minimal has) in
    k.is
    ∙ ap (λ (t : List ℕ). made 0 (custom_body.bytes (named t (F.bytes has.value)))) (sym has.contents.0)
    ∙ ap (λ (d : List ℕ). made 0 (custom_body.bytes (named has.custom.name d))) contents
    ∙ ap (made 0) (sym body)
    ∙ ap (λ (n : ℕ). made n s.body) (sym has.is_custom)
  where
    made : ℕ → List ℕ → SectionParts
    made id body = record { id = id; body = body }

stays : (s m : SectionParts) → IsMinimised s m → IsMinimalInside s → raw_section.InRange s → IsMinimalSection s → m ≡ s
stays s m (inl k) minimal fits is = same_inside (codes "name") s m k minimal.0 fits is
stays s m (inr (inl k)) minimal fits is = same_inside (codes "producers") s m k minimal.1 fits is
stays s m (inr (inr other)) minimal fits is = other.0

-- ---- all sections

all_stay : {sections minimised : List SectionParts} → AreMinimised sections minimised → AllByRecursion IsMinimalInside sections → AllByRecursion raw_section.InRange sections → AllByRecursion IsMinimalSection sections → minimised ≡ sections
all_stay none minimal fits are = refl
all_stay (more {s = s} {m = m} {sections = sections} {minimal = minimised} one rest) minimal fits are =
    ap (λ (x : SectionParts). x ∷ minimised) (stays s m one minimal.0 fits.0 are.0) ∙ ap (λ (l : List SectionParts). s ∷ l) (all_stay rest minimal.1 fits.1 are.1)

pub nothing_longer : (bytes minimised : List ℕ) (sections : List SectionParts) → EncodesSome MinimalWholeModule bytes → raw_module.Encodes bytes sections → AllByRecursion IsMinimalInside sections → MinimisesContents bytes minimised → minimised ≡ bytes
nothing_longer bytes minimised sections g h minimal m =
    let raw = raw_sections bytes g in
    let same : sections ≡ raw.sections = encodes_one Lawful-raw-module bytes sections raw.sections h raw.encodes in
    let w = m raw.sections raw.encodes in
    let fits = Lawful-raw-module.in_range bytes raw.sections raw.encodes in
    w.written ∙ ap raw_module.bytes (all_stay w.minimised (subst (AllByRecursion IsMinimalInside) same minimal) fits raw.minimal) ∙ sym raw.written

-- ---- contents that were checked

two_names : {A : Type 0} → codes "name" ≡ codes "producers" → A
two_names same = absurd (by (ap (length {A = ℕ}) same)) where
  by : ◌≡◌ {A = ℕ} 4 9 → ⊥
  by e = absurd cc

module _ (s : SectionParts) (c : CustomParts) (h : custom_body.Encodes s.body c) where
  is_that : {V : Type 0} {F : Format V} {text : List ℕ} (has : HasContents text F s) → has.custom ≡ c
  is_that has = encodes_one custom_is_lawful s.body has.custom c has.holds h

  written_in : {V : Type 0} {F : Format V} → IsLawfulBody F → (text : List ℕ) → IsWritten F c.data_bytes → IsMinimalIn text F s
  written_in {V} {F} r text w = λ has.
      let same = is_that has in
      let inside = subst (λ (x : CustomParts). F.Encodes x.data_bytes has.value) same has.contents.1 in
      ap (λ (x : CustomParts). x.data_bytes) same ∙ w.written ∙ ap F.bytes (encodes_one r c.data_bytes w.value has.value w.encodes inside)

  longer_in : {V : Type 0} {F : Format V} (text : List ℕ) → HasContents text F s → (IsWritten F c.data_bytes → ⊥) → IsLongerIn text F s
  longer_in {V} {F} text has longer =
      let same = is_that has in
      let inside = subst (λ (x : CustomParts). F.Encodes x.data_bytes has.value) same has.contents.1 in
      record { has = has; differs = λ e. longer (record { value = has.value; encodes = inside; written = sym (ap (λ (x : CustomParts). x.data_bytes) same) ∙ e }) }

  named_so : {V W : Type 0} {F : Format V} {G : Format W} {one other : List ℕ} → HasContents one F s → HasContents other G s → one ≡ other
  named_so has also = sym has.contents.0 ∙ ap (λ (x : CustomParts). x.name) (is_that has ∙ sym (is_that also)) ∙ also.contents.0

  pub names_minimal : IsDecodedAs s (Some decoded.Names) → IsWritten name_data c.data_bytes → IsMinimalInside s
  names_minimal has w = (written_in name_data_is_lawful (codes "name") w, λ also. two_names (named_so has also))

  pub producers_minimal : IsDecodedAs s (Some decoded.Producers) → IsWritten (items producers_field) c.data_bytes → IsMinimalInside s
  producers_minimal has w = ((λ also. two_names (named_so also has)), written_in (list_body_is_lawful field_is_lawful) (codes "producers") w)

  pub names_longer : IsDecodedAs s (Some decoded.Names) → (IsWritten name_data c.data_bytes → ⊥) → IsLongerInside s
  names_longer has longer = inl (longer_in (codes "name") has longer)

  pub producers_longer : IsDecodedAs s (Some decoded.Producers) → (IsWritten (items producers_field) c.data_bytes → ⊥) → IsLongerInside s
  producers_longer has longer = inr (longer_in (codes "producers") has longer)

-- contents that aren't decoded
pub none_minimal : (s : SectionParts) → IsDecodedAs s None → IsMinimalInside s
none_minimal s others = ((λ has. absurd (others.0 has)), λ has. absurd (others.1 has))

-- a section without a name
pub unnamed_minimal : (s : SectionParts) → ((c : CustomParts) → custom_body.Encodes s.body c → ⊥) → IsMinimalInside s
unnamed_minimal s unread = ((λ has. absurd (unread has.custom has.holds)), λ has. absurd (unread has.custom has.holds))

-- contents that a copy shows to be longer
pub contents_differ : (bytes copy minimal : List ℕ) → copy ≡ bytes → MinimisesContents copy minimal → (minimal ≡ bytes → ⊥) → HasLongerContents bytes
contents_differ bytes copy minimal same minimised differs = record { minimal = minimal; minimised = subst (λ (b : List ℕ). MinimisesContents b minimal) same minimised; differs = differs }

-- ---- results of checks

pub none_so : {R E P Q : Type 0} (r : Result (Option R) E) → (P → Q) → IfOk r (λ found. IfNone found P) → IfOk r (λ found. IfNone found Q)
none_so (Ok None) f h = f h
none_so (Ok (Some x)) f h = tt
none_so (Err e) f h = tt

pub some_so : {R E P Q : Type 0} (r : Result (Option R) E) → (P → Q) → IfOk r (λ found. IfSome found (λ _. P)) → IfOk r (λ found. IfSome found (λ _. Q))
some_so (Ok None) f h = tt
some_so (Ok (Some x)) f h = f h
some_so (Err e) f h = tt
