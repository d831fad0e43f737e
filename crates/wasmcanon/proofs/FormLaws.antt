-- An input has one form with options.
use Rattle.std.proofs.Common.{◌≡◌, ◌∙◌, ◌⊎◌, ℕ, Bool, true, false, List, [], ◌∷◌, length, inl, inr, refl, sym, ap, subst}
use Rattle.std.specs.List.{AllByRecursion}
use Rattle.std.specs.Prelude.{codes}
use Rattle.wasm_codec.specs.Lawful.{IsLawfulBody}
use Rattle.wasm_codec.specs.Outcomes.{EncodesSome}
use Rattle.wasm_codec.specs.formats.Combinators.{Format}
use Rattle.wasm_codec.proofs.BodyLaws.{encodes_one}
use Rattle.wasm_code.specs.formats.Modules.{raw_module, raw_section}
use Rattle.wasm_code.specs.formats.Sections.{SectionParts, section_of}
use Rattle.wasm_code.proofs.ModuleFormatLaws.{Lawful-raw-module}
use Rattle.wasm_sections.specs.formats.EntryParts.{CustomParts}
use Rattle.wasm_sections.specs.formats.ModuleSections.{whole_module}
use Rattle.wasm_sections.specs.formats.Sections.{custom_body}
use Rattle.wasm_sections.proofs.CustomLaws.{custom_is_lawful}
use Rattle.wasm_sections.proofs.ModuleSectionLaws.{list_body_is_lawful, whole_module_is_lawful}
use Rattle.wasm_sections.proofs.RawSections.{normal_minimal, raw_sections}
use Rattle.wasm_modules.specs.Selections.{IsChosen, IsDropped, Without}
use Rattle.wasm_modules.specs.Selections as selections
use Rattle.wasm_modules.specs.declared.selection.Sections.{Sections}
use Rattle.wasm_modules.specs.declared.selection.Sections.TheVariants as choices
use Rattle.wasm_modules.specs.declared.selection.Selection.{Selection}
use Rattle.wasm_custom_sections.specs.MinimalContents.{AreMinimised, HasContents as HasDecoded, IsMinimised, Minimises}
use Rattle.wasm_custom_sections.specs.MinimalContents as contents
use Rattle.wasm_custom_sections.specs.NamedSections.{named}
use Rattle.wasm_custom_sections.proofs.MovedModuleLaws.{code_one, moves_in_one_way, same_moves}
use Rattle.wasm_custom_sections.proofs.ProducerLaws.{field_is_lawful}
use Rattle.wasm_custom_sections.proofs.SubsectionLaws.{name_data_is_lawful}
use Rattle.wasmcanon.specs.Run.{HasContents, HasHints, HasOneForm, IsCanonicalForm, IsForm}
use Rattle.wasmcanon.specs.declared.run.FormOptions.{FormOptions}

-- ---- moved hints

hints_one : (m n : Bool) (input encoding a b : List ℕ) → HasHints m input encoding a → HasHints n input encoding b → a ≡ b
hints_one false false input encoding a b x y = x.0 ∙ sym y.0
hints_one false true input encoding a b (is, inl stays) y = absurd (y.0 stays)
hints_one false true input encoding a b (is, inr missing) y = absurd (missing b y.1)
hints_one true false input encoding a b x (is, inl stays) = absurd (x.0 stays)
hints_one true false input encoding a b x (is, inr missing) = absurd (missing a x.1)
hints_one true true input encoding a b x y =
    let other = same_moves y.1.code x.1.code encoding b (code_one input y.1.code x.1.code y.1.is_code x.1.is_code) y.1.moves in
    (moves_in_one_way x.1.code encoding).one a b x.1.moves other

hinted_encodes : (m : Bool) (input encoding hinted : List ℕ) → IsCanonicalForm input encoding → HasHints m input encoding hinted → EncodesSome raw_module.Encodes hinted
hinted_encodes false input encoding hinted canonical hints =
    let raw = raw_sections encoding (normal_minimal input encoding canonical) in
    (raw.sections, subst (λ (b : List ℕ). raw_module.Encodes b raw.sections) (sym hints.0) raw.encodes)
hinted_encodes true input encoding hinted canonical hints = (hints.1.moves.moved, hints.1.moves.is_module)

-- ---- chosen sections

-- the first section was kept
record Kept (selection : Selection) (section : SectionParts) (sections left : List SectionParts) : Type 0 where
  pub rest : List SectionParts
  pub are : left ≡ section ∷ rest
  pub stays : IsDropped selection section → ⊥
  pub chosen : Without selection sections rest

-- the first section was kept or dropped
next_chosen : {selection : Selection} {section : SectionParts} {sections left : List SectionParts} → Without selection (section ∷ sections) left → Kept selection section sections left ⊎ (IsDropped selection section × Without selection sections left)
next_chosen (selections.kept {left = left} stays rest) = inl (record { rest = left; are = refl; stays = stays; chosen = rest })
next_chosen (selections.dropped is rest) = inr (is, rest)

none_chosen : {selection : Selection} {left : List SectionParts} → Without selection [] left → left ≡ []
none_chosen selections.none = refl

same_chosen : {selection : Selection} {s : SectionParts} {sections a b : List SectionParts} → ((p q : List SectionParts) → Without selection sections p → Without selection sections q → p ≡ q)
    → Kept selection s sections a ⊎ (IsDropped selection s × Without selection sections a) → Kept selection s sections b ⊎ (IsDropped selection s × Without selection sections b) → a ≡ b
same_chosen {s = s} same (inl p) (inl q) = p.are ∙ ap (λ (l : List SectionParts). s ∷ l) (same p.rest q.rest p.chosen q.chosen) ∙ sym q.are
same_chosen same (inl p) (inr q) = absurd (p.stays q.0)
same_chosen same (inr p) (inl q) = absurd (q.stays p.0)
same_chosen {a = a} {b = b} same (inr p) (inr q) = same a b p.1 q.1

without_one : (selection : Selection) (sections a b : List SectionParts) → Without selection sections a → Without selection sections b → a ≡ b
without_one selection [] a b x y = none_chosen x ∙ sym (none_chosen y)
without_one selection (s ∷ sections) a b x y = same_chosen (λ p q v w. without_one selection sections p q v w) (next_chosen x) (next_chosen y)

without_fits : {selection : Selection} {sections left : List SectionParts} → Without selection sections left → AllByRecursion raw_section.InRange sections → AllByRecursion raw_section.InRange left
without_fits selections.none fits = tt
without_fits (selections.kept stays rest) fits = (fits.0, without_fits rest fits.1)
without_fits (selections.dropped is rest) fits = without_fits rest fits.1

chosen_one : (choice : Sections) (canonical a b : List ℕ) (sections : List SectionParts) → raw_module.Encodes canonical sections → IsChosen choice canonical a → IsChosen choice canonical b → a ≡ b
chosen_one choices.All canonical a b sections g x y = x ∙ sym y
chosen_one (choices.Selected selection) canonical a b sections g x y =
    let p = x sections g in
    let q = y sections g in
    p.written ∙ ap raw_module.bytes (without_one selection sections p.left q.left p.chosen q.chosen) ∙ sym q.written

chosen_encodes : (choice : Sections) (canonical part : List ℕ) (sections : List SectionParts) → raw_module.Encodes canonical sections → IsChosen choice canonical part → EncodesSome raw_module.Encodes part
chosen_encodes choices.All canonical part sections g chosen = (sections, subst (λ (b : List ℕ). raw_module.Encodes b sections) (sym chosen) g)
chosen_encodes (choices.Selected selection) canonical part sections g chosen =
    let p = chosen sections g in
    let fits = without_fits p.chosen (Lawful-raw-module.in_range canonical sections g) in
    (p.left, subst (λ (b : List ℕ). raw_module.Encodes b p.left) (sym p.written) (Lawful-raw-module.minimal.encodes p.left fits))

-- ---- minimal contents

two_names : {A : Type 0} → codes "name" ≡ codes "producers" → A
two_names same = absurd (by (ap (length {A = ℕ}) same)) where
  by : ◌≡◌ {A = ℕ} 4 9 → ⊥
  by e = absurd cc

module _ (s : SectionParts) where
  same_name : {V W : Type 0} {F : Format V} {G : Format W} {text other : List ℕ} (a : HasDecoded text F s) (b : HasDecoded other G s) → text ≡ other
  same_name a b = sym a.contents.0 ∙ ap (λ (c : CustomParts). c.name) (encodes_one custom_is_lawful s.body a.custom b.custom a.holds b.holds) ∙ b.contents.0

  minimises_one : {V : Type 0} {F : Format V} → IsLawfulBody F → (text : List ℕ) (m n : SectionParts) → Minimises text F s m → Minimises text F s n → m ≡ n
  minimises_one {V} {F} r text m n a b =
      let same = encodes_one custom_is_lawful s.body a.has.custom b.has.custom a.has.holds b.has.holds in
      let value : a.has.value ≡ b.has.value = encodes_one r b.has.custom.data_bytes a.has.value b.has.value (subst (λ (c : CustomParts). F.Encodes c.data_bytes a.has.value) same a.has.contents.1) b.has.contents.1 in
      a.is ∙ ap (λ (v : V). section_of (0, custom_body.bytes (named text (F.bytes v)))) value ∙ sym b.is

  minimised_one : (m n : SectionParts) → IsMinimised s m → IsMinimised s n → m ≡ n
  minimised_one m n (inl a) (inl b) = minimises_one name_data_is_lawful (codes "name") m n a b
  minimised_one m n (inl a) (inr (inl b)) = two_names (same_name a.has b.has)
  minimised_one m n (inl a) (inr (inr b)) = absurd (b.1 a.has)
  minimised_one m n (inr (inl a)) (inl b) = two_names (same_name b.has a.has)
  minimised_one m n (inr (inl a)) (inr (inl b)) = minimises_one (list_body_is_lawful field_is_lawful) (codes "producers") m n a b
  minimised_one m n (inr (inl a)) (inr (inr b)) = absurd (b.2 a.has)
  minimised_one m n (inr (inr a)) (inl b) = absurd (a.1 b.has)
  minimised_one m n (inr (inr a)) (inr (inl b)) = absurd (a.2 b.has)
  minimised_one m n (inr (inr a)) (inr (inr b)) = a.0 ∙ sym b.0

-- the first section, minimised, and the others
record Minimised (section : SectionParts) (sections minimal : List SectionParts) : Type 0 where
  pub first : SectionParts
  pub rest : List SectionParts
  pub are : minimal ≡ first ∷ rest
  pub one : IsMinimised section first
  pub others : AreMinimised sections rest

first_minimised : {section : SectionParts} {sections minimal : List SectionParts} → AreMinimised (section ∷ sections) minimal → Minimised section sections minimal
first_minimised (contents.more {m = m} {minimal = minimal} one others) = record { first = m; rest = minimal; are = refl; one = one; others = others }

none_minimised : {minimal : List SectionParts} → AreMinimised [] minimal → minimal ≡ []
none_minimised contents.none = refl

all_minimised_one : (sections a b : List SectionParts) → AreMinimised sections a → AreMinimised sections b → a ≡ b
all_minimised_one [] a b x y = none_minimised x ∙ sym (none_minimised y)
all_minimised_one (s ∷ sections) a b x y =
    let p = first_minimised x in
    let q = first_minimised y in
    p.are ∙ ap (λ (t : SectionParts). t ∷ p.rest) (minimised_one s p.first q.first p.one q.one) ∙ ap (λ (l : List SectionParts). q.first ∷ l) (all_minimised_one sections p.rest q.rest p.others q.others) ∙ sym q.are

contents_one : (names : Bool) (part a b : List ℕ) (sections : List SectionParts) → raw_module.Encodes part sections → HasContents names part a → HasContents names part b → a ≡ b
contents_one false part a b sections g x y = x ∙ sym y
contents_one true part a b sections g x y =
    let p = x sections g in
    let q = y sections g in
    p.written ∙ ap raw_module.bytes (all_minimised_one sections p.minimal q.minimal p.minimised q.minimised) ∙ sym q.written

-- ---- forms

form_one : (options : FormOptions) (input a b : List ℕ) → IsForm options input a → IsForm options input b → a ≡ b
form_one options input a b x y =
    let f = x.form in
    let g = y.form in
    let value = encodes_one whole_module_is_lawful input g.canonical.value f.canonical.value g.canonical.encoded f.canonical.encoded in
    let same : g.encoding ≡ f.encoding = g.canonical.is_minimal ∙ ap whole_module.bytes value ∙ sym f.canonical.is_minimal in
    let hints = subst (λ (e : List ℕ). HasHints y.moved input e g.hinted) same g.hints in
    let hinted : g.hinted ≡ f.hinted = hints_one y.moved x.moved input f.encoding g.hinted f.hinted hints f.hints in
    let there = hinted_encodes x.moved input f.encoding f.hinted f.canonical f.hints in
    let chosen = subst (λ (h : List ℕ). IsChosen options.sections h g.part) hinted g.chosen in
    let part : g.part ≡ f.part = chosen_one options.sections f.hinted g.part f.part there.0 there.1 chosen f.chosen in
    let inside = chosen_encodes options.sections f.hinted f.part there.0 there.1 f.chosen in
    contents_one options.names f.part a b inside.0 inside.1 f.contents (subst (λ (p : List ℕ). HasContents options.names p b) part g.contents)

pub has_one_form : (options : FormOptions) → HasOneForm options
has_one_form options = record { one = form_one options }
