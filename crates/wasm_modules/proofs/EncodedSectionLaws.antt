-- Encoded sections with their content are sections with their bodies as bytes, and each body holds the content.
use Rattle.std.proofs.Common.{◌≡◌, ◌∙◌, ℕ, ◌==◌, eqb, Bool, true, false, List, [], ◌∷◌, ◌++◌, Some, None, refl, sym, ap, subst}
use Rattle.std.proofs.lemmas.Bool.{eqb-true}
use Rattle.std.proofs.lemmas.List.{append-nil}
use Rattle.wasm_codec.specs.Places.{Place, place, byte_at, map_at, keeps}
use Rattle.wasm_codec.specs.formats.Bodies.{sized}
use Rattle.wasm_codec.specs.formats.Combinators.{Format}
use Rattle.wasm_codec.specs.formats.Grammar.{IsBytes, Joined}
use Rattle.wasm_codec.proofs.BodyLaws.{Lawful-sized}
use Rattle.wasm_codec.proofs.Laws.{bind_some, some_is, IsBytes-back}
use Rattle.wasm_code.specs.formats.Modules.{raw_section}
use Rattle.wasm_code.specs.formats.Sections.{SectionParts}
use Rattle.wasm_sections.specs.formats.ModuleSectionParts.{ModuleSectionParts, section_id}
use Rattle.wasm_sections.specs.formats.ModuleSections.{module_section}
use Rattle.wasm_sections.proofs.ModuleSectionLaws.{IsKind, module_section_is_lawful, module_section_takes, custom_kind, types_kind, imports_kind, functions_kind, tables_kind, memories_kind, globals_kind, exports_kind, start_kind, elements_kind, code_kind, data_segments_kind, data_count_kind, tags_kind}
use Rattle.wasm_modules.specs.EncodedSections.{IsContent, IsSection}

-- ---- one section

-- the bytes encode a section with its body as bytes, which has this content
pub record HasRaw (bytes : List ℕ) (s : ModuleSectionParts) : Type 0 where
  pub raw : SectionParts
  pub encodes : raw_section.Encodes bytes raw
  pub holds : IsSection raw s

first_byte : (id : ℕ) (tail : List ℕ) → byte_at (place true (id ∷ tail)) ≡ Some (id, place true tail)
unfolding byte_at
first_byte id tail = refl

-- what is read of the bytes of a section
whole_read : (bytes : List ℕ) (s : ModuleSectionParts) → module_section.Encodes bytes s → module_section.at (place true bytes) ≡ Some (s, place (keeps true bytes (module_section.bytes s)) [])
whole_read bytes s g = ap (λ (b : List ℕ). module_section.at (place true b)) (sym (append-nil bytes)) ∙ module_section_is_lawful.reads.complete bytes s [] true g

of_kind : {V : Type 0} {id : ℕ} {make : V → ModuleSectionParts} {F : Format V} → IsKind id make F → ((v : V) (body : List ℕ) → F.Encodes body v → IsContent body (make v)) → ((v : V) → section_id (make v) ≡ id)
    → (bytes tail : List ℕ) (s : ModuleSectionParts) {first : ℕ} → bytes ≡ first ∷ tail → first ≡ id → module_section.Encodes bytes s → HasRaw bytes s
unfolding raw_section
of_kind {V} {id} {make} {F} kind content ids bytes tail s parts is g =
    let end = place (keeps true bytes (module_section.bytes s)) [] in
    let here : bytes ≡ id ∷ tail = parts ∙ ap (λ (n : ℕ). n ∷ tail) is in
    let fits : IsBytes tail = (subst IsBytes here (module_section_is_lawful.are_bytes bytes s g)).1 in
    let read : map_at make (sized F).at (place true tail) ≡ Some (s, end) = sym (kind.at_is (place true (id ∷ tail)) (place true tail) (first_byte id tail)) ∙ ap (λ (b : List ℕ). module_section.at (place true b)) (sym here) ∙ whole_read bytes s g in
    let inside = bind_some ((sized F).at (place true tail)) (λ a. Some (make a.0, a.1)) (s, end) read in
    let same = some_is (make inside.0.0, inside.0.1) (s, end) inside.2 in
    let made : make inside.0.0 ≡ s = ap (λ (x : ModuleSectionParts × Place). x.0) same in
    let none : inside.0.1.left ≡ [] = ap (λ (x : ModuleSectionParts × Place). x.1.left) same in
    let one = (Lawful-sized kind.law).reads.sound (place true tail) inside.0.0 inside.0.1 fits inside.1 in
    let all : tail ≡ one.encodes.0 ++ one.encodes.1 = one.parts ∙ ap (λ (l : List ℕ). one.prefix ++ l) none ∙ append-nil one.prefix ∙ one.encodes.2 in
    let body = one.encodes.1 in
    record {
      raw = record { id = id; body = body };
      encodes = ((id, body), (id ∷ [], tail, here, (refl, kind.small), (one.encodes.0, body, all, one.encodes.3, (refl, IsBytes-back one.encodes.0 body (subst IsBytes all fits)))), refl);
      holds = record { id = sym (ids inside.0.0) ∙ ap section_id made; content = subst (IsContent body) made (content inside.0.0 body one.encodes.4) };
    }

nothing_at : (tail : List ℕ) (first : ℕ) → (first == 0) ≡ false → (first == 1) ≡ false → (first == 2) ≡ false → (first == 3) ≡ false → (first == 4) ≡ false → (first == 5) ≡ false → (first == 6) ≡ false → (first == 7) ≡ false → (first == 8) ≡ false → (first == 9) ≡ false → (first == 10) ≡ false → (first == 11) ≡ false → (first == 12) ≡ false → (first == 13) ≡ false → module_section.at (place true (first ∷ tail)) ≡ None
unfolding module_section byte_at
nothing_at tail first no0 no1 no2 no3 no4 no5 no6 no7 no8 no9 no10 no11 no12 no13 = rw (no0, no1, no2, no3, no4, no5, no6, no7, no8, no9, no10, no11, no12, no13) refl

none_is_some : {A : Type 0} {x : A} → None ≡ Some x → ⊥
none_is_some e = absurd cc

-- a section begins with the byte of a kind
no_kind : (bytes tail : List ℕ) (s : ModuleSectionParts) (first : ℕ) → bytes ≡ first ∷ tail → module_section.Encodes bytes s → (first == 0) ≡ false → (first == 1) ≡ false → (first == 2) ≡ false → (first == 3) ≡ false → (first == 4) ≡ false → (first == 5) ≡ false → (first == 6) ≡ false → (first == 7) ≡ false → (first == 8) ≡ false → (first == 9) ≡ false → (first == 10) ≡ false → (first == 11) ≡ false → (first == 12) ≡ false → (first == 13) ≡ false → HasRaw bytes s
no_kind bytes tail s first parts g no0 no1 no2 no3 no4 no5 no6 no7 no8 no9 no10 no11 no12 no13 =
    absurd (none_is_some (sym (nothing_at tail first no0 no1 no2 no3 no4 no5 no6 no7 no8 no9 no10 no11 no12 no13) ∙ ap (λ (b : List ℕ). module_section.at (place true b)) (sym parts) ∙ whole_read bytes s g))

pub one_raw : (bytes : List ℕ) (s : ModuleSectionParts) → module_section.Encodes bytes s → HasRaw bytes s
one_raw bytes s g = by bytes refl where
  first_is : {P : Type 0} (first n : ℕ) → ((first ≡ n) → P) → ((first == n) ≡ false → P) → P
  first_is {P = P} first n at other = decide (eqb first n) refl where
    decide : (t : Bool) → eqb first n ≡ t → P
    decide true is = at (eqb-true first n is)
    decide false is = other is

  begins : (first : ℕ) (tail : List ℕ) → bytes ≡ first ∷ tail → HasRaw bytes s
  begins first tail parts =
      first_is first 0 (λ is. of_kind custom_kind (λ v body g. tt) (λ v. refl) bytes tail s parts is g) (λ no0.
      first_is first 1 (λ is. of_kind types_kind (λ v body g. tt) (λ v. refl) bytes tail s parts is g) (λ no1.
      first_is first 2 (λ is. of_kind imports_kind (λ v body g. tt) (λ v. refl) bytes tail s parts is g) (λ no2.
      first_is first 3 (λ is. of_kind functions_kind (λ v body g. g) (λ v. refl) bytes tail s parts is g) (λ no3.
      first_is first 4 (λ is. of_kind tables_kind (λ v body g. tt) (λ v. refl) bytes tail s parts is g) (λ no4.
      first_is first 5 (λ is. of_kind memories_kind (λ v body g. tt) (λ v. refl) bytes tail s parts is g) (λ no5.
      first_is first 6 (λ is. of_kind globals_kind (λ v body g. tt) (λ v. refl) bytes tail s parts is g) (λ no6.
      first_is first 7 (λ is. of_kind exports_kind (λ v body g. tt) (λ v. refl) bytes tail s parts is g) (λ no7.
      first_is first 8 (λ is. of_kind start_kind (λ v body g. tt) (λ v. refl) bytes tail s parts is g) (λ no8.
      first_is first 9 (λ is. of_kind elements_kind (λ v body g. tt) (λ v. refl) bytes tail s parts is g) (λ no9.
      first_is first 10 (λ is. of_kind code_kind (λ v body g. g) (λ v. refl) bytes tail s parts is g) (λ no10.
      first_is first 11 (λ is. of_kind data_segments_kind (λ v body g. g) (λ v. refl) bytes tail s parts is g) (λ no11.
      first_is first 12 (λ is. of_kind data_count_kind (λ v body g. g) (λ v. refl) bytes tail s parts is g) (λ no12.
      first_is first 13 (λ is. of_kind tags_kind (λ v body g. tt) (λ v. refl) bytes tail s parts is g) (λ no13.
      no_kind bytes tail s first parts g no0 no1 no2 no3 no4 no5 no6 no7 no8 no9 no10 no11 no12 no13))))))))))))))

  by : (l : List ℕ) → bytes ≡ l → HasRaw bytes s
  by [] is = absurd (module_section_takes s (subst (λ (b : List ℕ). module_section.Encodes b s) is g))
  by (first ∷ tail) parts = begins first tail parts

-- ---- all sections

-- each section has the content beside it
abbrev pub AreSections : List SectionParts → List ModuleSectionParts → Type 0
AreSections [] [] = Unit {0}
AreSections [] (s ∷ sections) = ⊥
AreSections (raw ∷ raws) [] = ⊥
AreSections (raw ∷ raws) (s ∷ sections) = IsSection raw s × AreSections raws sections

-- the bytes encode sections with their bodies as bytes, which have this content
pub record HaveRaw (bytes : List ℕ) (sections : List ModuleSectionParts) : Type 0 where
  pub raws : List SectionParts
  pub encodes : Joined raw_section.Encodes bytes raws
  pub holds : AreSections raws sections

pub all_raw : (bytes : List ℕ) (sections : List ModuleSectionParts) → Joined module_section.Encodes bytes sections → HaveRaw bytes sections
all_raw bytes [] g = record { raws = []; encodes = g; holds = tt }
all_raw bytes (s ∷ sections) g =
    let one = one_raw g.0 s g.3 in
    let more = all_raw g.1 sections g.4 in
    record { raws = one.raw ∷ more.raws; encodes = (g.0, g.1, g.2, one.encodes, more.encodes); holds = (one.holds, more.holds) }
