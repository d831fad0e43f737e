-- The walk over the sections of a module up to the first whose contents aren't minimally encoded.
use Rattle.std.proofs.Common.{◌≡◌, ◌∙◌, ℕ, ◌+◌, ◌<◌, List, [], ◌∷◌, ◌++◌, length, take, drop, Some, Err, refl, sym, ap, subst, append_assoc, length-append, arith}
use Rattle.std.specs.List.{AllByRecursion}
use Rattle.std.proofs.lemmas.List.{take_at, drop_at, append-nil}
use Rattle.wasm_codec.specs.Outcomes.{EncodesSome, IsMalformed}
use Rattle.wasm_codec.specs.Places.{Place, Reads}
use Rattle.wasm_codec.specs.declared.reader.cursor.Fault.{Fault}
use Rattle.wasm_codec.specs.declared.reader.cursor.Fault.TheVariants as faults
use Rattle.wasm_codec.specs.formats.Grammar.{IsBytes, Joined}
use Rattle.wasm_codec.proofs.Joining.{Joined-more}
use Rattle.wasm_codec.proofs.PlaceLists.{step}
use Rattle.wasm_code.specs.formats.Modules.{raw_module, raw_section}
use Rattle.wasm_code.specs.formats.Sections.{SectionParts, header}
use Rattle.wasm_code.proofs.ModuleFormatLaws.{Lawful-raw-section}
use Rattle.wasm_code.proofs.SectionWalks.{next_section, no_section, none_left}
use Rattle.wasm_sections.specs.formats.ModuleSections.{MinimalWholeModule}
use Rattle.wasm_sections.proofs.RawSections.{raw_sections}
use Rattle.wasm_custom_sections.specs.LongerContents.{HasLongerContents, IsFirstLonger, IsLongerInside, IsMinimalInside}
use Rattle.wasm_custom_sections.proofs.LongerLaws.{nothing_longer}

-- the sections go on after these, and the bytes left encode the others
pub record GoesOn (before : List SectionParts) (left : List ℕ) (all : List SectionParts) : Type 0 where
  pub rest : List SectionParts
  pub parts : all ≡ before ++ rest
  pub encodes : Joined raw_section.Encodes left rest

-- the first of the sections have minimally encoded contents, and these bytes are left
pub record Walked (bytes left : List ℕ) : Type 0 where
  pub front : List ℕ
  pub before : List SectionParts
  pub parts : bytes ≡ front ++ left
  pub encodes : Joined raw_section.Encodes front before
  pub minimal : AllByRecursion IsMinimalInside before
  pub goes_on : (all : List SectionParts) → Joined raw_section.Encodes bytes all → GoesOn before left all

one_more : (before : List SectionParts) (s : SectionParts) → AllByRecursion IsMinimalInside before → IsMinimalInside s → AllByRecursion IsMinimalInside (before ++ s ∷ [])
one_more [] s all one = (one, tt)
one_more (t ∷ before) s all one = (all.0, one_more before s all.1 one)

pub walked_none : (bytes : List ℕ) → Walked bytes bytes
walked_none bytes = record { front = []; before = []; parts = refl; encodes = refl; minimal = tt; goes_on = λ all g. record { rest = all; parts = refl; encodes = g } }

module _ (bytes : List ℕ) (here mid : Place) (s : SectionParts) (fits : IsBytes here.left) (some : 0 < length here.left) (w : Walked bytes here.left) (read : raw_section.at here ≡ Some (s, mid)) where
  pub walked_on : IsMinimalInside s → Walked bytes mid.left
  walked_on minimal =
      let one = step Lawful-raw-section here s mid fits read in
      record {
        front = w.front ++ one.prefix;
        before = w.before ++ s ∷ [];
        parts = w.parts ∙ ap (λ (l : List ℕ). w.front ++ l) one.parts ∙ sym (append_assoc w.front one.prefix mid.left);
        encodes = Joined-more raw_section.Encodes w.front w.before one.prefix s w.encodes one.encodes;
        minimal = one_more w.before s w.minimal minimal;
        goes_on = λ all g.
            let now = w.goes_on all g in
            let next = next_section here mid s now.rest some now.encodes read in
            record {
              rest = next.after;
              parts = now.parts ∙ ap (λ (l : List SectionParts). w.before ++ l) next.is ∙ sym (append_assoc w.before (s ∷ []) next.after);
              encodes = next.encodes;
            };
      }

  pub first_there : (at : ℕ) → at + length here.left ≡ length bytes → IsLongerInside s → IsFirstLonger (header ++ bytes) (at + 8)
  first_there at at_is longer =
      let one = step Lawful-raw-section here s mid fits read in
      let passed = header ++ w.front in
      let whole : header ++ bytes ≡ passed ++ here.left = ap (λ (l : List ℕ). header ++ l) w.parts ∙ sym (append_assoc header w.front here.left) in
      let front : at ≡ length w.front = omega (arith, at_is, ap (length {A = ℕ}) w.parts, length-append w.front here.left) in
      let ends : at + 8 ≡ length passed = omega (arith, front, length-append header w.front) in
      let taken : take (at + 8) (header ++ bytes) ≡ passed = ap (take (at + 8)) whole ∙ take_at passed here.left (at + 8) (sym ends) in
      let left : drop (at + 8) (header ++ bytes) ≡ here.left = ap (drop (at + 8)) whole ∙ drop_at passed here.left (at + 8) (sym ends) in
      record {
        before = w.before;
        section = s;
        rest = mid.left;
        prefix = subst (λ (l : List ℕ). raw_module.Encodes l w.before) (sym taken) (w.front, refl, w.encodes);
        minimal = w.minimal;
        next = record { prefix = one.prefix; encodes = one.encodes; parts = left ∙ one.parts };
        longer = longer;
      }

-- all sections were passed
pub walked_all : (bytes left : List ℕ) → Walked bytes left → left ≡ [] → (all : List SectionParts) → Joined raw_section.Encodes bytes all → AllByRecursion IsMinimalInside all
walked_all bytes left w none all g =
    let now = w.goes_on all g in
    let rest : now.rest ≡ [] = none_left now.rest (subst (λ (l : List ℕ). Joined raw_section.Encodes l now.rest) none now.encodes) in
    subst (AllByRecursion IsMinimalInside) (sym (now.parts ∙ ap (λ (l : List SectionParts). w.before ++ l) rest ∙ append-nil w.before)) w.minimal

-- the next section is malformed, so the bytes encode no sections
pub walked_nowhere : (bytes : List ℕ) (here new : Place) (fault : Fault) → Walked bytes here.left → 0 < length here.left → Reads raw_section.at here new (Err fault) → IsMalformed fault → (all : List SectionParts) → Joined raw_section.Encodes bytes all → AllByRecursion IsMinimalInside all
walked_nowhere bytes here new faults.Memory w some unread malformed all g = absurd malformed
walked_nowhere bytes here new (faults.Malformed m) w some unread malformed all g = let now = w.goes_on all g in absurd (no_section here now.rest some now.encodes unread)

-- ---- minimally encoded modules

module _ (bytes : List ℕ) (minimal : EncodesSome MinimalWholeModule bytes) where
  -- one in which no contents are longer has no longer contents
  pub none_longer : (sections : List ℕ) → bytes ≡ header ++ sections → ((all : List SectionParts) → Joined raw_section.Encodes sections all → AllByRecursion IsMinimalInside all) → HasLongerContents bytes → {A : Type 0} → A
  none_longer sections found all longer =
      let raw = raw_sections bytes minimal in
      let after : raw.encodes.0 ≡ sections = sym (drop_at header raw.encodes.0 8 refl) ∙ ap (drop 8) (sym raw.encodes.1 ∙ found) ∙ drop_at header sections 8 refl in
      let each = all raw.sections (subst (λ (l : List ℕ). Joined raw_section.Encodes l raw.sections) after raw.encodes.2) in
      absurd (longer.differs (nothing_longer bytes longer.minimal raw.sections minimal raw.encodes each longer.minimised))

  -- one has a header
  pub has_header : ((rest : List ℕ) → bytes ≡ header ++ rest → ⊥) → {A : Type 0} → A
  has_header missing =
      let raw = raw_sections bytes minimal in
      absurd (missing raw.encodes.0 raw.encodes.1)
