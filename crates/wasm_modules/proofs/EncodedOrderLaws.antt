-- The walk over encoded sections: what the check has noted of those before, and what the rest encodes.
use Rattle.std.proofs.Common.{◌≡◌, ◌∙◌, ℕ, ◌+◌, ◌<◌, ◌==◌, if◌then◌else◌, true, List, [], ◌∷◌, ◌++◌, length, Option, Some, None, is_some, Err, refl, sym, ap, subst, append_assoc, length-append, arith}
use Rattle.std.proofs.lemmas.List.{append-nil}
use Rattle.wasm_codec.specs.Outcomes.{IsMalformed}
use Rattle.wasm_codec.specs.Places.{Place, Reads}
use Rattle.wasm_codec.specs.declared.reader.cursor.Fault.{Fault}
use Rattle.wasm_codec.specs.declared.reader.cursor.Fault.TheVariants as faults
use Rattle.wasm_codec.specs.formats.Numbers.{EncodesU32}
use Rattle.wasm_codec.specs.formats.Combinators.{items}
use Rattle.wasm_codec.specs.formats.Grammar.{Joined}
use Rattle.wasm_code.specs.declared.code.CodeBody.{CodeBody}
use Rattle.wasm_code.specs.formats.CodeBodies.{code_body}
use Rattle.wasm_code.specs.formats.Modules.{raw_section}
use Rattle.wasm_code.specs.formats.Sections.{SectionParts}
use Rattle.wasm_code.proofs.SectionWalks.{next_section, no_section, none_left}
use Rattle.wasm_sections.specs.formats.ModuleSectionParts.{ModuleSectionParts, custom, types, imports, functions, tables, memories, globals, exports, start, elements, code, data_segments, data_count, tags}
use Rattle.wasm_modules.specs.EncodedSections.{IsSection, KnowsCode, next_body}
use Rattle.wasm_modules.specs.ModuleOrder.{code_bodies, facts_of, added, first_known, Notes, OfSections, IsWhyNot}
use Rattle.wasm_modules.specs.declared.order.ModuleError.{ModuleError}
use Rattle.wasm_modules.specs.declared.order.check.OrderCheck.{OrderCheck}
use Rattle.wasm_modules.specs.declared.order.check.SectionFacts.{SectionFacts}
use Rattle.wasm_modules.specs.declared.order.check.SectionFacts.TheVariants as told
use Rattle.wasm_modules.proofs.EncodedSectionLaws.{AreSections, all_raw}

-- ---- the body of the code section

other_section : (before : List ModuleSectionParts) (s : ModuleSectionParts) (raw : SectionParts) (known : Option ℕ) (last : List ℕ) → ((more : List ModuleSectionParts) → code_bodies (s ∷ more) ≡ code_bodies more) → KnowsCode before known last → KnowsCode (before ++ s ∷ []) known (next_body known raw.id raw.body last)
other_section before s raw None last same knows = λ more. rw (append_assoc before (s ∷ []) more) (knows (s ∷ more) ∙ same more)
other_section before s raw (Some count) last same knows = λ more. rw (append_assoc before (s ∷ []) more) (knows (s ∷ more))

code_section : (before : List ModuleSectionParts) (bs : List CodeBody) (raw : SectionParts) (known : Option ℕ) (last : List ℕ) → IsSection raw (code bs) → KnowsCode before known last → KnowsCode (before ++ code bs ∷ []) (first_known known (Some (length bs))) (next_body known raw.id raw.body last)
code_section before bs raw None last holds knows = λ more. rw (append_assoc before (code bs ∷ []) more, holds.id) (subst (λ (l : List CodeBody). (items code_body).Encodes raw.body l) (sym (knows (code bs ∷ more))) holds.content)
code_section before bs raw (Some count) last holds knows = λ more. rw (append_assoc before (code bs ∷ []) more) (knows (code bs ∷ more))

more_code : (before : List ModuleSectionParts) (check : OrderCheck) (s : ModuleSectionParts) (raw : SectionParts) (last : List ℕ) → IsSection raw s → KnowsCode before check.bodies last → KnowsCode (before ++ s ∷ []) (added (facts_of s) check).bodies (next_body check.bodies raw.id raw.body last)
more_code before check (custom c) raw last holds knows = other_section before (custom c) raw check.bodies last (λ more. refl) knows
more_code before check (types c) raw last holds knows = other_section before (types c) raw check.bodies last (λ more. refl) knows
more_code before check (imports c) raw last holds knows = other_section before (imports c) raw check.bodies last (λ more. refl) knows
more_code before check (functions c) raw last holds knows = other_section before (functions c) raw check.bodies last (λ more. refl) knows
more_code before check (tables c) raw last holds knows = other_section before (tables c) raw check.bodies last (λ more. refl) knows
more_code before check (memories c) raw last holds knows = other_section before (memories c) raw check.bodies last (λ more. refl) knows
more_code before check (globals c) raw last holds knows = other_section before (globals c) raw check.bodies last (λ more. refl) knows
more_code before check (exports c) raw last holds knows = other_section before (exports c) raw check.bodies last (λ more. refl) knows
more_code before check (start c) raw last holds knows = other_section before (start c) raw check.bodies last (λ more. refl) knows
more_code before check (elements c) raw last holds knows = other_section before (elements c) raw check.bodies last (λ more. refl) knows
more_code before check (code bs) raw last holds knows = code_section before bs raw check.bodies last holds knows
more_code before check (data_segments c) raw last holds knows = other_section before (data_segments c) raw check.bodies last (λ more. refl) knows
more_code before check (data_count c) raw last holds knows = other_section before (data_count c) raw check.bodies last (λ more. refl) knows
more_code before check (tags c) raw last holds knows = other_section before (tags c) raw check.bodies last (λ more. refl) knows

-- ---- counts

-- the number that the body begins with
abbrev pub Begins : List ℕ → ℕ → Type 0
Begins body count = (prefix rest : List ℕ) (n : ℕ) → body ≡ prefix ++ rest → EncodesU32 prefix n → count ≡ n

-- what is known of a section with this id and this number at the start of its body
abbrev pub facts_by : ℕ → ℕ → SectionFacts
facts_by id count =
    if id == 3 then told.Functions count
    else if id == 10 then told.Code count
    else if id == 11 then told.Data count
    else if id == 12 then told.DataCount count
    else told.Other id

pub told_count : (raw : SectionParts) (s : ModuleSectionParts) (count : ℕ) → IsSection raw s → Begins raw.body count → facts_by raw.id count ≡ facts_of s
told_count raw (custom c) count holds begins = rw holds.id refl
told_count raw (types c) count holds begins = rw holds.id refl
told_count raw (imports c) count holds begins = rw holds.id refl
told_count raw (functions c) count holds begins = rw holds.id (ap (λ (n : ℕ). told.Functions n) (begins holds.content.0 holds.content.1 (length c) holds.content.2 holds.content.3))
told_count raw (tables c) count holds begins = rw holds.id refl
told_count raw (memories c) count holds begins = rw holds.id refl
told_count raw (globals c) count holds begins = rw holds.id refl
told_count raw (exports c) count holds begins = rw holds.id refl
told_count raw (start c) count holds begins = rw holds.id refl
told_count raw (elements c) count holds begins = rw holds.id refl
told_count raw (code c) count holds begins = rw holds.id (ap (λ (n : ℕ). told.Code n) (begins holds.content.0 holds.content.1 (length c) holds.content.2 holds.content.3))
told_count raw (data_segments c) count holds begins = rw holds.id (ap (λ (n : ℕ). told.Data n) (begins holds.content.0 holds.content.1 (length c) holds.content.2 holds.content.3))
told_count raw (data_count c) count holds begins = rw holds.id (ap (λ (n : ℕ). told.DataCount n) (begins raw.body [] c (sym (append-nil raw.body)) holds.content))
told_count raw (tags c) count holds begins = rw holds.id refl

-- ---- the walk

-- the first of the sections were noted, and the bytes that are left encode the others
pub record Walked (sections : List ModuleSectionParts) (left : List ℕ) (index : ℕ) (check : OrderCheck) (body : List ℕ) : Type 0 where
  pub before : List ModuleSectionParts
  pub rest : List ModuleSectionParts
  pub parts : sections ≡ before ++ rest
  pub count : index ≡ length before
  pub raws : List SectionParts
  pub encodes : Joined raw_section.Encodes left raws
  pub holds : AreSections raws rest
  pub notes : Notes before check
  pub code : KnowsCode before check.bodies body

pub walked_none : (bytes body : List ℕ) (check : OrderCheck) → check.bodies ≡ None → Notes [] check → OfSections bytes (λ sections. Walked sections bytes 0 check body)
walked_none bytes body check none notes sections g =
    let all = all_raw bytes sections g in
    record { before = []; rest = sections; parts = refl; count = refl; raws = all.raws; encodes = all.encodes; holds = all.holds; notes = notes; code = rw none (λ more. refl) }

-- the next section is this one
record IsNext (left : List ℕ) (raw : SectionParts) (rest : List ModuleSectionParts) : Type 0 where
  pub section : ModuleSectionParts
  pub after : List ModuleSectionParts
  pub is : rest ≡ section ∷ after
  pub holds : IsSection raw section
  pub raws : List SectionParts
  pub encodes : Joined raw_section.Encodes left raws
  pub hold : AreSections raws after

next_is : (left : List ℕ) (raw : SectionParts) (raws : List SectionParts) (rest : List ModuleSectionParts) → AreSections (raw ∷ raws) rest → Joined raw_section.Encodes left raws → IsNext left raw rest
next_is left raw raws [] holds g = absurd holds
next_is left raw raws (s ∷ after) holds g = record { section = s; after = after; is = refl; holds = holds.0; raws = raws; encodes = g; hold = holds.1 }

-- a section was read at a place
module _ (bytes last : List ℕ) (here mid : Place) (raw : SectionParts) (index : ℕ) (check : OrderCheck) (walked : OfSections bytes (λ sections. Walked sections here.left index check last)) (some : 0 < length here.left) (read : raw_section.at here ≡ Some (raw, mid)) where
  next_of : (sections : List ModuleSectionParts) (w : Walked sections here.left index check last) → IsNext mid.left raw w.rest
  next_of sections w =
      let next = next_section here mid raw w.raws some w.encodes read in
      next_is mid.left raw next.after w.rest (subst (λ (l : List SectionParts). AreSections l w.rest) next.is w.holds) next.encodes

  pub walked_on : (now : OrderCheck) (facts : SectionFacts) → ((s : ModuleSectionParts) → IsSection raw s → facts ≡ facts_of s) → now.bodies ≡ (added facts check).bodies
      → ((seen : List ModuleSectionParts) (next : ModuleSectionParts) → facts ≡ facts_of next → Notes seen check → Notes (seen ++ next ∷ []) now)
      → OfSections bytes (λ sections. Walked sections mid.left (index + 1) now (next_body check.bodies raw.id raw.body last))
  walked_on now facts told bodies noted sections g =
      let w = walked sections g in
      let next = next_of sections w in
      let is = told next.section next.holds in
      let code = more_code w.before check next.section raw last next.holds w.code in
      record {
        before = w.before ++ next.section ∷ [];
        rest = next.after;
        parts = w.parts ∙ ap (λ (l : List ModuleSectionParts). w.before ++ l) next.is ∙ sym (append_assoc w.before (next.section ∷ []) next.after);
        count = omega (arith, w.count, length-append w.before (next.section ∷ []));
        raws = next.raws;
        encodes = next.encodes;
        holds = next.hold;
        notes = noted w.before next.section is w.notes;
        code = rw (bodies, is) code;
      }

  pub walked_wrong : (facts : SectionFacts) (error : ModuleError) → ((s : ModuleSectionParts) → IsSection raw s → facts ≡ facts_of s)
      → ((seen more : List ModuleSectionParts) (next : ModuleSectionParts) → facts ≡ facts_of next → index ≡ length seen → Notes seen check → IsWhyNot (seen ++ next ∷ more) error)
      → OfSections bytes (λ sections. IsWhyNot sections error)
  walked_wrong facts error told why sections g =
      let w = walked sections g in
      let next = next_of sections w in
      let parts : sections ≡ w.before ++ next.section ∷ next.after = w.parts ∙ ap (λ (l : List ModuleSectionParts). w.before ++ l) next.is in
      subst (λ (l : List ModuleSectionParts). IsWhyNot l error) (sym parts) (why w.before next.after next.section (told next.section next.holds) w.count w.notes)

-- bytes that encode no sections have every property
pub walked_nowhere : (bytes last : List ℕ) (here new : Place) (index : ℕ) (check : OrderCheck) (P : List ModuleSectionParts → Type 0) (fault : Fault) → OfSections bytes (λ sections. Walked sections here.left index check last) → 0 < length here.left → Reads raw_section.at here new (Err fault) → IsMalformed fault → OfSections bytes P
walked_nowhere bytes last here new index check P faults.Memory walked some none malformed sections g = absurd malformed
walked_nowhere bytes last here new index check P (faults.Malformed m) walked some none malformed sections g = let w = walked sections g in absurd (no_section here w.raws some w.encodes none)

-- all sections were noted
pub record AllNoted (sections : List ModuleSectionParts) (check : OrderCheck) (body : List ℕ) : Type 0 where
  pub notes : Notes sections check
  pub code : KnowsCode sections check.bodies body

no_more : (raws : List SectionParts) (rest : List ModuleSectionParts) → raws ≡ [] → AreSections raws rest → rest ≡ []
no_more [] [] none holds = refl
no_more [] (s ∷ rest) none holds = absurd holds
no_more (raw ∷ raws) rest none holds = absurd cc

pub walked_all : (bytes last : List ℕ) (here : Place) (index : ℕ) (check : OrderCheck) → OfSections bytes (λ sections. Walked sections here.left index check last) → here.left ≡ [] → OfSections bytes (λ sections. AllNoted sections check last)
walked_all bytes last here index check walked none sections g =
    let w = walked sections g in
    let over : w.rest ≡ [] = no_more w.raws w.rest (none_left w.raws (subst (λ (l : List ℕ). Joined raw_section.Encodes l w.raws) none w.encodes)) w.holds in
    let all : sections ≡ w.before = w.parts ∙ ap (λ (l : List ModuleSectionParts). w.before ++ l) over ∙ append-nil w.before in
    record { notes = subst (λ (l : List ModuleSectionParts). Notes l check) (sym all) w.notes; code = subst (λ (l : List ModuleSectionParts). KnowsCode l check.bodies last) (sym all) w.code }

-- the body is that of the code section
pub code_encoded : (sections : List ModuleSectionParts) (known : Option ℕ) (body : List ℕ) → KnowsCode sections known body → is_some known ≡ true → (items code_body).Encodes body (code_bodies sections)
code_encoded sections None body knows some = absurd cc
code_encoded sections (Some count) body knows some = subst (λ (l : List ModuleSectionParts). (items code_body).Encodes body (code_bodies l)) (append-nil sections) (knows [])
