-- The laws of modules without the sections that a selection drops.
use Rattle.std.specs.Borrow.{GName}
use Rattle.std.proofs.Common.{◌≡◌, ◌∙◌, ℕ, ◌+◌, ◌-◌, ◌<◌, ◌≤◌, Bool, true, false, List, [], ◌∷◌, ◌++◌, length, take, drop, Some, Result, Ok, Err, is_err, refl, sym, ap, ap₂, subst, append_assoc, length-append, arith}
use Rattle.std.specs.List.{AllByRecursion}
use Rattle.std.proofs.lemmas.List.{flat_map_more, append-nil, take_at, drop_at, drop_all}
use Rattle.wasm_codec.specs.formats.Grammar.{IsBytes, Joined}
use Rattle.wasm_codec.specs.Outcomes.{EncodesSome}
use Rattle.wasm_codec.specs.Places.{place}
use Rattle.wasm_codec.specs.Rewriter.{rest_of, Rewriting, rewriting, rewriting_after, Rewrites, skipped, without}
use Rattle.wasm_codec.specs.declared.reader.cursor.Fault.{Fault}
use Rattle.wasm_codec.specs.declared.reader.cursor.Fault.TheVariants as faults
use Rattle.wasm_codec.proofs.RewriterLaws.{is_after}
use Rattle.wasm_code.proofs.SectionWalks.{next_section, no_section, none_left, plainly, section_takes}
use Rattle.wasm_code.specs.formats.Sections.{SectionParts, header}
use Rattle.wasm_code.specs.formats.Modules.{raw_module, raw_section}
use Rattle.wasm_sections.specs.formats.ModuleSections.{IsMinimalSection, KeepsMinimal, MinimalWholeModule}
use Rattle.wasm_sections.proofs.RawSections.{raw_sections, whole_again}
use Rattle.wasm_modules.specs.Offsets.{IsNameOf}
use Rattle.wasm_modules.specs.Selections.{IsDroppedName, IsDropped, ChoosesNext, Without, none, kept, dropped, IsSelected, Selecting, Selects}
use Rattle.wasm_modules.specs.declared.selection.Selection.{Selection}

-- ---- sections one after the other

-- a section of one name, which the selection doesn't drop, isn't dropped
pub not_dropped : (selection : Selection) (section : SectionParts) (name : List ℕ) (r : Bool) → IsNameOf section name → ((one other : List ℕ) → IsNameOf section one → IsNameOf section other → one ≡ other) → (r ≡ false → IsDroppedName selection name → ⊥) → r ≡ false → IsDropped selection section → ⊥
not_dropped selection section name r named one other e = λ k. other e (subst (IsDroppedName selection) (one k.name name k.named named) k.chosen)

more_kept : {selection : Selection} {sections left : List SectionParts} (s : SectionParts) → Without selection sections left → (IsDropped selection s → ⊥) → Without selection (sections ++ s ∷ []) (left ++ s ∷ [])
more_kept s none n = kept n none
more_kept s (kept m w) n = kept m (more_kept s w n)
more_kept s (dropped k w) n = dropped k (more_kept s w n)

more_dropped : {selection : Selection} {sections left : List SectionParts} (s : SectionParts) → Without selection sections left → IsDropped selection s → Without selection (sections ++ s ∷ []) left
more_dropped s none k = dropped k none
more_dropped s (kept m w) k = kept m (more_dropped s w k)
more_dropped s (dropped j w) k = dropped j (more_dropped s w k)

-- a section that isn't dropped was written too
one_written : (selection : Selection) (sections next : List SectionParts) (s : SectionParts) (old new : List ℕ) → next ≡ sections ++ s ∷ [] → IsSelected selection sections old → (IsDropped selection s → ⊥) → new ≡ old ++ raw_section.bytes s → IsSelected selection next new
one_written selection sections next s old new is w n e = record {
  left = w.left ++ s ∷ [];
  chosen = subst (λ (l : List SectionParts). Without selection l (w.left ++ s ∷ [])) (sym is) (more_kept s w.chosen n);
  written = e ∙ ap (λ (t : List ℕ). t ++ raw_section.bytes s) w.written ∙ flat_map_more raw_section.bytes header w.left s;
}

-- a section that is dropped was left out
one_left_out : (selection : Selection) (sections next : List SectionParts) (s : SectionParts) (bytes : List ℕ) → next ≡ sections ++ s ∷ [] → IsSelected selection sections bytes → IsDropped selection s → IsSelected selection next bytes
one_left_out selection sections next s bytes is w k = record {
  left = w.left;
  chosen = subst (λ (l : List SectionParts). Without selection l w.left) (sym is) (more_dropped s w.chosen k);
  written = w.written;
}

-- ---- in place

pub selecting_none : (selection : Selection) (bytes rest : List ℕ) (new here : Rewriting) → bytes ≡ header ++ rest → {name : GName} → new ≡ rewriting [] (place true bytes) (rest_of [] name) → here ≡ skipped 8 new → Selects selection bytes here
selecting_none selection bytes rest new here found {name} new-is here-is sections g =
    let is : here ≡ skipped 8 (rewriting [] (place true bytes) (rest_of [] name)) = here-is ∙ ap (skipped 8) new-is in
    let done : here.done ≡ header = ap (λ (r : Rewriting). r.done) is ∙ ap (take 8) found ∙ take_at header rest 8 refl in
    let left : here.place.left ≡ g.0 = ap (λ (r : Rewriting). r.place.left) is ∙ ap (drop 8) g.1 ∙ drop_at header g.0 8 refl in
    record {
      before = [];
      rest = sections;
      parts = refl;
      encodes = subst (λ (l : List ℕ). Joined raw_section.Encodes l sections) (sym left) g.2;
      selected = record { left = []; chosen = none; written = done ∙ sym (append-nil header) };
    }

pub is_rewritten : (here next : Rewriting) (r : Result (Unit {0}) Fault) → Rewrites raw_section here next r → is_err r ≡ false → rewriting_after raw_section here ≡ Some next
is_rewritten here next (Ok done) rewrites ok = rewrites
is_rewritten here next (Err fault) rewrites ok = absurd cc

pub rewritten_fewer : (here next : Rewriting) → IsBytes here.place.left → rewriting_after raw_section here ≡ Some next → length next.place.left < length here.place.left
rewritten_fewer here next fits rewritten =
    let one = is_after raw_section here next rewritten in
    section_takes here.place next.place one.value fits one.given.is_read

-- a section was rewritten
module _ (selection : Selection) (bytes : List ℕ) (here next : Rewriting) (dropped : Bool) (so_far : Selects selection bytes here) (some : 0 < length here.place.left) (chooses : ChoosesNext selection here.place.left dropped) (rewritten : rewriting_after raw_section here ≡ Some next) where
  record IsPassed (sections : List SectionParts) : Type 0 where
    pub section : SectionParts
    pub now : Selecting selection sections here
    pub after : List SectionParts
    pub parts : sections ≡ (now.before ++ section ∷ []) ++ after
    pub encodes : Joined raw_section.Encodes next.place.left after
    pub written : next.done ≡ here.done ++ raw_section.bytes section
    pub drops : dropped ≡ true → IsDropped selection section
    pub keeps : dropped ≡ false → IsDropped selection section → ⊥

  passed : (sections : List SectionParts) → raw_module.Encodes bytes sections → IsPassed sections
  passed sections g =
      let now = so_far sections g in
      let one = is_after raw_section here next rewritten in
      let head = next_section here.place next.place one.value now.rest some now.encodes one.given.is_read in
      let plain = plainly here.place one.value now.rest head.after now.encodes head.is in
      let told = chooses one.value plain.0 plain.1 in
      record {
        section = one.value;
        now = now;
        after = head.after;
        parts = now.parts ∙ ap (λ (l : List SectionParts). now.before ++ l) head.is ∙ sym (append_assoc now.before (one.value ∷ []) head.after);
        encodes = head.encodes;
        written = one.given.written;
        drops = told.0;
        keeps = told.1;
      }

  pub selecting_kept : dropped ≡ false → Selects selection bytes next
  selecting_kept is sections g =
      let p = passed sections g in
      record {
        before = p.now.before ++ p.section ∷ [];
        rest = p.after;
        parts = p.parts;
        encodes = p.encodes;
        selected = one_written selection p.now.before (p.now.before ++ p.section ∷ []) p.section here.done next.done refl p.now.selected (p.keeps is) p.written;
      }

  pub selecting_dropped : (mark count : ℕ) (last : Rewriting) → mark ≡ length here.done → count ≡ length next.done - mark → last ≡ without mark count next → dropped ≡ true → Selects selection bytes last
  selecting_dropped mark count last mark-is count-is last-is is sections g =
      let p = passed sections g in
      let first : take mark next.done ≡ here.done = ap (take mark) p.written ∙ take_at here.done (raw_section.bytes p.section) mark (sym mark-is) in
      let rest : drop (mark + count) next.done ≡ [] = drop_all (mark + count) next.done (omega (arith, count-is)) in
      let done : last.done ≡ here.done = ap (λ (r : Rewriting). r.done) last-is ∙ ap₂ (λ (a b : List ℕ). a ++ b) first rest ∙ append-nil here.done in
      record {
        before = p.now.before ++ p.section ∷ [];
        rest = p.after;
        parts = p.parts;
        encodes = subst (λ (l : List ℕ). Joined raw_section.Encodes l p.after) (sym (ap (λ (r : Rewriting). r.place.left) last-is)) p.encodes;
        selected = rw done (one_left_out selection p.now.before (p.now.before ++ p.section ∷ []) p.section here.done refl p.now.selected (p.drops is));
      }

  -- what is written lies behind the mark
  pub marked_within : (mark : ℕ) → mark ≡ length here.done → mark ≤ length next.done
  marked_within mark mark-is =
      let one = is_after raw_section here next rewritten in
      omega (arith, mark-is, ap (length {A = ℕ}) one.given.written, length-append here.done (raw_section.bytes one.value))

-- all were
pub selected_all : (selection : Selection) (bytes : List ℕ) (here : Rewriting) → Selects selection bytes here → here.place.left ≡ [] → (sections : List SectionParts) → raw_module.Encodes bytes sections → IsSelected selection sections here.done
selected_all selection bytes here so_far none-left sections g =
    let now = so_far sections g in
    let rest : now.rest ≡ [] = none_left now.rest (subst (λ (l : List ℕ). Joined raw_section.Encodes l now.rest) none-left now.encodes) in
    subst (λ (l : List SectionParts). IsSelected selection l here.done) (sym (now.parts ∙ ap (λ (l : List SectionParts). now.before ++ l) rest ∙ append-nil now.before)) now.selected

-- bytes that encode no sections have none
pub selected_nowhere : (selection : Selection) (bytes : List ℕ) (here new : Rewriting) (r : Result (Unit {0}) Fault) (P : List SectionParts → Type 0) → Selects selection bytes here → 0 < length here.place.left → Rewrites raw_section here new r → is_err r ≡ true → (sections : List SectionParts) → raw_module.Encodes bytes sections → P sections
selected_nowhere selection bytes here new (Ok done) P so_far some rewrites err sections g = absurd cc
selected_nowhere selection bytes here new (Err faults.Memory) P so_far some rewrites err sections g = absurd rewrites
selected_nowhere selection bytes here new (Err (faults.Malformed m)) P so_far some rewrites err sections g = absurd (no_section here.place (so_far sections g).rest some (so_far sections g).encodes rewrites)

-- ---- minimally encoded modules

kept_all : {selection : Selection} {sections left : List SectionParts} (P : SectionParts → Type 0) → Without selection sections left → AllByRecursion P sections → AllByRecursion P left
kept_all P none all = tt
kept_all P (kept m w) all = (all.0, kept_all P w all.1)
kept_all P (dropped k w) all = kept_all P w all.1

-- a minimally encoded module stays one without some of its sections
pub minimal_left : (selection : Selection) (bytes result : List ℕ) → ((sections : List SectionParts) → raw_module.Encodes bytes sections → IsSelected selection sections result) → KeepsMinimal bytes result
minimal_left selection bytes result selected g =
    let raw = raw_sections bytes g in
    let w = selected raw.sections raw.encodes in
    subst (EncodesSome MinimalWholeModule) (sym w.written) (whole_again w.left (kept_all IsMinimalSection w.chosen raw.minimal))
