-- The check of sections one after another: what it notes of each, and what follows when it fails and at the end.
use Rattle.std.proofs.Common.{◌≡◌, ℕ, Bool, true, false, eqb, ◌+◌, ◌<◌, ◌≤◌, ◌⊎◌, List, [], ◌∷◌, ◌++◌, length, take, drop, get_or, map, Option, Some, None, is_some, ◌&&◌, not, All, refl, sym, ap, subst, ◌∙◌, append_assoc, length-append, inl, inr, arith}
use Rattle.std.specs.Prelude.{IfSome, IfNone, Result, Ok, Err, OnOk, IfErr}
use Rattle.std.specs.Option.{unwrap_or}
use Rattle.std.specs.Result.{result_err}
use Rattle.std.proofs.lemmas.Bool.{eqb-true}
use Rattle.std.proofs.lemmas.List.{append-nil, take-map, take-append-drop, length-take, length-map, take_all, take_at, take_more, map_push}
use Rattle.std.proofs.lemmas.List.Elements.{All-push}
use Rattle.std.proofs.Math.Seq.{take-add, drop-cons}
use Rattle.wasm_sections.specs.formats.ModuleSectionParts.{ModuleSectionParts, custom, types, imports, functions, tables, memories, globals, exports, start, elements, code, data_segments, data_count, tags}
use Rattle.wasm_modules.specs.ModuleOrder.{rank, later, AreInOrder, function_count, code_bodies, segment_count, first_data_count, facts_of, rank_of, first_known, added, Notes, NameNoData, TellsDataUse, IsModule, IsWhyNot, needs_data_use}
use Rattle.wasm_modules.specs.declared.order.ModuleError.TheVariants as errors
use Rattle.wasm_modules.specs.declared.order.check.OrderCheck.{OrderCheck}
use Rattle.wasm_modules.specs.declared.order.check.SectionFacts.{SectionFacts}
use Rattle.wasm_modules.specs.declared.order.data_uses.InstructionPlace.{InstructionPlace}

-- ---- one section

-- what a section adds to counts that may be known already
record Adds (check : OrderCheck) (s : ModuleSectionParts) : Type 0 where
  pub ranked : rank s ≡ rank_of (facts_of s)
  pub last : (added (facts_of s) check).last ≡ check.last
  pub functions : (more : List ModuleSectionParts) → unwrap_or check.functions (function_count (s ∷ more)) ≡ unwrap_or (added (facts_of s) check).functions (function_count more)
  pub bodies : (more : List ModuleSectionParts) → unwrap_or check.bodies (length (code_bodies (s ∷ more))) ≡ unwrap_or (added (facts_of s) check).bodies (length (code_bodies more))
  pub segments : (more : List ModuleSectionParts) → unwrap_or check.segments (segment_count (s ∷ more)) ≡ unwrap_or (added (facts_of s) check).segments (segment_count more)
  pub told : (more : List ModuleSectionParts) → first_known check.told (first_data_count (s ∷ more)) ≡ first_known (added (facts_of s) check).told (first_data_count more)

known_number : (first : Option ℕ) (n other : ℕ) → unwrap_or first n ≡ unwrap_or (first_known first (Some n)) other
known_number None n other = refl
known_number (Some m) n other = refl

known_told : (first : Option ℕ) (n : ℕ) (other : Option ℕ) → first_known first (Some n) ≡ first_known (first_known first (Some n)) other
known_told None n other = refl
known_told (Some m) n other = refl

adds : (check : OrderCheck) (s : ModuleSectionParts) → Adds check s
adds check (custom c) = record { ranked = refl; last = refl; functions = λ more. refl; bodies = λ more. refl; segments = λ more. refl; told = λ more. refl }
adds check (types ts) = record { ranked = refl; last = refl; functions = λ more. refl; bodies = λ more. refl; segments = λ more. refl; told = λ more. refl }
adds check (imports is) = record { ranked = refl; last = refl; functions = λ more. refl; bodies = λ more. refl; segments = λ more. refl; told = λ more. refl }
adds check (functions fs) = record { ranked = refl; last = refl; functions = λ more. known_number check.functions (length fs) (function_count more); bodies = λ more. refl; segments = λ more. refl; told = λ more. refl }
adds check (tables ts) = record { ranked = refl; last = refl; functions = λ more. refl; bodies = λ more. refl; segments = λ more. refl; told = λ more. refl }
adds check (memories ms) = record { ranked = refl; last = refl; functions = λ more. refl; bodies = λ more. refl; segments = λ more. refl; told = λ more. refl }
adds check (globals gs) = record { ranked = refl; last = refl; functions = λ more. refl; bodies = λ more. refl; segments = λ more. refl; told = λ more. refl }
adds check (exports es) = record { ranked = refl; last = refl; functions = λ more. refl; bodies = λ more. refl; segments = λ more. refl; told = λ more. refl }
adds check (start f) = record { ranked = refl; last = refl; functions = λ more. refl; bodies = λ more. refl; segments = λ more. refl; told = λ more. refl }
adds check (elements es) = record { ranked = refl; last = refl; functions = λ more. refl; bodies = λ more. refl; segments = λ more. refl; told = λ more. refl }
adds check (code bs) = record { ranked = refl; last = refl; functions = λ more. refl; bodies = λ more. known_number check.bodies (length bs) (length (code_bodies more)); segments = λ more. refl; told = λ more. refl }
adds check (data_segments ds) = record { ranked = refl; last = refl; functions = λ more. refl; bodies = λ more. refl; segments = λ more. known_number check.segments (length ds) (segment_count more); told = λ more. refl }
adds check (data_count n) = record { ranked = refl; last = refl; functions = λ more. refl; bodies = λ more. refl; segments = λ more. refl; told = λ more. known_told check.told n (first_data_count more) }
adds check (tags ts) = record { ranked = refl; last = refl; functions = λ more. refl; bodies = λ more. refl; segments = λ more. refl; told = λ more. refl }

-- ---- sections one after another

pub notes_none : (check : OrderCheck) → check.last ≡ 0 → check.functions ≡ None → check.bodies ≡ None → check.segments ≡ None → check.told ≡ None → Notes [] check
notes_none check last fs bs ds n = record {
  in_order = λ more. rw last (λ o. o, λ o. o);
  functions = λ more. rw fs refl;
  bodies = λ more. rw bs refl;
  segments = λ more. rw ds refl;
  told = λ more. rw n refl;
}

later_some : (last r : ℕ) → (r ≡ 0 → ⊥) → later last r ≡ r
later_some last r some = by (eqb r 0) refl where
  by : (t : Bool) → eqb r 0 ≡ t → later last r ≡ r
  by true is = absurd (some (eqb-true r 0 is))
  by false is = rw is refl

-- the check with this rank as the last
abbrev ranked_as : ℕ → OrderCheck → OrderCheck
ranked_as last check = record check { last = last }

module _ (seen : List ModuleSectionParts) (check : OrderCheck) (s : ModuleSectionParts) (notes : Notes seen check) where
  one_more : (more : List ModuleSectionParts) → (seen ++ s ∷ []) ++ more ≡ seen ++ s ∷ more
  one_more more = append_assoc seen (s ∷ []) more

  noted_as : (last : ℕ) → (rank s ≡ 0) ⊎ (check.last < rank s) → last ≡ later check.last (rank s) → Notes (seen ++ s ∷ []) (added (facts_of s) (ranked_as last check))
  noted_as last fits is =
      let now = ranked_as last check in
      let a = adds now s in
      record {
        in_order = λ more. rw (one_more more, a.last, is) (λ o. ((notes.in_order (s ∷ more)).0 o).1, λ o. (notes.in_order (s ∷ more)).1 (fits, o));
        functions = λ more. rw (one_more more) (notes.functions (s ∷ more) ∙ a.functions more);
        bodies = λ more. rw (one_more more) (notes.bodies (s ∷ more) ∙ a.bodies more);
        segments = λ more. rw (one_more more) (notes.segments (s ∷ more) ∙ a.segments more);
        told = λ more. rw (one_more more) (notes.told (s ∷ more) ∙ a.told more);
      }

  -- a section that isn't custom, and whose rank is the last now
  pub noted_ranked : (facts : SectionFacts) (r : ℕ) → facts ≡ facts_of s → r ≡ rank_of facts → (r ≡ 0 → ⊥) → check.last < r → Notes (seen ++ s ∷ []) (added facts (ranked_as r check))
  noted_ranked facts r told is some lt =
      let ranked : rank s ≡ r = (adds check s).ranked ∙ ap rank_of (sym told) ∙ sym is in
      rw told (noted_as r (inr (rw ranked lt)) (sym (ap (later check.last) ranked ∙ later_some check.last r some)))

  pub noted_custom : (facts : SectionFacts) (r : ℕ) → facts ≡ facts_of s → r ≡ rank_of facts → r ≡ 0 → Notes (seen ++ s ∷ []) (added facts check)
  noted_custom facts r told is none =
      let ranked : rank s ≡ 0 = (adds check s).ranked ∙ ap rank_of (sym told) ∙ sym is ∙ none in
      rw told (noted_as check.last (inl ranked) (sym (ap (later check.last) ranked)))

  pub out_of_order : (facts : SectionFacts) (r index : ℕ) (more : List ModuleSectionParts) → facts ≡ facts_of s → r ≡ rank_of facts → index ≡ length seen → (r ≡ 0 → ⊥) → r ≤ check.last → IsWhyNot (seen ++ s ∷ more) (errors.OutOfOrder index)
  out_of_order facts r index more told is at some le =
      let ranked : rank s ≡ r = (adds check s).ranked ∙ ap rank_of (sym told) ∙ sym is in
      let first : take index (seen ++ s ∷ more) ≡ seen = take_at seen (s ∷ more) index (sym at) in
      let next : take (index + 1) (seen ++ s ∷ more) ≡ seen ++ s ∷ [] = ap (take (index + 1)) (sym (one_more more)) ∙ take_at (seen ++ s ∷ []) more (index + 1) (omega (arith, at, length-append seen (s ∷ []))) in
      let so_far : AreInOrder 0 seen = subst (AreInOrder 0) (append-nil seen) ((notes.in_order []).1 tt) in
      (rw first so_far, λ o. refused ranked ((notes.in_order (s ∷ [])).0 (subst (AreInOrder 0) next o)).0)
    where
      refused : rank s ≡ r → (rank s ≡ 0) ⊎ (check.last < rank s) → ⊥
      refused ranked (inl none) = some (sym ranked ∙ none)
      refused ranked (inr lt) = absurd (omega (arith, lt, le, ranked))

-- ---- the end

no_items : {A : Type 0} (xs : List A) → length xs ≡ 0 → xs ≡ []
no_items [] none = refl
no_items (x ∷ xs) none = absurd (omega (arith, none))

module _ (sections : List ModuleSectionParts) (check : OrderCheck) (notes : Notes sections check) where
  all : sections ++ [] ≡ sections
  all = append-nil sections

  pub functions_known : function_count sections ≡ unwrap_or check.functions 0
  functions_known = ap function_count (sym all) ∙ notes.functions []

  pub bodies_known : length (code_bodies sections) ≡ unwrap_or check.bodies 0
  bodies_known = ap (λ (l : List ModuleSectionParts). length (code_bodies l)) (sym all) ∙ notes.bodies []

  pub segments_known : segment_count sections ≡ unwrap_or check.segments 0
  segments_known = ap segment_count (sym all) ∙ notes.segments []

  told_or_none : (first : Option ℕ) → first_known first None ≡ first
  told_or_none None = refl
  told_or_none (Some n) = refl

  pub told_known : first_data_count sections ≡ check.told
  told_known = ap first_data_count (sym all) ∙ notes.told [] ∙ told_or_none check.told

  pub in_order_known : AreInOrder 0 sections
  in_order_known = subst (AreInOrder 0) all ((notes.in_order []).1 tt)

  no_uses : (count : Option ℕ) (data_use : Option InstructionPlace) → IfNone count (TellsDataUse (code_bodies sections) data_use) → IfNone count (data_use ≡ None) → IfNone count (NameNoData (code_bodies sections))
  no_uses None data_use uses none = subst (λ (place : Option InstructionPlace). TellsDataUse (code_bodies sections) place) none uses
  no_uses (Some n) data_use uses none = tt

  -- the counts, and the first instruction that names data
  pub is_module : (data_use : Option InstructionPlace) → IfNone (first_data_count sections) (TellsDataUse (code_bodies sections) data_use) → unwrap_or check.functions 0 ≡ unwrap_or check.bodies 0 → IfSome check.told (λ n. n ≡ unwrap_or check.segments 0) → IfNone check.told (data_use ≡ None) → IsModule sections
  is_module data_use uses same agree none = record {
    in_order = in_order_known;
    bodies = functions_known ∙ same ∙ sym bodies_known;
    segments = rw (told_known, segments_known) agree;
    data_uses = rw told_known (no_uses check.told data_use (subst (λ (count : Option ℕ). IfNone count (TellsDataUse (code_bodies sections) data_use)) told_known uses) none);
  }

  -- the first instruction that names data, without a data count
  pub missing : (data_use : Option InstructionPlace) (place : InstructionPlace) → IfNone (first_data_count sections) (TellsDataUse (code_bodies sections) data_use) → check.told ≡ None → data_use ≡ Some place → IsWhyNot sections (errors.MissingDataCount place.body place.instruction)
  missing data_use place uses none is =
      let no_count : first_data_count sections ≡ None = told_known ∙ none in
      (no_count, subst (TellsDataUse (code_bodies sections)) is (rw no_count at uses))

  -- a data use is given
  pub given : (data_use : Option InstructionPlace) → TellsDataUse (code_bodies sections) data_use → IfNone (first_data_count sections) (TellsDataUse (code_bodies sections) data_use)
  given data_use tells = by (first_data_count sections) where
    by : (count : Option ℕ) → IfNone count (TellsDataUse (code_bodies sections) data_use)
    by None = tells
    by (Some n) = tt

  -- no data use is asked for: there is a data count, or no code
  pub not_needed : needs_data_use check ≡ false → IfNone (first_data_count sections) (TellsDataUse (code_bodies sections) None)
  not_needed needless = rw told_known (by check.told check.bodies refl needless) where
    by : (told bodies : Option ℕ) → check.bodies ≡ bodies → not (is_some told) && is_some bodies ≡ false → IfNone told (TellsDataUse (code_bodies sections) None)
    by (Some n) bodies is needless = tt
    by None None is needless = rw (no_items (code_bodies sections) (bodies_known ∙ ap (λ (k : Option ℕ). unwrap_or k 0) is)) (λ k d lt. absurd (omega (arith, lt)))
    by None (Some n) is needless = absurd cc

-- ---- what holds of all items so far

module _ {X : Type 0} (P : X → Type 0) (xs : List X) (i : ℕ) where
  -- one more item
  pub all_more : (x : X) → i < length xs → x ≡ get_or xs i x → All P (take i xs) → P x → All P (take (i + 1) xs)
  all_more x lt is before here = subst (All P) (sym (take_more xs i x lt ∙ ap (λ y. take i xs ++ y ∷ []) (sym is))) (All-push P (take i xs) x before here)

  -- all items
  pub all_items : length xs ≤ i → All P (take i xs) → All P xs
  all_items le = subst (All P) (take_all i xs le)

-- the next section of a list, as others see it
pub next_taken : {A B : Type 0} (view : A → B) (xs : List A) (i : ℕ) (x : A) → i < length xs → x ≡ get_or xs i x → take (i + 1) (map view xs) ≡ take i (map view xs) ++ view x ∷ []
next_taken view xs i x lt is =
    take-map view (i + 1) xs
    ∙ ap (map view) (take-add i 1 xs ∙ ap (λ l. take i xs ++ take 1 l) (drop-cons xs i x lt) ∙ ap (λ y. take i xs ++ y ∷ []) (sym is))
    ∙ map_push view (take i xs) x
    ∙ ap (λ l. l ++ view x ∷ []) (sym (take-map view i xs))

pub all_taken : {A B : Type 0} (view : A → B) (xs : List A) (i : ℕ) → length xs ≤ i → take i (map view xs) ≡ map view xs
all_taken view xs i le = take-map view i xs ∙ ap (map view) (take_all i xs le)

pub taken_apart : {A B : Type 0} (view : A → B) (xs : List A) (i : ℕ) (x : A) → i < length xs → x ≡ get_or xs i x → map view xs ≡ take i (map view xs) ++ view x ∷ drop (i + 1) (map view xs)
taken_apart view xs i x lt is =
    sym (take-append-drop (i + 1) (map view xs))
    ∙ ap (λ l. l ++ drop (i + 1) (map view xs)) (next_taken view xs i x lt is)
    ∙ append_assoc (take i (map view xs)) (view x ∷ []) (drop (i + 1) (map view xs))

pub taken_length : {A B : Type 0} (view : A → B) (xs : List A) (i : ℕ) → i ≤ length xs → i ≡ length (take i (map view xs))
taken_length view xs i le = omega (arith, length-take i (map view xs), length-map xs view)

-- ---- results

pub code_needed : (check : OrderCheck) → needs_data_use check ≡ true → is_some check.bodies ≡ true
code_needed check needed = by (not (is_some check.told)) needed where
  by : (a : Bool) → a && is_some check.bodies ≡ true → is_some check.bodies ≡ true
  by true is = is
  by false is = absurd cc

-- the error of a result
pub no_error : {A B P Q : Type 0} (result : Result A B) → OnOk result P → (P → Q) → IfNone (result_err result) Q
no_error (Ok a) p follows = follows p
no_error (Err b) p follows = tt

pub some_error : {A B : Type 0} {P Q : B → Type 0} (result : Result A B) → IfErr result P → ((b : B) → P b → Q b) → IfSome (result_err result) Q
some_error (Ok a) p follows = tt
some_error (Err b) p follows = follows b p

pub on_ok : {A B P Q : Type 0} (result : Result A B) → OnOk result P → (P → Q) → OnOk result Q
on_ok (Ok a) p follows = follows p
on_ok (Err b) p follows = tt

pub if_err : {A B : Type 0} {P Q : B → Type 0} (result : Result A B) → IfErr result P → ((b : B) → P b → Q b) → IfErr result Q
if_err (Ok a) p follows = tt
if_err (Err b) p follows = follows b p
