-- The names of sections that keep offsets.
use Rattle.std.proofs.Common.{◌≡◌, ◌∙◌, ◌<◌, ◌⊎◌, ℕ, Bool, true, false, not, nat_eq, refl, length, inl, inr, ap, eq-eqb, lt_irrefl, sym, subst, Option, None, Some, List, [], ◌∷◌, ◌++◌}
use Rattle.std.specs.Prelude.{IfNone, IfSome, String, string_bytes}
use Rattle.std.proofs.lemmas.Bool.{eqb-true, true≢false}
use Rattle.std.specs.Global.{Global}
use Rattle.wasm_code.specs.formats.Sections.{SectionParts}
use Rattle.wasm_codec.specs.Encoding.{IsMinimalOrLonger}
use Rattle.wasm_codec.proofs.Laws.{some_is}
use Rattle.wasm_sections.specs.formats.ModuleSections.{whole_module}
use Rattle.wasm_sections.proofs.ModuleSectionLaws.{whole_module_is_lawful}
use Rattle.wasm_modules.specs.Offsets.{IsNameOf}
use Rattle.wasm_modules.specs.Selections.{IsChosen}
use Rattle.wasm_custom_sections.specs.MovedHints.{IsCodeOf, MovesHints}
use Rattle.wasm_custom_sections.specs.declared.moved_hints.HintedCode.{HintedCode}
use Rattle.wasmcanon.specs.Run.{FormIs, HasCode, HasContents, IsCanonicalForm, IsForm, IsFormWith, MovesHintsIf, TellsMoved}
use Rattle.wasmcanon.specs.declared.run.FormOptions.{FormOptions}
use Rattle.wasmcanon.specs.StaleSections.{AreOffsetNames, IsStaleName, none, named, other, KeepsNoOffsets, NamesOffsets, NamesStale}

pub more_named : {moved : Bool} {sections : List SectionParts} {names : List (String Global)} (section : SectionParts) (name : String Global) → IsNameOf section (string_bytes name) → IsStaleName moved (string_bytes name) → AreOffsetNames moved sections names → AreOffsetNames moved (sections ++ section ∷ []) (names ++ name ∷ [])
more_named section name is keeps none = named is keeps none
more_named section name is keeps (named i k all) = named i k (more_named section name is keeps all)
more_named section name is keeps (other n all) = other n (more_named section name is keeps all)

pub more_other : {moved : Bool} {sections : List SectionParts} {names : List (String Global)} (section : SectionParts) → KeepsNoOffsets moved section → AreOffsetNames moved sections names → AreOffsetNames moved (sections ++ section ∷ []) names
more_other section keeps none = other keeps none
more_other section keeps (named i k all) = named i k (more_other section keeps all)
more_other section keeps (other n all) = other n (more_other section keeps all)

-- a section has at most one name, so a name of another kind tells that it keeps no offsets
pub keeps_none : (moved : Bool) (section : SectionParts) (name : List ℕ) → IsNameOf section name → ((one two : List ℕ) → IsNameOf section one → IsNameOf section two → one ≡ two) → (IsStaleName moved name → ⊥) → KeepsNoOffsets moved section
keeps_none moved section name is one not two found keeps = not (subst (IsStaleName moved) (one two name found is) keeps)

pub if_none : {A : Type 0} (found : Option A) (P : Type 0) → P → IfNone found P
if_none None P holds = holds
if_none (Some a) P holds = tt

-- ---- what a run names

-- a canonical form as long as the input is the input
pub unmoved : (input form : List ℕ) → IsCanonicalForm input form → length form ≡ length input → form ≡ input
unmoved input form canonical same = by (whole_module_is_lawful.minimal.least input canonical.value canonical.encoded) where
  by : IsMinimalOrLonger input (whole_module.bytes canonical.value) → form ≡ input
  by (inl is) = canonical.is_minimal ∙ sym is
  by (inr shorter) = absurd (lt_irrefl (length input) (subst (λ (n : ℕ). n < length input) (sym (ap length canonical.is_minimal) ∙ same) shorter))

-- what holds of the bytes that were read holds of the input
pub of_known : (known : Option (List ℕ)) (P : List ℕ → Type 0) (bytes : List ℕ) → IfSome known (λ input. bytes ≡ input) → P bytes → IfSome known P
of_known None P bytes read holds = tt
of_known (Some input) P bytes read holds = subst P read holds

-- the code that was found, or not, in bytes that are the input
pub has_code : (input bytes : List ℕ) (code : Option HintedCode) → bytes ≡ input → IfSome code (IsCodeOf bytes) → IfNone code ((other : HintedCode) → IsCodeOf bytes other → ⊥) → HasCode input code
has_code input bytes None same is missing = subst (λ (b : List ℕ). (other : HintedCode) → IsCodeOf b other → ⊥) same missing
has_code input bytes (Some code) same is missing = subst (λ (b : List ℕ). IsCodeOf b code) same is

-- the numbers are equal, so no byte has moved
pub same_number : (a b : ℕ) → not (nat_eq a b) ≡ false → a ≡ b
same_number a b stays = by (nat_eq a b) refl stays where
  by : (t : Bool) → nat_eq a b ≡ t → not t ≡ false → a ≡ b
  by true is kept = eqb-true a b is
  by false is moved = absurd (true≢false moved)

-- lengths tell whether a canonical form differs from the input
pub tells_moved : (a b : ℕ) (input form : List ℕ) → a ≡ length form → b ≡ length input → IsCanonicalForm input form → TellsMoved (not (nat_eq a b)) input form
tells_moved a b input form long short canonical = by (nat_eq a b) refl where
  by : (t : Bool) → nat_eq a b ≡ t → TellsMoved (not t) input form
  by true is = unmoved input form canonical (sym long ∙ eqb-true a b is ∙ short)
  by false is = λ same. absurd (true≢false (sym (eq-eqb a b (long ∙ ap (length {A = ℕ}) same ∙ sym short)) ∙ is))

-- a form that hasn't moved keeps its hints
unhinted : (moved flag : Bool) (code : Option HintedCode) (encoding hinted : List ℕ) → moved ≡ false → MovesHintsIf moved flag code encoding hinted → hinted ≡ encoding
unhinted false flag code encoding hinted is moves = moves.0
unhinted true flag code encoding hinted is moves = absurd (true≢false is)

-- a form whose hints can't be moved keeps them
pub hints_stay : (moved has_moved : Bool) (code : Option HintedCode) (some : HintedCode) (encoding bytes given : List ℕ) → moved ≡ false → bytes ≡ encoding → code ≡ Some some → given ≡ encoding → ((result : List ℕ) → MovesHints some given result → ⊥) → MovesHintsIf moved has_moved code encoding bytes
hints_stay true has_moved code some encoding bytes given is same there from missing = absurd (true≢false is)
hints_stay false has_moved None some encoding bytes given is same there from missing = (same, λ e. tt)
hints_stay false has_moved (Some code) some encoding bytes given is same there from missing =
    (same, λ e result m. missing result (subst (λ (b : List ℕ). MovesHints some b result) (sym from) (subst (λ (c : HintedCode). MovesHints c encoding result) (some_is code some there) m)))

stays_input : (moved : Bool) (input form : List ℕ) → moved ≡ false → TellsMoved moved input form → form ≡ input
stays_input false input form is tells = tells
stays_input true input form is tells = absurd (true≢false is)

pub names_of : (known : Option (List ℕ)) (options : FormOptions) (hints : Bool) (code : Option HintedCode) (encoding hinted part form bytes : List ℕ) (names : List (String Global)) (moved shorter : Bool) → bytes ≡ form → IfSome known (λ input. IsCanonicalForm input encoding)
    → IfSome known (λ input. TellsMoved moved input encoding) → MovesHintsIf hints moved code encoding hinted → (moved ≡ false → hints ≡ false) → IsChosen options.sections hinted part → HasContents options.names part form → (shorter ≡ false → length form ≡ length part) → IfSome known (λ input. IsFormWith hints options input form)
    → NamesOffsets hints bytes names ⊎ ((names ≡ []) × ((moved ≡ false) × (shorter ≡ false))) → IfSome known (λ input. NamesStale options input form names)
names_of None options hints code encoding hinted part form bytes names moved shorter same canonical stays moves unmoved chosen contents as_long is told = tt
names_of (Some input) options hints code encoding hinted part form bytes names moved shorter same canonical stays moves unmoved chosen contents as_long is (inl all) = inl (record { moved = hints; is = is; all = subst (λ (b : List ℕ). NamesOffsets hints b names) same all })
names_of (Some input) options hints code encoding hinted part form bytes names moved shorter same canonical stays moves unmoved chosen contents as_long is (inr empty) =
    let at : encoding ≡ input = stays_input moved input encoding empty.1.0 stays in
    let kept : hinted ≡ input = unhinted hints moved code encoding hinted (unmoved empty.1.0) moves ∙ at in
    inr (
      empty.0,
      record {
        canonical = subst (IsCanonicalForm input) at canonical;
        part = part;
        chosen = subst (λ (b : List ℕ). IsChosen options.sections b part) kept chosen;
        contents = contents;
        as_long = as_long empty.1.1;
      },
    )

pub form_names : (known : Option (List ℕ)) (options : FormOptions) (form : List ℕ) (names : List (String Global)) → IfSome known (λ input. IsForm options input form) → IfSome known (λ input. NamesStale options input form names) → IfSome known (λ input. FormIs options input (λ bytes. NamesStale options input bytes names))
form_names None options form names is stale = tt
form_names (Some input) options form names is stale = record { bytes = form; form = is; holds = stale }
