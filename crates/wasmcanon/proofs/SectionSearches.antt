-- The walk over sections that looks for some of them by their names.
use Rattle.std.proofs.Common.{◌≡◌, ◌∙◌, ℕ, ◌<◌, List, [], ◌∷◌, ◌++◌, length, Option, Some, None, Err, refl, sym, ap, subst, append_assoc}
use Rattle.std.specs.Prelude.{IfSome}
use Rattle.std.proofs.lemmas.List.{append-nil}
use Rattle.wasm_codec.specs.Outcomes.{IsMalformed}
use Rattle.wasm_codec.specs.Places.{Place, Reads}
use Rattle.wasm_codec.specs.declared.reader.cursor.Fault.{Fault}
use Rattle.wasm_codec.specs.declared.reader.cursor.Fault.TheVariants as faults
use Rattle.wasm_codec.specs.formats.Grammar.{Joined}
use Rattle.wasm_code.specs.formats.Modules.{raw_section}
use Rattle.wasm_code.specs.formats.Sections.{SectionParts}
use Rattle.wasm_code.proofs.SectionWalks.{next_section, no_section, none_left}
use Rattle.wasm_modules.specs.Offsets.{IsNameOf, IsObjectName}
use Rattle.wasmcanon.specs.Run.{FormIs, IsForm}
use Rattle.wasmcanon.specs.declared.run.FormOptions.{FormOptions}
use Rattle.wasmcanon.specs.Objects.{IsObjectSection, HasNoObject, HasObject, OfRawSections}

-- ---- one section

-- a section has at most one name, so a name of another kind tells that it is none
pub not_object : (section : SectionParts) (name : List ℕ) → IsNameOf section name → ((one other : List ℕ) → IsNameOf section one → IsNameOf section other → one ≡ other) → (IsObjectName name → ⊥) → IsObjectSection section → ⊥
not_object section name named one other is = other (subst IsObjectName (one is.name name is.named named) is.tells)

-- ---- the walk

-- the first of the sections were read, and the property holds of them
pub record Searched (P : List SectionParts → Type 0) (sections : List SectionParts) (left : List ℕ) : Type 0 where
  pub before : List SectionParts
  pub rest : List SectionParts
  pub parts : sections ≡ before ++ rest
  pub encodes : Joined raw_section.Encodes left rest
  pub so_far : P before

pub searched_none : {P : List SectionParts → Type 0} (bytes : List ℕ) → P [] → OfRawSections bytes (λ sections. Searched P sections bytes)
searched_none bytes nothing sections g = record { before = []; rest = sections; parts = refl; encodes = g; so_far = nothing }

pub none_more : (before : List SectionParts) (s : SectionParts) → HasNoObject before → (IsObjectSection s → ⊥) → HasNoObject (before ++ s ∷ [])
none_more [] s none other = (other, tt)
none_more (t ∷ before) s none other = (none.0, none_more before s none.1 other)

module _ {P : List SectionParts → Type 0} (bytes : List ℕ) (here mid : Place) (s : SectionParts) (searched : OfRawSections bytes (λ sections. Searched P sections here.left)) (some : 0 < length here.left) (read : raw_section.at here ≡ Some (s, mid)) where
  pub searched_on : {Q : List SectionParts → Type 0} → ((before : List SectionParts) → P before → Q (before ++ s ∷ [])) → OfRawSections bytes (λ sections. Searched Q sections mid.left)
  searched_on more sections g =
      let w = searched sections g in
      let next = next_section here mid s w.rest some w.encodes read in
      record {
        before = w.before ++ s ∷ [];
        rest = next.after;
        parts = w.parts ∙ ap (λ (l : List SectionParts). w.before ++ l) next.is ∙ sym (append_assoc w.before (s ∷ []) next.after);
        encodes = next.encodes;
        so_far = more w.before w.so_far;
      }

  pub object_found : IsObjectSection s → OfRawSections bytes HasObject
  object_found is sections g =
      let w = searched sections g in
      let next = next_section here mid s w.rest some w.encodes read in
      record { before = w.before; section = s; after = next.after; parts = w.parts ∙ ap (λ (l : List SectionParts). w.before ++ l) next.is; tells = is }

pub searched_all : {P : List SectionParts → Type 0} (bytes : List ℕ) (here : Place) → OfRawSections bytes (λ sections. Searched P sections here.left) → here.left ≡ [] → OfRawSections bytes P
searched_all {P} bytes here searched none sections g =
    let w = searched sections g in
    let rest : w.rest ≡ [] = none_left w.rest (subst (λ (l : List ℕ). Joined raw_section.Encodes l w.rest) none w.encodes) in
    subst P (sym (w.parts ∙ ap (λ (l : List SectionParts). w.before ++ l) rest ∙ append-nil w.before)) w.so_far

-- bytes that encode no sections have every property
pub searched_nowhere : {P : List SectionParts → Type 0} (bytes : List ℕ) (here new : Place) (Q : List SectionParts → Type 0) (fault : Fault) → OfRawSections bytes (λ sections. Searched P sections here.left) → 0 < length here.left → Reads raw_section.at here new (Err fault) → IsMalformed fault → OfRawSections bytes Q
searched_nowhere bytes here new Q faults.Memory searched some none malformed sections g = absurd malformed
searched_nowhere bytes here new Q (faults.Malformed m) searched some none malformed sections g = let w = searched sections g in absurd (no_section here w.rest some w.encodes none)

-- ---- forms

-- what holds of the form of an input that is known
pub form_is : (known : Option (List ℕ)) (options : FormOptions) (bytes : List ℕ) (P : List ℕ → Type 0) → IfSome known (λ input. IsForm options input bytes) → P bytes → IfSome known (λ input. FormIs options input P)
form_is None options bytes P form holds = tt
form_is (Some input) options bytes P form holds = record { bytes = bytes; form = form; holds = holds }
