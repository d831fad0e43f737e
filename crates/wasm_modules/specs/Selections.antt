-- Modules without the custom sections that a selection drops.
use Rattle.std.specs.Prelude.{◌≡◌, ◌≢◌, ◌⊎◌, ℕ, Bool, true, false, List, [], ◌∷◌, ◌++◌, Some}
use Rattle.wasm_codec.specs.Places.{Place, place}
use Rattle.wasm_codec.specs.Rewriter.{Rewriting}
use Rattle.wasm_codec.specs.formats.Grammar.{Joined}
use Rattle.wasm_code.specs.formats.Sections.{SectionParts}
use Rattle.wasm_code.specs.formats.Modules.{raw_module, raw_section}
use Rattle.wasm_modules.specs.Offsets.{IsOffsetName, IsNameOf}
use Rattle.wasm_modules.specs.declared.selection.Pattern.{Pattern}
use Rattle.wasm_modules.specs.declared.selection.Selection.{Selection}
use Rattle.wasm_modules.specs.declared.selection.Sections.{Sections}
use Rattle.wasm_modules.specs.declared.selection.Sections.TheVariants as choices

-- The byte `*`.
abbrev pub star : ℕ
star = 42

-- The bytes match the pattern: each `*` in it stands for any bytes, or for none, and each other byte for itself.
abbrev pub IsMatch : List ℕ → List ℕ → Type 0
IsMatch [] bytes = bytes ≡ []
IsMatch (byte ∷ pattern) bytes =
    ((byte ≡ star) × ((any : List ℕ) × ((rest : List ℕ) × ((bytes ≡ any ++ rest) × IsMatch pattern rest))))
    ⊎ ((byte ≢ star) × ((rest : List ℕ) × ((bytes ≡ byte ∷ rest) × IsMatch pattern rest)))

-- The pattern matches the name.
abbrev pub Matches : Pattern → List ℕ → Type 0
Matches pattern name = IsMatch pattern.text.now name

-- One of the patterns matches the name.
abbrev pub MatchesSome : List Pattern → List ℕ → Type 0
MatchesSome [] name = ⊥
MatchesSome (pattern ∷ patterns) name = Matches pattern name ⊎ MatchesSome patterns name

-- The selection drops custom sections of this name: a pattern or the option drops it, and no pattern keeps it.
abbrev pub IsDroppedName : Selection → List ℕ → Type 0
IsDroppedName selection name =
    (MatchesSome selection.dropped.now name ⊎ ((selection.offsets ≡ true) × IsOffsetName name))
    × (MatchesSome selection.kept.now name → ⊥)

-- The section is a custom section that the selection drops.
pub record IsDropped (selection : Selection) (section : SectionParts) : Type 0 where
  pub name : List ℕ
  pub named : IsNameOf section name
  pub chosen : IsDroppedName selection name

-- If the bytes begin with a section, the answer tells whether the selection drops it.
abbrev pub ChoosesNext : Selection → List ℕ → Bool → Type 0
ChoosesNext selection bytes dropped = (section : SectionParts) (after : Place) → raw_section.at (place true bytes) ≡ Some (section, after) →
    (dropped ≡ true → IsDropped selection section) × (dropped ≡ false → IsDropped selection section → ⊥)

-- The second list has the sections of the first that the selection doesn't drop, in their order.
pub data Without (selection : Selection) : List SectionParts → List SectionParts → Type 0 where
  none : Without selection [] []
  kept : {section : SectionParts} {sections left : List SectionParts} → (IsDropped selection section → ⊥) → Without selection sections left → Without selection (section ∷ sections) (section ∷ left)
  dropped : {section : SectionParts} {sections left : List SectionParts} → IsDropped selection section → Without selection sections left → Without selection (section ∷ sections) left

-- The bytes are the minimal encoding of the sections that the selection doesn't drop.
pub record IsSelected (selection : Selection) (sections : List SectionParts) (bytes : List ℕ) : Type 0 where
  pub left : List SectionParts
  pub chosen : Without selection sections left
  pub written : bytes ≡ raw_module.bytes left

-- The first sections of the module were written, without those that the selection drops.
pub record Selecting (selection : Selection) (sections : List SectionParts) (here : Rewriting) : Type 0 where
  pub before : List SectionParts
  pub rest : List SectionParts
  pub parts : sections ≡ before ++ rest
  pub encodes : Joined raw_section.Encodes here.place.left rest
  pub selected : IsSelected selection before here.done

-- The same of each list of sections that the bytes encode.
abbrev pub Selects : Selection → List ℕ → Rewriting → Type 0
Selects selection bytes here = (sections : List SectionParts) → raw_module.Encodes bytes sections → Selecting selection sections here

-- The bytes are the canonical form with these sections: with all, or with those that the selection doesn't drop.
abbrev pub IsChosen : Sections → List ℕ → List ℕ → Type 0
IsChosen choices.All canonical bytes = bytes ≡ canonical
IsChosen (choices.Selected selection) canonical bytes = (sections : List SectionParts) → raw_module.Encodes canonical sections → IsSelected selection sections bytes
