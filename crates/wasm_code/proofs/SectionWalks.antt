-- Sections that are read one after another.
use Rattle.std.proofs.Common.{◌≡◌, ℕ, ◌<◌, List, [], ◌∷◌, length, true, Some, None, refl, sym, ap, subst, ◌∙◌, length-append, arith}
use Rattle.wasm_codec.specs.formats.Grammar.{IsBytes, Joined}
use Rattle.wasm_codec.specs.Places.{Place, place, keeps}
use Rattle.wasm_codec.proofs.Laws.{some_is}
use Rattle.wasm_codec.proofs.PlaceLists.{step}
use Rattle.wasm_codec.proofs.Shortening.{takes_some}
use Rattle.wasm_code.specs.formats.Sections.{SectionParts}
use Rattle.wasm_code.specs.formats.Modules.{raw_section}
use Rattle.wasm_code.proofs.ModuleFormatLaws.{Lawful-raw-section, raw_section_takes}

-- the section that was read is the next
pub record IsNext (s : SectionParts) (rest : List SectionParts) (left : List ℕ) : Type 0 where
  pub after : List SectionParts
  pub is : rest ≡ s ∷ after
  pub encodes : Joined raw_section.Encodes left after

pub next_section : (here mid : Place) (s : SectionParts) (rest : List SectionParts) → 0 < length here.left → Joined raw_section.Encodes here.left rest → raw_section.at here ≡ Some (s, mid) → IsNext s rest mid.left
next_section here mid s [] some none read = absurd (omega (arith, some, ap (length {A = ℕ}) none))
next_section here mid s (v ∷ rest) some g read =
    let there = ap (λ (l : List ℕ). raw_section.at (place here.minimal l)) g.2 ∙ Lawful-raw-section.reads.complete g.0 v g.1 here.minimal g.3 in
    let same = some_is (s, mid) (v, place (keeps here.minimal g.0 (raw_section.bytes v)) g.1) (sym read ∙ there) in
    record { after = rest; is = ap (λ (x : SectionParts × Place). x.0 ∷ rest) (sym same); encodes = subst (λ (l : List ℕ). Joined raw_section.Encodes l rest) (ap (λ (x : SectionParts × Place). x.1.left) (sym same)) g.4 }

pub no_section : (here : Place) (rest : List SectionParts) → 0 < length here.left → Joined raw_section.Encodes here.left rest → raw_section.at here ≡ None → ⊥
no_section here [] some none read = absurd (omega (arith, some, ap (length {A = ℕ}) none))
no_section here (v ∷ rest) some g read =
    let there = ap (λ (l : List ℕ). raw_section.at (place here.minimal l)) g.2 ∙ Lawful-raw-section.reads.complete g.0 v g.1 here.minimal g.3 in
    clash (sym read ∙ there)
  where
    clash : {x : SectionParts × Place} → None ≡ Some x → ⊥
    clash e = absurd cc

pub section_takes : (here mid : Place) (s : SectionParts) → IsBytes here.left → raw_section.at here ≡ Some (s, mid) → length mid.left < length here.left
section_takes here mid s fits read =
    let one = step Lawful-raw-section here s mid fits read in
    omega (arith, takes_some raw_section.Encodes raw_section_takes one.prefix s one.encodes, ap (length {A = ℕ}) one.parts, length-append one.prefix mid.left)

pub none_left : (rest : List SectionParts) → Joined raw_section.Encodes [] rest → rest ≡ []
none_left [] g = refl
none_left (v ∷ rest) g = absurd (omega (arith, takes_some raw_section.Encodes raw_section_takes g.0 v g.3, ap (length {A = ℕ}) g.2, length-append g.0 g.1))

-- the next section is read there too if nothing but minimal encodings came before
pub plainly : (here : Place) (s : SectionParts) (rest after : List SectionParts) → Joined raw_section.Encodes here.left rest → rest ≡ s ∷ after → (next : Place) × (raw_section.at (place true here.left) ≡ Some (s, next))
plainly here s rest after g is = by (subst (Joined raw_section.Encodes here.left) is g) where
  by : Joined raw_section.Encodes here.left (s ∷ after) → (next : Place) × (raw_section.at (place true here.left) ≡ Some (s, next))
  by g = (place (keeps true g.0 (raw_section.bytes s)) g.1, ap (λ (l : List ℕ). raw_section.at (place true l)) g.2 ∙ Lawful-raw-section.reads.complete g.0 s g.1 true g.3)
