-- The laws of reading where minimal encodings alone may be asked for.
use Rattle.std.proofs.Common.{◌≡◌, ℕ, Bool, true, false, not, nat_eq, List, [], ◌∷◌, ◌++◌, length, ◌↔◌, refl, sym, ap, ◌∙◌, length-append, inl, inr, arith}
use Rattle.std.proofs.lemmas.List.{append_cancel_left}
use Rattle.std.specs.List.{flat_map}
use Rattle.wasm_codec.specs.formats.Grammar.{Joined}
use Rattle.wasm_codec.specs.Encoding.{IsMinimalOrLonger}
use Rattle.wasm_codec.specs.Lists.{ListMinimalIf}
use Rattle.wasm_codec.specs.formats.Combinators.{Format, u32, items, minimal_only, minimal_if}
use Rattle.wasm_codec.specs.Lawful.{IsLawful}
use Rattle.wasm_codec.proofs.Joining.{WritesMinimally-joined}
use Rattle.wasm_codec.proofs.FormatLaws.{Lawful-u32, not_longer}
use Rattle.wasm_codec.proofs.PlaceLists.{Lawful-minimal_only}

-- a parameter of the code that is true or false
abbrev pub flag : ℕ → Bool
flag n = not (nat_eq n 0)

pub Lawful-minimal_if : {A : Type 0} {F : Format A} (strict : Bool) → IsLawful F → IsLawful (minimal_if strict F)
Lawful-minimal_if true r = Lawful-minimal_only r
Lawful-minimal_if false r = r

-- ---- the minimal encoding of a list is those of its items

both_least : (prefix back t u : List ℕ) → IsMinimalOrLonger prefix t → IsMinimalOrLonger back u → prefix ++ back ≡ t ++ u → (prefix ≡ t) × (back ≡ u)
both_least prefix back t u (inl p) least e = (p, append_cancel_left t back u (sym (ap (λ (f : List ℕ). f ++ back) p) ∙ e))
both_least prefix back t u (inr longer) least e =
    let le = not_longer back u least in
    absurd (omega (arith, ap (length {A = ℕ}) e, length-append prefix back, length-append t u))

pub joined_minimal_only : {A : Type 0} {F : Format A} → IsLawful F → (bytes : List ℕ) (vs : List A) → Joined (minimal_only F).Encodes bytes vs ↔ (Joined F.Encodes bytes vs × (bytes ≡ flat_map F.bytes vs))
joined_minimal_only {A} {F} r bytes vs = (λ g. (wide bytes vs g, same bytes vs g), λ g. each bytes vs g.0 g.1) where
  wide : (bytes : List ℕ) (vs : List A) → Joined (minimal_only F).Encodes bytes vs → Joined F.Encodes bytes vs
  wide bytes [] g = g
  wide bytes (v ∷ vs) g = (g.0, g.1, g.2, g.3.0, wide g.1 vs g.4)

  same : (bytes : List ℕ) (vs : List A) → Joined (minimal_only F).Encodes bytes vs → bytes ≡ flat_map F.bytes vs
  same bytes [] g = g
  same bytes (v ∷ vs) g = rw (g.2, g.3.1, same g.1 vs g.4) refl

  each : (bytes : List ℕ) (vs : List A) → Joined F.Encodes bytes vs → bytes ≡ flat_map F.bytes vs → Joined (minimal_only F).Encodes bytes vs
  each bytes [] g e = g
  each bytes (v ∷ vs) g e =
      let b = both_least g.0 g.1 (F.bytes v) (flat_map F.bytes vs) (r.minimal.least g.0 v g.3) ((WritesMinimally-joined r.minimal).least g.1 vs g.4) (sym g.2 ∙ e) in
      (g.0, g.1, g.2, (g.3, b.0), each g.1 vs g.4 b.1)

pub list_minimal_only : {A : Type 0} {F : Format A} → IsLawful F → (bytes : List ℕ) (vs : List A) → ListMinimalIf true F bytes vs ↔ (minimal_only (items F)).Encodes bytes vs
list_minimal_only {A} {F} r bytes vs = (λ g. all g, λ g. each g) where
  all : ListMinimalIf true F bytes vs → (minimal_only (items F)).Encodes bytes vs
  all g =
      let j = (joined_minimal_only r g.1 vs).0 g.4 in
      ((g.0, g.1, g.2, g.3.0, j.0), rw (g.2, g.3.1, j.1) refl)

  each : (minimal_only (items F)).Encodes bytes vs → ListMinimalIf true F bytes vs
  each g =
      let h = g.0 in
      let b = both_least h.0 h.1 (u32.bytes (length vs)) (flat_map F.bytes vs) (Lawful-u32.minimal.least h.0 (length vs) h.3) ((WritesMinimally-joined r.minimal).least h.1 vs h.4) (sym h.2 ∙ g.1) in
      (h.0, h.1, h.2, (h.3, b.0), (joined_minimal_only r h.1 vs).1 (h.4, b.1))
