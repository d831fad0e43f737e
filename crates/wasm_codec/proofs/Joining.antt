-- The laws of lists with nothing between their items.
use Rattle.std.proofs.Common.{◌≡◌, ℕ, ◌<◌, ◌≤◌, List, [], ◌∷◌, ◌++◌, length, Option, Some, None, refl, sym, ap, subst, ◌∙◌, append_assoc, length-append, inl, inr, arith}
use Rattle.std.proofs.lemmas.List.{append-nil, append_cancel_left}
use Rattle.std.proofs.lemmas.Bool.{cases_lt}
use Rattle.std.specs.List.{flat_map, AllByRecursion}
use Rattle.wasm_codec.specs.formats.Grammar.{Grammar, TakesBytes, Joined}
use Rattle.wasm_codec.specs.Reading.{PlainReader, IsReadBy}
use Rattle.wasm_codec.specs.Outcomes.{IsLongestPrefix}
use Rattle.wasm_codec.specs.Encoding.{IsMinimalOrLonger}
use Rattle.wasm_codec.proofs.Laws.{least_then, one_reading}
use Rattle.wasm_codec.specs.Lawful.{WritesMinimally}

-- one more item at the end
pub Joined-more : {V : Type 0} (G : Grammar V) (bytes : List ℕ) (vs : List V) (last : List ℕ) (v : V) → Joined G bytes vs → G last v → Joined G (bytes ++ last) (vs ++ v ∷ [])
Joined-more G bytes [] last v g h = (last, [], rw g (sym (append-nil last)), h, refl)
Joined-more G bytes (w ∷ ws) last v g h =
    (g.0, g.1 ++ last, ap (λ (t : List ℕ). t ++ last) g.2 ∙ append_assoc g.0 g.1 last, g.3, Joined-more G g.1 ws last v g.4 h)

-- what a longer list of encodings has past a shorter one
pub record Longer {V : Type 0} (G : Grammar V) (a : List ℕ) (vs : List V) (b : List ℕ) (ws : List V) : Type 0 where
  pub back : List ℕ
  pub more : List V
  pub bytes : b ≡ a ++ back
  pub items : ws ≡ vs ++ more
  pub encodes : Joined G back more

-- ---- two lists of encodings that the same bytes begin with

regroup : (a f g x b f' g' y : List ℕ) → a ≡ f ++ g → b ≡ f' ++ g' → a ++ x ≡ b ++ y → f ++ (g ++ x) ≡ f' ++ (g' ++ y)
regroup a f g x b f' g' y p q e = sym (append_assoc f g x) ∙ ap (λ (t : List ℕ). t ++ x) (sym p) ∙ e ∙ ap (λ (t : List ℕ). t ++ y) q ∙ append_assoc f' g' y

shorter_rest : (a f g b f' g' : List ℕ) → a ≡ f ++ g → b ≡ f' ++ g' → f ≡ f' → length a ≤ length b → length g ≤ length g'
shorter_rest a f g b f' g' p q e le = omega (arith, length-append f g, length-append f' g', ap (length {A = ℕ}) p, ap (length {A = ℕ}) q, ap (length {A = ℕ}) e)

put_before : (a f g b f' g' back : List ℕ) → a ≡ f ++ g → b ≡ f' ++ g' → f ≡ f' → g' ≡ g ++ back → b ≡ a ++ back
put_before a f g b f' g' back p q e r = q ∙ ap (λ (t : List ℕ). t ++ g') (sym e) ∙ ap (λ (t : List ℕ). f ++ t) r ∙ sym (append_assoc f g back) ∙ ap (λ (t : List ℕ). t ++ back) (sym p)

put_item_before : {V : Type 0} (v w : V) (vs ws more : List V) → v ≡ w → ws ≡ vs ++ more → w ∷ ws ≡ (v ∷ vs) ++ more
put_item_before v w vs ws more e p = cc

pub empty_prefix : (f g : List ℕ) → f ++ g ≡ [] → f ≡ []
empty_prefix [] g e = refl
empty_prefix (c ∷ f) g e = absurd cc

empty : (a : List ℕ) → length a ≤ 0 → a ≡ []
empty [] le = refl
empty (c ∷ a) le = absurd (omega arith)

-- the longer begins with the shorter
pub Joined-split : {V : Type 0} {G : Grammar V} {read : PlainReader V} → IsReadBy G read → TakesBytes G → (a b x y : List ℕ) (vs ws : List V) → Joined G a vs → Joined G b ws → a ++ x ≡ b ++ y → length a ≤ length b → Longer G a vs b ws
Joined-split r some a b x y [] ws g h e le = record { back = b; more = ws; bytes = rw g refl; items = refl; encodes = h }
Joined-split {V} {G} r some a b x y (v ∷ vs) [] g h e le =
    let none : a ≡ [] = empty a (subst (λ (t : List ℕ). length a ≤ length t) h le) in
    absurd (some v (subst (λ (t : List ℕ). G t v) (empty_prefix g.0 g.1 (sym g.2 ∙ none)) g.3))
Joined-split {V} {G} r some a b x y (v ∷ vs) (w ∷ ws) g h e le =
    let one = one_reading r g.0 h.0 (g.1 ++ x) (h.1 ++ y) v w g.3 h.3 (regroup a g.0 g.1 x b h.0 h.1 y g.2 h.2 e) in
    let rest = Joined-split r some g.1 h.1 x y vs ws g.4 h.4 one.2 (shorter_rest a g.0 g.1 b h.0 h.1 g.2 h.2 one.0 le) in
    record {
      back = rest.back;
      more = rest.more;
      bytes = put_before a g.0 g.1 b h.0 h.1 rest.back g.2 h.2 one.0 rest.bytes;
      items = put_item_before v w vs ws rest.more one.1 rest.items;
      encodes = rest.encodes;
    }

-- if the bytes begin with more items, the next one can be read
pub next : {V : Type 0} {G : Grammar V} {read : PlainReader V} → IsReadBy G read → (back y : List ℕ) (more : List V) → Joined G back more → 0 < length back → read (back ++ y) ≡ None → ⊥
next r back y [] g some none = absurd (omega (arith, ap (length {A = ℕ}) g))
next {read = read} r back y (v ∷ more) g some none =
    let p = r.complete g.0 v (g.1 ++ y) g.3 in
    let q : back ++ y ≡ g.0 ++ (g.1 ++ y) = ap (λ (t : List ℕ). t ++ y) g.2 ∙ append_assoc g.0 g.1 y in
    absurd (clash (read (g.0 ++ (g.1 ++ y))) (v, g.1 ++ y) (sym (ap read q) ∙ none) p)
  where
    clash : {A : Type 0} (o : Option A) (x : A) → o ≡ None → o ≡ Some x → ⊥
    clash o x e f = absurd cc

-- where nothing more is read, what was read is the longest prefix
pub Joined-longest : {V : Type 0} {G : Grammar V} {read : PlainReader V} → IsReadBy G read → TakesBytes G → (bytes prefix left : List ℕ) (vs : List V) → bytes ≡ prefix ++ left → Joined G prefix vs → read left ≡ None
    → IsLongestPrefix (λ whole. (ws : List V) × Joined G whole ws) bytes (length prefix)
Joined-longest {V} {G} {read} r some bytes prefix left vs e g none = record {
  prefix = prefix;
  rest = left;
  parts = e;
  len_is = refl;
  whole = (vs, g);
  longest = λ other after p h. longest other after p h.0 h.1;
} where
  longest : (other after : List ℕ) → bytes ≡ other ++ after → (ws : List V) → Joined G other ws → length other ≤ length prefix
  longest other after p ws h = elim (cases_lt (length prefix) (length other)) [
    | inr le ↦ le
    | inl lt ↦
        let s = Joined-split r some prefix other left after vs ws g h (sym e ∙ p) (omega arith) in
        let row : prefix ++ left ≡ prefix ++ (s.back ++ after) = sym e ∙ p ∙ ap (λ (t : List ℕ). t ++ after) s.bytes ∙ append_assoc prefix s.back after in
        let rest : left ≡ s.back ++ after = append_cancel_left prefix left (s.back ++ after) row in
        let more : 0 < length s.back = omega (arith, ap (length {A = ℕ}) s.bytes, length-append prefix s.back) in
        absurd (next r s.back after s.more s.encodes more (sym (ap read rest) ∙ none))
  ]

-- ---- minimal encodings

joined_encodes : {A : Type 0} {G : Grammar A} {F : A → Type 0} {encoding : A → List ℕ} → WritesMinimally G F encoding → (vs : List A) → AllByRecursion F vs → Joined G (flat_map encoding vs) vs
joined_encodes r [] fits = refl
joined_encodes {encoding = encoding} r (v ∷ vs) fits = (encoding v, flat_map encoding vs, refl, r.encodes v fits.0, joined_encodes r vs fits.1)

joined_again : {A : Type 0} {G : Grammar A} {F : A → Type 0} {encoding : A → List ℕ} → WritesMinimally G F encoding → (bytes : List ℕ) (vs : List A) → Joined G bytes vs → Joined G (flat_map encoding vs) vs
joined_again r bytes [] g = refl
joined_again {encoding = encoding} r bytes (v ∷ vs) g = (encoding v, flat_map encoding vs, refl, r.again g.0 v g.3, joined_again r g.1 vs g.4)

joined_least : {A : Type 0} {G : Grammar A} {F : A → Type 0} {encoding : A → List ℕ} → WritesMinimally G F encoding → (bytes : List ℕ) (vs : List A) → Joined G bytes vs → IsMinimalOrLonger bytes (flat_map encoding vs)
joined_least r bytes [] g = inl g
joined_least {encoding = encoding} r bytes (v ∷ vs) g = least_then bytes g.0 g.1 (encoding v) (flat_map encoding vs) g.2 (r.least g.0 v g.3) (joined_least r g.1 vs g.4)

pub WritesMinimally-joined : {A : Type 0} {G : Grammar A} {F : A → Type 0} {encoding : A → List ℕ} → WritesMinimally G F encoding → WritesMinimally (Joined G) (AllByRecursion F) (flat_map encoding)
WritesMinimally-joined r = record { encodes = joined_encodes r; again = joined_again r; least = joined_least r }
