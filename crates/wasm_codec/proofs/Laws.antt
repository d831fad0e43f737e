-- The laws of grammars, and how each way to put encodings together keeps them.
use Rattle.std.proofs.Common.{◌≡◌, ℕ, ◌<◌, List, [], ◌∷◌, ◌++◌, Option, Some, None, refl, sym, ap, subst, ◌∙◌, append_assoc, length-append, inl, inr, arith}
use Rattle.std.proofs.lemmas.List.{append_cancel_right}
use Rattle.wasm_codec.specs.formats.Grammar.{Grammar, IsBytes, AByte, Then, Mapped, Nothing, Never}
use Rattle.wasm_codec.specs.Encoding.{IsMinimalOrLonger}
use Rattle.wasm_codec.specs.Lawful.{WritesMinimally}
use Rattle.wasm_codec.specs.Reading.{PlainReader, BeginsWith, IsReadBy, ◌>>=◌}

-- ---- options

pub bind_some : {A B : Type 0} (r : Option A) (f : A → Option B) (y : B) → (r >>= f) ≡ Some y → (x : A) × (r ≡ Some x) × (f x ≡ Some y)
bind_some (Some x) f y e = (x, refl, e)
bind_some None f y e = absurd cc

pub bind_is : {A B : Type 0} (r : Option A) (f : A → Option B) (x : A) (y : Option B) → r ≡ Some x → f x ≡ y → (r >>= f) ≡ y
bind_is r f x y p q = rw p q

abbrev pub some : {A : Type 0} → A → Option A
some x = Some x

pub some_is : {A : Type 0} (x y : A) → some x ≡ some y → x ≡ y
some_is x y e = cc

-- ---- bytes

pub IsBytes-back : (prefix back : List ℕ) → IsBytes (prefix ++ back) → IsBytes back
IsBytes-back [] back bytes = bytes
IsBytes-back (b ∷ prefix) back bytes = IsBytes-back prefix back bytes.1

pub IsBytes-after : {A : Type 0} {G : Grammar A} (bytes rest : List ℕ) (a : A) → BeginsWith G bytes a rest → IsBytes bytes → IsBytes rest
IsBytes-after bytes rest a one fits = IsBytes-back one.prefix rest (rw one.parts at fits)

-- two prefixes in a row
pub in_a_row : (bytes a middle b rest : List ℕ) → bytes ≡ a ++ middle → middle ≡ b ++ rest → bytes ≡ (a ++ b) ++ rest
in_a_row bytes a middle b rest p q = p ∙ ap (λ (t : List ℕ). a ++ t) q ∙ sym (append_assoc a b rest)

-- reading two prefixes in a row
pub read_in_row : {V : Type 0} (read : PlainReader V) (bytes a b rest : List ℕ) (v : V) → bytes ≡ a ++ b → read (a ++ (b ++ rest)) ≡ Some (v, b ++ rest) → read (bytes ++ rest) ≡ Some (v, b ++ rest)
read_in_row read bytes a b rest v e p = ap (λ (t : List ℕ). read (t ++ rest)) e ∙ ap read (append_assoc a b rest) ∙ p

-- ---- once and for all: no encoding is a proper prefix of another, and bytes encode at most one value

pub one_reading : {V : Type 0} {G : Grammar V} {read : PlainReader V} → IsReadBy G read → (a b x y : List ℕ) (v w : V) → G a v → G b w → a ++ x ≡ b ++ y → (a ≡ b) × (v ≡ w) × (x ≡ y)
one_reading {V} {G} {read} r a b x y v w g h e =
    let p : read (a ++ x) ≡ Some (v, x) = r.complete a v x g in
    let q : read (b ++ y) ≡ Some (w, y) = r.complete b w y h in
    let s : some (v, x) ≡ some (w, y) = sym p ∙ ap read e ∙ q in
    let t : (v, x) ≡ (w, y) = some_is (v, x) (w, y) s in
    let same : x ≡ y = ap (λ (p : V × List ℕ). p.1) t in
    (append_cancel_right a b x (e ∙ ap (λ (t : List ℕ). b ++ t) (sym same)), ap (λ (p : V × List ℕ). p.0) t, same)

-- ---- IsReadBy

-- the bytes begin with the value that the reading function returned
pub BeginsWith-is : {V : Type 0} (G : Grammar V) (bytes : List ℕ) (a v : V) (after rest : List ℕ) → some {A = V × List ℕ} (a, after) ≡ some (v, rest) → BeginsWith G bytes a after → BeginsWith G bytes v rest
BeginsWith-is {V} G bytes a v after rest e h = subst (λ (x : V × List ℕ). BeginsWith G bytes x.0 x.1) (some_is (a, after) (v, rest) e) h

-- ---- Minimal

-- two minimal encodings in a row are the minimal of both
pub least_then : (bytes prefix back x y : List ℕ) → bytes ≡ prefix ++ back → IsMinimalOrLonger prefix x → IsMinimalOrLonger back y → IsMinimalOrLonger bytes (x ++ y)
least_then bytes prefix back x y e (inl p) (inl q) = inl (rw (e, p, q) refl)
least_then bytes prefix back x y e (inl p) (inr q) = inr (rw (e, p) (omega (arith, length-append x y, length-append x back)))
least_then bytes prefix back x y e (inr p) (inl q) = inr (rw (e, q) (omega (arith, length-append x y, length-append prefix y)))
least_then bytes prefix back x y e (inr p) (inr q) = inr (rw e (omega (arith, length-append x y, length-append prefix back)))

pub WritesMinimally-then : {A B : Type 0} {G : Grammar A} {H : A → Grammar B} {F : A → Type 0} {E : A → B → Type 0} {encoding : A → List ℕ} {more : A → B → List ℕ}
    → WritesMinimally G F encoding → ((a : A) → WritesMinimally (H a) (E a) (more a)) → WritesMinimally (Then G H) (λ v. F v.0 × E v.0 v.1) (λ v. encoding v.0 ++ more v.0 v.1)
WritesMinimally-then {encoding = encoding} {more} r s = record {
  encodes = λ v fits. (encoding v.0, more v.0 v.1, refl, r.encodes v.0 fits.0, (s v.0).encodes v.1 fits.1);
  again = λ bytes v g. (encoding v.0, more v.0 v.1, refl, r.again g.0 v.0 g.3, (s v.0).again g.1 v.1 g.4);
  least = λ bytes v g. least_then bytes g.0 g.1 (encoding v.0) (more v.0 v.1) g.2 (r.least g.0 v.0 g.3) ((s v.0).least g.1 v.1 g.4);
}

-- what a map makes of what fits
abbrev pub MadeOf : {A B : Type 0} → (A → B) → (A → Type 0) → B → Type 0
MadeOf make F b = (a : _) × F a × (make a ≡ b)

-- along a map that the minimal encoding of the whole sees through
pub WritesMinimally-map : {A B : Type 0} {G : Grammar A} {F : A → Type 0} {encoding : A → List ℕ} (make : A → B) (other : B → List ℕ) → WritesMinimally G F encoding → ((a : A) → encoding a ≡ other (make a)) → WritesMinimally (Mapped make G) (MadeOf make F) other
WritesMinimally-map {G = G} {encoding = encoding} make other r same = record {
  encodes = λ b fits. (fits.0, subst (λ (t : List ℕ). G t fits.0) (same fits.0 ∙ ap other fits.2) (r.encodes fits.0 fits.1), fits.2);
  again = λ bytes b g. (g.0, subst (λ (t : List ℕ). G t g.0) (same g.0 ∙ ap other g.2) (r.again bytes g.0 g.1), g.2);
  least = λ bytes b g. subst (λ (t : List ℕ). IsMinimalOrLonger bytes t) (same g.0 ∙ ap other g.2) (r.least bytes g.0 g.1);
}

-- no bytes, for a value whose minimal encoding is empty
pub WritesMinimally-nothing : {A : Type 0} (a : A) (encoding : A → List ℕ) → encoding a ≡ [] → WritesMinimally (Nothing a) (λ b. a ≡ b) encoding
WritesMinimally-nothing a encoding empty = record {
  encodes = λ b e. (sym (ap encoding e) ∙ empty, e);
  again = λ bytes b g. (sym (ap encoding g.1) ∙ empty, g.1);
  least = λ bytes b g. inl (g.0 ∙ sym empty ∙ ap encoding g.1);
}

pub WritesMinimally-never : {A : Type 0} (encoding : A → List ℕ) → WritesMinimally (Never {A = A}) (λ a. ⊥) encoding
WritesMinimally-never encoding = record { encodes = λ v fits. absurd fits; again = λ bytes v g. absurd g; least = λ bytes v g. absurd g }

-- a stronger condition, and the same minimal encodings
pub WritesMinimally-for : {A : Type 0} {G : Grammar A} {F : A → Type 0} {encoding : A → List ℕ} (E : A → Type 0) → WritesMinimally G F encoding → ((a : A) → E a → F a) → WritesMinimally G E encoding
WritesMinimally-for E r fits = record { encodes = λ v e. r.encodes v (fits v e); again = r.again; least = r.least }

-- ---- one byte

pub WritesMinimally-byte : WritesMinimally AByte (λ b. b < 256) (λ b. b ∷ [])
WritesMinimally-byte = record {
  encodes = λ b lt. (refl, lt);
  again = λ bytes b g. (refl, g.1);
  least = λ bytes b g. inl g.0;
}
