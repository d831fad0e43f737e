-- The laws of patterns, in which a `*` stands for any bytes. All are about lists of numbers.
use Rattle.std.proofs.Common.{◌≡◌, ◌≢◌, ◌∙◌, ◌⊎◌, inl, inr, ℕ, suc, ◌+◌, ◌-◌, ◌<◌, ◌≤◌, Bool, true, false, None, List, [], ◌∷◌, ◌++◌, length, take, drop, get_or, refl, sym, ap, subst, append_assoc, length-append, arith}
use Rattle.std.specs.Prelude.{MatchBool}
use Rattle.std.specs.Str.Pattern.{FindsText, FindsTextPrefix, FindsTextSuffix, HasSuffixMatch, SplitsAroundMatch, StripsPrefix}
use Rattle.std.proofs.lemmas.Bool.{cases_lt}
use Rattle.std.proofs.lemmas.List.{take-append-drop, append-nil, drop_at, drop-drop}
use Rattle.wasm_modules.specs.Selections.{IsMatch, star}

-- the bytes hold no `*`
abbrev pub IsPlain : List ℕ → Type 0
IsPlain piece = (i : ℕ) → i < length piece → get_or piece i 0 ≢ star

-- ---- a piece without `*`

-- the bytes begin with the piece, and the rest matches the pattern
abbrev pub Follows : List ℕ → List ℕ → List ℕ → Type 0
Follows piece pattern bytes = (rest : List ℕ) × ((bytes ≡ piece ++ rest) × IsMatch pattern rest)

pub piece_matches : (piece pattern bytes : List ℕ) → IsPlain piece → Follows piece pattern bytes → IsMatch (piece ++ pattern) bytes
piece_matches [] pattern bytes plain f = subst (IsMatch pattern) (sym f.1.0) f.1.1
piece_matches (byte ∷ piece) pattern bytes plain f =
    inr (plain 0 (omega arith), (piece ++ f.0, (f.1.0, piece_matches piece pattern (piece ++ f.0) (λ i l. plain (suc i) (omega arith)) (f.0, (refl, f.1.1)))))

pub piece_found : (piece pattern bytes : List ℕ) → IsPlain piece → IsMatch (piece ++ pattern) bytes → Follows piece pattern bytes
piece_found [] pattern bytes plain m = (bytes, (refl, m))
piece_found (byte ∷ piece) pattern bytes plain (inl m) = absurd (plain 0 (omega arith) m.0)
piece_found (byte ∷ piece) pattern bytes plain (inr m) =
    let more = piece_found piece pattern m.1.0 (λ i l. plain (suc i) (omega arith)) m.1.1.1 in
    (more.0, (m.1.1.0 ∙ ap (λ (t : List ℕ). byte ∷ t) more.1.0, more.1.1))

-- a pattern without `*` matches itself alone
pub plain_matches : (piece bytes : List ℕ) → IsPlain piece → bytes ≡ piece → IsMatch piece bytes
plain_matches piece bytes plain is = subst (λ (t : List ℕ). IsMatch t bytes) (append-nil piece) (piece_matches piece [] bytes plain ([], (is ∙ sym (append-nil piece), refl)))

pub plain_found : (piece bytes : List ℕ) → IsPlain piece → IsMatch piece bytes → bytes ≡ piece
plain_found piece bytes plain m =
    let f = piece_found piece [] bytes plain (subst (λ (t : List ℕ). IsMatch t bytes) (sym (append-nil piece)) m) in
    f.1.0 ∙ ap (λ (t : List ℕ). piece ++ t) f.1.1 ∙ append-nil piece

-- ---- a `*`

-- some end of the bytes matches the pattern
abbrev pub EndMatches : List ℕ → List ℕ → Type 0
EndMatches pattern bytes = IsMatch (star ∷ pattern) bytes

pub end_matches : (pattern bytes any rest : List ℕ) → bytes ≡ any ++ rest → IsMatch pattern rest → EndMatches pattern bytes
end_matches pattern bytes any rest is m = inl (refl, (any, (rest, (is, m))))

pub end_found : (pattern bytes : List ℕ) → EndMatches pattern bytes → (any : List ℕ) × ((rest : List ℕ) × ((bytes ≡ any ++ rest) × IsMatch pattern rest))
end_found pattern bytes (inl m) = m.1
end_found pattern bytes (inr m) = absurd (m.0 refl)

-- a `*` takes in what precedes the bytes too
pub absorbed : (pattern bytes any rest : List ℕ) → bytes ≡ any ++ rest → EndMatches pattern rest → EndMatches pattern bytes
absorbed pattern bytes any rest is m =
    let e = end_found pattern rest m in
    end_matches pattern bytes (any ++ e.0) e.1.0 (is ∙ ap (λ (t : List ℕ). any ++ t) e.1.1.0 ∙ sym (append_assoc any e.0 e.1.0)) e.1.1.1

-- after a `*`, a pattern without another is the end
pub ends_matches : (piece bytes front : List ℕ) → IsPlain piece → bytes ≡ front ++ piece → EndMatches piece bytes
ends_matches piece bytes front plain is = end_matches piece bytes front piece is (plain_matches piece piece plain refl)

pub ends_found : (piece bytes : List ℕ) → IsPlain piece → EndMatches piece bytes → (front : List ℕ) × (bytes ≡ front ++ piece)
ends_found piece bytes plain m =
    let e = end_found piece bytes m in
    (e.0, e.1.1.0 ∙ ap (λ (t : List ℕ). e.0 ++ t) (plain_found piece e.1.0 plain e.1.1.1))

-- ---- a piece between two `*`

-- the piece occurs in the bytes nowhere before `i`
abbrev pub NotBefore : ℕ → List ℕ → List ℕ → Type 0
NotBefore i piece bytes = (k : ℕ) → k < i → (rest : List ℕ) → drop k bytes ≢ piece ++ rest

module _ (piece pattern bytes : List ℕ) (plain : IsPlain piece) where
  pub nowhere_found : ((k : ℕ) → k ≤ length bytes → (rest : List ℕ) → drop k bytes ≢ piece ++ rest) → EndMatches (piece ++ star ∷ pattern) bytes → ⊥
  nowhere_found lacks m =
      let e = end_found (piece ++ star ∷ pattern) bytes m in
      let f = piece_found piece (star ∷ pattern) e.1.0 plain e.1.1.1 in
      lacks (length e.0) (omega (arith, ap (length {A = ℕ}) e.1.1.0, length-append e.0 e.1.0)) f.0 (ap (drop (length e.0)) e.1.1.0 ∙ drop_at e.0 e.1.0 (length e.0) refl ∙ f.1.0)

  -- the piece occurs from `i` to `j`
  module _ (i j : ℕ) (split : drop i bytes ≡ piece ++ drop j bytes) (ends : j ≡ i + length piece) where
    pub next_matches : EndMatches pattern (drop j bytes) → EndMatches (piece ++ star ∷ pattern) bytes
    next_matches m = end_matches (piece ++ star ∷ pattern) bytes (take i bytes) (drop i bytes) (sym (take-append-drop i bytes)) (piece_matches piece (star ∷ pattern) (drop i bytes) plain (drop j bytes, (split, m)))

    -- a later occurrence leaves a `*` less, so the first is enough
    pub next_found : NotBefore i piece bytes → EndMatches (piece ++ star ∷ pattern) bytes → EndMatches pattern (drop j bytes)
    next_found first m = by (cases_lt (length e.0) i)
      where
        e : (any : List ℕ) × ((rest : List ℕ) × ((bytes ≡ any ++ rest) × IsMatch (piece ++ star ∷ pattern) rest))
        e = end_found (piece ++ star ∷ pattern) bytes m

        f : Follows piece (star ∷ pattern) e.1.0
        f = piece_found piece (star ∷ pattern) e.1.0 plain e.1.1.1

        there : drop (length e.0) bytes ≡ piece ++ f.0
        there = ap (drop (length e.0)) e.1.1.0 ∙ drop_at e.0 e.1.0 (length e.0) refl ∙ f.1.0

        behind : drop (length e.0 + length piece) bytes ≡ f.0
        behind = sym (drop-drop (length piece) (length e.0) bytes) ∙ ap (drop (length piece)) there ∙ drop_at piece f.0 (length piece) refl

        by : (length e.0 < i) ⊎ (i ≤ length e.0) → EndMatches pattern (drop j bytes)
        by (inl before) = absurd (first (length e.0) before f.0 there)
        by (inr after) =
            let more : ℕ = length e.0 - i in
            let same : j + more ≡ length e.0 + length piece = omega (arith, ends, after) in
            let rest : drop more (drop j bytes) ≡ f.0 = drop-drop more j bytes ∙ ap (λ (n : ℕ). drop n bytes) same ∙ behind in
            absorbed pattern (drop j bytes) (take more (drop j bytes)) f.0 (sym (take-append-drop more (drop j bytes)) ∙ ap (λ (t : List ℕ). take more (drop j bytes) ++ t) rest) f.1.1

-- ---- what the code finds

-- the first occurrence of the piece splits the bytes
pub step_matches : (pattern piece rest bytes front back : List ℕ) → pattern ≡ piece ++ star ∷ rest → IsPlain piece → SplitsAroundMatch (FindsText piece) bytes front back → EndMatches rest back → EndMatches pattern bytes
step_matches pattern piece rest bytes front back is plain s m =
    subst (λ (t : List ℕ). EndMatches t bytes) (sym is) (next_matches piece rest bytes plain s.0 s.1 s.2.1.split s.2.1.ends (subst (EndMatches rest) s.4 m))

pub step_found : (pattern piece rest bytes front back : List ℕ) → pattern ≡ piece ++ star ∷ rest → IsPlain piece → SplitsAroundMatch (FindsText piece) bytes front back → EndMatches pattern bytes → EndMatches rest back
step_found pattern piece rest bytes front back is plain s m =
    subst (EndMatches rest) (sym s.4) (next_found piece rest bytes plain s.0 s.1 s.2.1.split s.2.1.ends s.2.0 (subst (λ (t : List ℕ). EndMatches t bytes) is m))

-- the piece occurs nowhere
pub step_none : (pattern piece rest bytes : List ℕ) → pattern ≡ piece ++ star ∷ rest → IsPlain piece → FindsText piece bytes None → EndMatches pattern bytes → ⊥
step_none pattern piece rest bytes is plain lacks m = nowhere_found piece rest bytes plain lacks (subst (λ (t : List ℕ). EndMatches t bytes) is m)

-- the bytes end with the piece, or don't
pub end_yes : (r : Bool) (piece bytes : List ℕ) → IsPlain piece → MatchBool r (HasSuffixMatch (FindsTextSuffix piece) bytes) (FindsTextSuffix piece bytes None) → r ≡ true → EndMatches piece bytes
end_yes true piece bytes plain h e = ends_matches piece bytes (take (length bytes - h.0) bytes) plain h.1.1
end_yes false piece bytes plain h e = absurd cc

pub end_no : (r : Bool) (piece bytes : List ℕ) → IsPlain piece → MatchBool r (HasSuffixMatch (FindsTextSuffix piece) bytes) (FindsTextSuffix piece bytes None) → r ≡ false → EndMatches piece bytes → ⊥
end_no true piece bytes plain h e m = absurd cc
end_no false piece bytes plain h e m = let f = ends_found piece bytes plain m in h f.0 f.1

-- the bytes begin with the piece
pub begun_matches : (pattern piece rest bytes end : List ℕ) → pattern ≡ piece ++ star ∷ rest → IsPlain piece → StripsPrefix (FindsTextPrefix piece) bytes end → EndMatches rest end → IsMatch pattern bytes
begun_matches pattern piece rest bytes end is plain s m =
    subst (λ (t : List ℕ). IsMatch t bytes) (sym is) (piece_matches piece (star ∷ rest) bytes plain (end, (s.1.1 ∙ ap (λ (t : List ℕ). piece ++ t) (sym s.2), m)))

pub begun_found : (pattern piece rest bytes end : List ℕ) → pattern ≡ piece ++ star ∷ rest → IsPlain piece → StripsPrefix (FindsTextPrefix piece) bytes end → IsMatch pattern bytes → EndMatches rest end
begun_found pattern piece rest bytes end is plain s m =
    let f = piece_found piece (star ∷ rest) bytes plain (subst (λ (t : List ℕ). IsMatch t bytes) is m) in
    let same : f.0 ≡ end = sym (drop_at piece f.0 s.0 (sym s.1.0)) ∙ ap (drop s.0) (sym f.1.0) ∙ sym s.2 in
    subst (EndMatches rest) same f.1.1

-- they don't
pub begun_none : (pattern piece rest bytes : List ℕ) → pattern ≡ piece ++ star ∷ rest → IsPlain piece → FindsTextPrefix piece bytes None → IsMatch pattern bytes → ⊥
begun_none pattern piece rest bytes is plain lacks m =
    let f = piece_found piece (star ∷ rest) bytes plain (subst (λ (t : List ℕ). IsMatch t bytes) is m) in
    lacks f.0 f.1.0
