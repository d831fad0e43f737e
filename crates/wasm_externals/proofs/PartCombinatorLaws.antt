-- The laws of what sections are put together with: parts that a flag tells, alternatives by a number, items up to an end.
use Rattle.std.proofs.Common.{◌≡◌, ℕ, zero, suc, ◌^◌, ◌<◌, ◌≤◌, Bool, true, false, List, [], ◌∷◌, ◌++◌, length, Option, Some, None, refl, sym, ap, subst, ◌∙◌, length-append, inl, inr, arith}
use Rattle.std.specs.Prelude.{is_some, IfSome}
use Rattle.std.proofs.lemmas.List.{append-nil}
use Rattle.std.proofs.lemmas.Bool.{lt-ltb}
use Rattle.std.proofs.lemmas.Bool.Decides.{eqb_tells}
use Rattle.std.specs.List.{flat_map}
use Rattle.wasm_codec.specs.formats.Grammar.{Grammar, IsBytes, TakesBytes, Joined}
use Rattle.wasm_codec.specs.Reading.{BeginsWith}
use Rattle.wasm_codec.specs.Encoding.{IsMinimalOrLonger}
use Rattle.wasm_codec.specs.formats.Numbers.{EncodesU32}
use Rattle.wasm_codec.specs.Leb128.{unsigned_leb128, digits_of}
use Rattle.wasm_codec.specs.Places.{Place, place, keeps}
use Rattle.wasm_codec.specs.formats.Combinators.{Format, ◌⊗>◌, u32, any_byte}
use Rattle.wasm_codec.specs.Lawful.{head_of, IsLawful}
use Rattle.wasm_codec.proofs.Laws.{bind_some, in_a_row, IsBytes-after, least_then}
use Rattle.wasm_codec.proofs.Joining.{WritesMinimally-joined}
use Rattle.wasm_codec.proofs.FormatLaws.{IsShorter, BeginsWith-at, keeps_then, read_in_row, joined_in_range, joined_bytes, read_in_range, Lawful-nothing, Lawful-made, Lawful-made-as, Lawful-then, Lawful-choose, Lawful-u32}
use Rattle.wasm_codec.proofs.BodyLaws.{some_bytes}
use Rattle.wasm_externals.specs.formats.PartCombinators.{some_of, part_if, is_other, numbered_bytes, NumberedInRange, numbered, Move, goes_on, ends, fails, GoesOnWith, AreEnded, moved, until_at, until}

-- ---- a part that depends on a flag

pub Lawful-part-if : {A : Type 0} {F : Format A} (there : Bool) → IsLawful F → IsLawful (part_if there F)
unfolding part_if
Lawful-part-if there r = Lawful-choose there (Lawful-made some_of (λ o. o) (λ a. refl) r) (Lawful-nothing None)

-- a part in range is a `Some` if and only if the flag is true
pub part_tells : {A : Type 0} (F : Format A) (there : Bool) (o : Option A) → (part_if there F).InRange o → is_some o ≡ there
unfolding part_if
part_tells F true (Some a) fits = refl
part_tells F true None fits = absurd fits
part_tells F false (Some a) fits = absurd cc
part_tells F false None fits = refl

pub part_range : {A : Type 0} (F : Format A) (there : Bool) (o : Option A) → (part_if there F).InRange o → IfSome o F.InRange
unfolding part_if
part_range F true (Some a) fits = fits.0
part_range F true None fits = tt
part_range F false (Some a) fits = absurd cc
part_range F false None fits = tt

pub part_in_range : {A : Type 0} (F : Format A) (o : Option A) → IfSome o F.InRange → (part_if (is_some o) F).InRange o
unfolding part_if
part_in_range F (Some a) fits = (fits, refl)
part_in_range F None fits = refl

-- ---- alternatives by a number

-- Each value has a number below 128, by which it is written; by another number its encodings are longer.
pub record IsNumbered {V : Type 0} (number_of : V → ℕ) (G : ℕ → Format V) : Type 0 where
  pub lawful : (n : ℕ) → IsLawful (G n)
  pub low : (v : V) → number_of v < 128
  pub other : (n : ℕ) (bytes : List ℕ) (v : V) → (G n).Encodes bytes v → (n ≡ number_of v → ⊥) → (G (number_of v)).InRange v × (length ((G (number_of v)).bytes v) < length bytes)

some_digits : (bytes : List ℕ) → any_byte (head_of bytes) ≡ true → 1 ≤ length bytes
some_digits [] e = absurd cc
some_digits (b ∷ bytes) e = omega arith

one_digit : (n : ℕ) → n < 128 → length (unsigned_leb128 n) ≡ 1
unfolding unsigned_leb128 digits_of
one_digit n lt = rw (lt-ltb n 128 lt) refl

pub number_takes : (prefix : List ℕ) (n : ℕ) → EncodesU32 prefix n → 1 ≤ length prefix
number_takes prefix n g = some_digits prefix (Lawful-u32.begins prefix n g)

module _ {V : Type 0} (number_of : V → ℕ) (G : ℕ → Format V) (r : IsNumbered number_of G) where
  -- by its own number, or longer
  record ByNumber (n : ℕ) (bytes back : List ℕ) (v : V) : Type 0 where
    in_range : (G (number_of v)).InRange v
    least : IsMinimalOrLonger bytes (numbered_bytes number_of G v)

  by_number : (n : ℕ) (bytes prefix back : List ℕ) (v : V) → bytes ≡ prefix ++ back → EncodesU32 prefix n → (G n).Encodes back v → ByNumber n bytes back v
  by_number n bytes prefix back v e g h = elim (eqb_tells n (number_of v)) [
    | inl same ↦
        let own : (G (number_of v)).Encodes back v = subst (λ (k : ℕ). (G k).Encodes back v) same.1 h in
        let counts : EncodesU32 prefix (number_of v) = subst (λ (k : ℕ). EncodesU32 prefix k) same.1 g in
        record {
          in_range = (r.lawful (number_of v)).in_range back v own;
          least = least_then bytes prefix back (unsigned_leb128 (number_of v)) ((G (number_of v)).bytes v) e (Lawful-u32.minimal.least prefix (number_of v) counts) ((r.lawful (number_of v)).minimal.least back v own);
        }
    | inr differs ↦
        let o = r.other n back v h differs.1 in
        let one = one_digit (number_of v) (r.low v) in
        let some = number_takes prefix n g in
        record {
          in_range = o.0;
          least = inr (omega (arith, o.1, one, some, ap (length {A = ℕ}) e, length-append prefix back, length-append (unsigned_leb128 (number_of v)) ((G (number_of v)).bytes v)));
        }
  ]

  numbered_encodes : (v : V) → (G (number_of v)).InRange v → (numbered number_of G).Encodes (numbered_bytes number_of G v) v
  numbered_encodes v fits =
      let small : number_of v < 2 ^ 32 = omega (arith, r.low v) in
      ((number_of v, v), (unsigned_leb128 (number_of v), (G (number_of v)).bytes v, refl, Lawful-u32.minimal.encodes (number_of v) small, (r.lawful (number_of v)).minimal.encodes v fits), refl)

  numbered_is : (bytes : List ℕ) (v : V) → (numbered number_of G).Encodes bytes v → (G (number_of v)).InRange v × IsMinimalOrLonger bytes (numbered_bytes number_of G v)
  numbered_is bytes v g =
      let one = by_number g.0.0 bytes g.1.0 g.1.1 g.0.1 g.1.2 g.1.3 g.1.4 in
      subst (λ (w : V). (G (number_of w)).InRange w × IsMinimalOrLonger bytes (numbered_bytes number_of G w)) g.2 (one.in_range, one.least)

  shorter : (prefix : List ℕ) (p : ℕ × V) → (u32 ⊗> G).Encodes prefix p → IsShorter (is_other number_of p) (numbered_bytes number_of G p.1) ((u32 ⊗> G).bytes p)
  shorter prefix p g = elim (eqb_tells p.0 (number_of p.1)) [
    | inl same ↦ rw same.0 (ap (λ (n : ℕ). unsigned_leb128 n ++ (G n).bytes p.1) (sym same.1))
    | inr differs ↦
        let again = (r.lawful p.0).minimal.again g.1 p.1 g.4 in
        let o = r.other p.0 ((G p.0).bytes p.1) p.1 again differs.1 in
        let one = one_digit (number_of p.1) (r.low p.1) in
        let some = number_takes (unsigned_leb128 p.0) p.0 (Lawful-u32.minimal.again g.0 p.0 g.3) in
        rw differs.0 (omega (arith, o.1, one, some, length-append (unsigned_leb128 p.0) ((G p.0).bytes p.1), length-append (unsigned_leb128 (number_of p.1)) ((G (number_of p.1)).bytes p.1)))
  ]

  pub Lawful-numbered : IsLawful (numbered number_of G)
  Lawful-numbered = Lawful-made-as (is_other number_of) (λ p. p.1) (numbered_bytes number_of G) (NumberedInRange number_of G) (Lawful-then Lawful-u32 r.lawful)
      (record { encodes = numbered_encodes; again = λ bytes v g. numbered_encodes v (numbered_is bytes v g).0; least = λ bytes v g. (numbered_is bytes v g).1 })
      (λ bytes v g. (numbered_is bytes v g).0) shorter

-- ---- items up to an end

some_joined : {A : Type 0} (G : Grammar A) → TakesBytes G → (bytes : List ℕ) (vs : List A) (v : A) → Joined G bytes (vs ++ v ∷ []) → any_byte (head_of bytes) ≡ true
some_joined {A} G takes bytes vs v g = first bytes (by vs g) where
  longer : (w : A) (ws : List A) → Joined G bytes (w ∷ ws) → 0 < length bytes
  longer w ws h = let lt = some_bytes G takes h.0 w h.3 in omega (arith, lt, ap (length {A = ℕ}) h.2, length-append h.0 h.1)

  by : (vs : List A) → Joined G bytes (vs ++ v ∷ []) → 0 < length bytes
  by [] h = longer v [] h
  by (w ∷ ws) h = longer w (ws ++ v ∷ []) h

  first : (b : List ℕ) → 0 < length b → any_byte (head_of b) ≡ true
  first [] lt = absurd (omega arith)
  first (c ∷ b) lt = refl

module _ {S A : Type 0} (next : S → A → Move S) (end : A) {F : Format A} (r : IsLawful F) (takes : TakesBytes F.Encodes) (only : (s : S) (v : A) → F.InRange v → next s v ≡ ends → v ≡ end) where
  abbrev Until : S → Grammar (List A)
  Until s = (until next end s F).Encodes

  goes : (s t : S) (v : A) (vs : List A) → next s v ≡ goes_on t → AreEnded next end t vs → AreEnded next end s (v ∷ vs)
  goes s t v vs is h = rw (is, AreEnded) h

  abbrev SoundWithin : ℕ → Type 0
  SoundWithin most = (s : S) (p : Place) (vs : List A) (q : Place) → IsBytes p.left → until_at next F.at most s p ≡ Some (vs, q) → BeginsWith (Until s) p.left vs q.left

  until_sound : (most : ℕ) → SoundWithin most
  unfolding until_at
  until_sound zero s p vs q fits e = absurd cc
  until_sound (suc most) s p vs q fits e =
      let a = bind_some (F.at p) (λ v. moved (λ t. until_at next F.at most t v.1) v.0 v.1 (next s v.0)) (vs, q) e in
      by (until_sound most) a.0.0 a.0.1 a.1 (next s a.0.0) refl a.2
    where
      by : SoundWithin most → (v : A) (mid : Place) → F.at p ≡ Some (v, mid) → (m : Move S) → next s v ≡ m → moved (λ t. until_at next F.at most t mid) v mid m ≡ Some (vs, q) → BeginsWith (Until s) p.left vs q.left
      by further v mid read (goes_on t) is e =
          let b = bind_some (until_at next F.at most t mid) (λ ws. Some (v ∷ ws.0, ws.1)) (vs, q) e in
          let one = r.reads.sound p v mid fits read in
          let rest = further t mid b.0.0 b.0.1 (IsBytes-after p.left mid.left v one fits) b.1 in
          BeginsWith-at (Until s) p.left (v ∷ b.0.0) vs b.0.1 q b.2 (record {
            prefix = one.prefix ++ rest.prefix;
            encodes = ((one.prefix, rest.prefix, refl, one.encodes, rest.encodes.0), goes s t v b.0.0 is rest.encodes.1);
            parts = in_a_row p.left one.prefix mid.left rest.prefix b.0.1.left one.parts rest.parts;
          })
      by further v mid read ends is e =
          let one = r.reads.sound p v mid fits read in
          let same : v ≡ end = only s v (read_in_range r p v mid fits read) is in
          BeginsWith-at (Until s) p.left [] vs mid q e (record {
            prefix = one.prefix;
            encodes = ((one.prefix, [], sym (append-nil one.prefix), subst (F.Encodes one.prefix) same one.encodes, refl), subst (λ (w : A). next s w ≡ ends) same is);
            parts = one.parts;
          })
      by further v mid read fails is e = absurd cc

  abbrev CompleteWithin : ℕ → Type 0
  CompleteWithin most = (s : S) (prefix : List ℕ) (vs : List A) (rest : List ℕ) (t : Bool) → length prefix ≤ most → Joined F.Encodes prefix (vs ++ end ∷ []) → AreEnded next end s vs
      → until_at next F.at most s (place t (prefix ++ rest)) ≡ Some (vs, place (keeps t prefix (flat_map F.bytes (vs ++ end ∷ []))) rest)

  until_complete : (most : ℕ) → CompleteWithin most
  unfolding until_at
  until_complete zero s prefix [] rest t le g h =
      let lt = some_bytes F.Encodes takes g.0 end g.3 in
      absurd (omega (arith, lt, le, ap (length {A = ℕ}) g.2, length-append g.0 g.1))
  until_complete zero s prefix (v ∷ vs) rest t le g h =
      let lt = some_bytes F.Encodes takes g.0 v g.3 in
      absurd (omega (arith, lt, le, ap (length {A = ℕ}) g.2, length-append g.0 g.1))
  until_complete (suc most) s prefix [] rest t le g h =
      let whole : prefix ≡ g.0 = g.2 ∙ ap (λ (l : List ℕ). g.0 ++ l) g.4 ∙ append-nil g.0 in
      let p : F.at (place t (prefix ++ rest)) ≡ Some (end, place (keeps t prefix (F.bytes end)) rest) = r.reads.complete prefix end rest t (subst (λ (l : List ℕ). F.Encodes l end) (sym whole) g.3) in
      rw (p, h, append-nil (F.bytes end)) refl
  until_complete (suc most) s prefix (v ∷ vs) rest t le g h = by (until_complete most) (next s v) refl h where
    mid : Bool
    mid = keeps t g.0 (F.bytes v)

    by : CompleteWithin most → (m : Move S) → next s v ≡ m → GoesOnWith (λ u. AreEnded next end u vs) m
        → until_at next F.at (suc most) s (place t (prefix ++ rest)) ≡ Some (v ∷ vs, place (keeps t prefix (flat_map F.bytes (v ∷ (vs ++ end ∷ [])))) rest)
    by further (goes_on u) is h =
        let lt = some_bytes F.Encodes takes g.0 v g.3 in
        let p : F.at (place t (prefix ++ rest)) ≡ Some (v, place mid (g.1 ++ rest)) = read_in_row F.at t prefix g.0 g.1 rest (Some (v, place mid (g.1 ++ rest))) g.2 (r.reads.complete g.0 v (g.1 ++ rest) t g.3) in
        let more = further u g.1 vs rest mid (omega (arith, lt, le, ap (length {A = ℕ}) g.2, length-append g.0 g.1)) g.4 h in
        let k : keeps mid g.1 (flat_map F.bytes (vs ++ end ∷ [])) ≡ keeps t prefix (F.bytes v ++ flat_map F.bytes (vs ++ end ∷ [])) =
        keeps_then t g.0 g.1 (F.bytes v) (flat_map F.bytes (vs ++ end ∷ [])) (r.minimal.least g.0 v g.3) ((WritesMinimally-joined r.minimal).least g.1 (vs ++ end ∷ []) g.4)
        ∙ ap (λ (f : List ℕ). keeps t f (F.bytes v ++ flat_map F.bytes (vs ++ end ∷ []))) (sym g.2) in
        rw (p, is, more, k) refl
    by further ends is h = absurd h
    by further fails is h = absurd h

  pub Lawful-until : (s : S) → IsLawful (until next end s F)
  Lawful-until s = record {
    reads = record {
      sound = λ p vs q fits e. until_sound (length p.left) s p vs q fits e;
      complete = λ prefix vs rest t g. until_complete (length (prefix ++ rest)) s prefix vs rest t (omega (arith, length-append prefix rest)) g.0 g.1;
    };
    minimal = record {
      encodes = λ vs fits. ((WritesMinimally-joined r.minimal).encodes (vs ++ end ∷ []) fits.0, fits.1);
      again = λ bytes vs g. ((WritesMinimally-joined r.minimal).again bytes (vs ++ end ∷ []) g.0, g.1);
      least = λ bytes vs g. (WritesMinimally-joined r.minimal).least bytes (vs ++ end ∷ []) g.0;
    };
    in_range = λ bytes vs g. (joined_in_range r bytes (vs ++ end ∷ []) g.0, g.1);
    are_bytes = λ bytes vs g. joined_bytes r bytes (vs ++ end ∷ []) g.0;
    begins = λ bytes vs g. some_joined F.Encodes takes bytes vs end g.0;
  }
