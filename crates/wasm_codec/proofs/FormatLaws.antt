-- The law of a format, and how each way to put formats together keeps it.
use Rattle.std.proofs.lemmas.List.{append_cancel_right}
use Rattle.std.proofs.Common.{◌≡◌, ℕ, zero, suc, ◌+◌, append_assoc, length-append, ◌^◌, ◌<◌, ◌≤◌, ◌⊎◌, Bool, true, false, not, cond, ◌&&◌, ◌||◌, eqb, ltb, List, [], ◌∷◌, ◌++◌, length, Option, Some, None, refl, sym, ap, subst, ◌∙◌, inl, inr, arith, pos, ◌-ℤ◌}
use Rattle.std.specs.Prelude.{IsSomeAnd, IfSome, is_some}
use Rattle.std.proofs.lemmas.Bool.{eqb-true, eq-eqb, ne_eqb, ltb-true, lt-ltb, le-ltb, le-leb, cases_lt}
use Rattle.std.proofs.lemmas.Bool.Decides.{eqb_tells}
use Rattle.std.proofs.lemmas.Int.{ints}
use Rattle.std.proofs.Math.Bool.{or-true, and-true, and-false}
use Rattle.std.specs.List.{flat_map, AllByRecursion}
use Rattle.wasm_codec.specs.formats.Grammar.{Grammar, IsBytes, Mapped, After, Joined, Nothing}
use Rattle.wasm_codec.specs.Reading.{◌>>=◌}
use Rattle.wasm_codec.specs.formats.Numbers.{IsDigits, Number, unsigned, signed, EncodesU32, EncodesU64, EncodesS32, EncodesIndex}
use Rattle.wasm_codec.specs.Leb128.{digits_at, unsigned_leb128, signed_leb128, plain_number_at, plain_u32_at, plain_u64_at, plain_s32_at, plain_index_at, below, signed_within, index_below}
use Rattle.wasm_codec.specs.Encoding.{IsMinimalOrLonger}
use Rattle.wasm_codec.proofs.Laws.{bind_some, bind_is, some, some_is, in_a_row, IsBytes-after, WritesMinimally-byte, WritesMinimally-nothing, WritesMinimally-never, WritesMinimally-then, WritesMinimally-map, WritesMinimally-for}
use Rattle.wasm_codec.specs.Reading.{BeginsWith, IsReadBy as ListReads}
use Rattle.wasm_codec.proofs.NumberLaws.{IsReadBy-u32, WritesMinimally-u32, IsReadBy-u64, WritesMinimally-u64, IsReadBy-s32, WritesMinimally-s32, IsReadBy-index, WritesMinimally-index}
use Rattle.wasm_codec.proofs.Counting.{WritesMinimally-counted}
use Rattle.wasm_codec.proofs.Joining.{WritesMinimally-joined}
use Rattle.wasm_codec.specs.formats.Grammar.{TakesBytes}
use Rattle.wasm_codec.specs.Places.{Place, place, Reader, keeps, unless, byte_at, map_unless, only_at, times_at, number_at, u32_at, u64_at, s32_at, index_at}
use Rattle.wasm_codec.specs.formats.Combinators.{Format, any_byte, just, a_byte, nothing, never, ◌▷◌, first_of, ◌⊗>◌, ◌⊗◌, bytes_of, made, made_with_long_forms, either_range, Choice, any_of, or_else, no_other, alternative, either, after, after_long, tagged, variant, variant_after, flagged, with_value, optional, choose, is_byte, find, one_byte, byte_or, u32, u64, s32, begins_index, index, items, by_kind}
use Rattle.wasm_codec.proofs.NumberReading.{byte_took, digits_parts}
use Rattle.wasm_codec.specs.Lawful.{WritesMinimally, head_of, ReadsPlaces, IsLawful}

-- this holds of each value that is encoded
pub record Every {V : Type 0} (G : Grammar V) (P : V → Type 0) : Type 0 where
  pub each : (bytes : List ℕ) (v : V) → G bytes v → P v

-- ---- places

pub not_longer : (bytes encoding : List ℕ) → IsMinimalOrLonger bytes encoding → length encoding ≤ length bytes
not_longer bytes encoding (inl e) = omega (arith, ap (length {A = ℕ}) e)
not_longer bytes encoding (inr lt) = omega arith

eqb_sum : (a b c d : ℕ) → b ≤ a → d ≤ c → eqb a b && eqb c d ≡ eqb (a + c) (b + d)
eqb_sum a b c d le more = elim (eqb_tells a b) [
  | inl p ↦ elim (eqb_tells c d) [
    | inl q ↦ rw (p.0, q.0) (sym (eq-eqb (a + c) (b + d) (omega (arith, p.1, q.1))))
    | inr q ↦ rw (p.0, q.0) (sym (ne_eqb (a + c) (b + d) (λ e. q.1 (omega (arith, p.1, e)))))
  ]
  | inr p ↦ rw p.0 (sym (ne_eqb (a + c) (b + d) (λ e. p.1 (omega (arith, e)))))
]

and_and : (s a b : Bool) → (s && a) && b ≡ s && (a && b)
and_and true a b = refl
and_and false a b = refl

-- both parts are in their minimal encoding just where the whole is
pub keeps_then : (s : Bool) (f g t u : List ℕ) → IsMinimalOrLonger f t → IsMinimalOrLonger g u → keeps (keeps s f t) g u ≡ keeps s (f ++ g) (t ++ u)
keeps_then s f g t u p q =
    and_and s (eqb (length f) (length t)) (eqb (length g) (length u))
    ∙ ap (λ (b : Bool). s && b) (eqb_sum (length f) (length t) (length g) (length u) (not_longer f t p) (not_longer g u q) ∙ sym (rw (length-append f g, length-append t u) refl))

pub keeps_same : (s : Bool) (f : List ℕ) → keeps s f f ≡ s
keeps_same s f = ap (λ (b : Bool). s && b) (eq-eqb (length f) (length f) refl) ∙ and-true s

pub keeps_cons : (s : Bool) (b c : ℕ) (f t : List ℕ) → keeps s (b ∷ f) (c ∷ t) ≡ keeps s f t
keeps_cons s b c f t = ap (λ (k : Bool). s && k) (by (eqb_tells (length f) (length t))) where
  by : ((eqb (length f) (length t) ≡ true) × (length f ≡ length t)) ⊎ ((eqb (length f) (length t) ≡ false) × (length f ≡ length t → ⊥)) → eqb (suc (length f)) (suc (length t)) ≡ eqb (length f) (length t)
  by (inl p) = eq-eqb (suc (length f)) (suc (length t)) (ap suc p.1) ∙ sym p.0
  by (inr p) = ne_eqb (suc (length f)) (suc (length t)) (λ e. p.1 (omega (arith, e))) ∙ sym p.0

pub keeps_longer : (s : Bool) (f t : List ℕ) → length t < length f → keeps s f t ≡ false
keeps_longer s f t lt = ap (λ (b : Bool). s && b) (ne_eqb (length f) (length t) (λ e. omega (arith, e))) ∙ and-false s

-- of a long form there are fewer bytes, and otherwise these
abbrev pub IsShorter : Bool → List ℕ → List ℕ → Type 0
IsShorter long encoding own = elim long [ true ↦ length encoding < length own | false ↦ encoding ≡ own ]

keeps_unless : (s : Bool) (prefix encoding own : List ℕ) (long : Bool) → IsMinimalOrLonger prefix own → IsShorter long encoding own → keeps s prefix own && not long ≡ keeps s prefix encoding
keeps_unless s prefix encoding own true least h =
    let le = not_longer prefix own least in
    and-false (keeps s prefix own) ∙ sym (keeps_longer s prefix encoding (omega arith))
keeps_unless s prefix encoding own false least h = and-true (keeps s prefix own) ∙ ap (keeps s prefix) (sym h)

-- ---- bytes

pub IsBytes-append : (a b : List ℕ) → IsBytes a → IsBytes b → IsBytes (a ++ b)
IsBytes-append [] b p q = q
IsBytes-append (x ∷ a) b p q = (p.0, IsBytes-append a b p.1 q)

longer_cons : (b : ℕ) (bytes encoding : List ℕ) → IsMinimalOrLonger bytes encoding → IsMinimalOrLonger (b ∷ bytes) (b ∷ encoding)
longer_cons b bytes encoding (inl e) = inl (ap (λ (t : List ℕ). b ∷ t) e)
longer_cons b bytes encoding (inr lt) = inr (omega arith)

-- the first byte was taken
pub taken_fits : (p q : Place) (b : ℕ) → byte_at p ≡ Some (b, q) → IsBytes p.left → (b < 256) × IsBytes q.left
taken_fits p q b e fits = subst IsBytes (byte_took p q b e).bytes fits

-- the bytes begin with the value that the reading function returned
pub BeginsWith-at : {V : Type 0} (G : Grammar V) (bytes : List ℕ) (a v : V) (after rest : Place) → some {A = V × Place} (a, after) ≡ some (v, rest) → BeginsWith G bytes a after.left → BeginsWith G bytes v rest.left
BeginsWith-at {V} G bytes a v after rest e h = subst (λ (x : V × Place). BeginsWith G bytes x.0 x.1.left) (some_is (a, after) (v, rest) e) h

pub Lawful-byte : IsLawful a_byte
unfolding byte_at
Lawful-byte = record {
  reads = record {
    sound = λ p b q fits e. record { prefix = b ∷ []; encodes = (refl, (taken_fits p q b e fits).0); parts = (byte_took p q b e).bytes };
    complete = λ prefix b rest s g. rw (g.0, keeps_same s (b ∷ [])) refl;
  };
  minimal = WritesMinimally-byte;
  in_range = λ bytes b g. g.1;
  are_bytes = λ bytes b g. rw g.0 (g.1, tt);
  begins = λ bytes b g. rw g.0 refl;
}

pub Lawful-nothing : {A : Type 0} (a : A) → IsLawful (nothing a)
Lawful-nothing {A} a = record {
  reads = record {
    sound = λ p b q fits e. BeginsWith-at (Nothing a) p.left a b p q e (record { prefix = []; encodes = (refl, refl); parts = refl });
    complete = λ prefix b rest s g. rw (g.0, g.1, keeps_same s []) refl;
  };
  minimal = WritesMinimally-nothing a (λ b. []) refl;
  in_range = λ bytes b g. g.1;
  are_bytes = λ bytes b g. rw g.0 tt;
  begins = λ bytes b g. refl;
}

pub Lawful-never : {A : Type 0} → IsLawful (never {A = A})
Lawful-never {A} = record {
  reads = record { sound = λ p v q fits e. absurd cc; complete = λ prefix v rest s g. absurd g };
  minimal = WritesMinimally-never (λ a. []);
  in_range = λ bytes b g. g;
  are_bytes = λ bytes b g. absurd g;
  begins = λ bytes b g. absurd g;
}

pub Lawful-after : {A : Type 0} (n : ℕ) {F : Format A} → n < 256 → IsLawful F → IsLawful (n ▷ F)
unfolding byte_at
Lawful-after {A} n {F} byte r = record {
  reads = record { sound = sound; complete = λ prefix v rest s g. rw (g.1, eq-eqb n n refl, keeps_cons s n n g.0 (F.bytes v)) (r.reads.complete g.0 v rest s g.2) };
  minimal = record {
    encodes = λ v fits. (F.bytes v, refl, r.minimal.encodes v fits);
    again = λ bytes v g. (F.bytes v, refl, r.minimal.again g.0 v g.2);
    least = λ bytes v g. rw g.1 (longer_cons n g.0 (F.bytes v) (r.minimal.least g.0 v g.2));
  };
  in_range = λ bytes v g. r.in_range g.0 v g.2;
  are_bytes = λ bytes v g. rw g.1 (byte, r.are_bytes g.0 v g.2);
  begins = λ bytes v g. rw g.1 (eq-eqb n n refl);
} where
  sound : (p : Place) (v : A) (q : Place) → IsBytes p.left → (n ▷ F).at p ≡ Some (v, q) → BeginsWith (n ▷ F).Encodes p.left v q.left
  sound p v q fits e =
      let f = bind_some (byte_at p) (λ first. cond (eqb first.0 n) (F.at first.1) None) (v, q) e in
      by f.0.0 f.0.1 f.1 (eqb f.0.0 n) refl f.2
    where
      by : (b : ℕ) (next : Place) → byte_at p ≡ Some (b, next) → (t : Bool) → eqb b n ≡ t → cond t (F.at next) None ≡ Some (v, q) → BeginsWith (n ▷ F).Encodes p.left v q.left
      by b next took true is e =
          let one = r.reads.sound next v q (taken_fits p next b took fits).1 e in
          record { prefix = n ∷ one.prefix; encodes = (one.prefix, refl, one.encodes); parts = (byte_took p next b took).bytes ∙ ap (λ (k : ℕ). k ∷ next.left) (eqb-true b n is) ∙ ap (λ (t : List ℕ). n ∷ t) one.parts }
      by b next took false differs e = absurd cc

-- ---- one after the other

begins_then : (first : Option ℕ → Bool) (prefix back : List ℕ) → first (head_of prefix) ≡ true → first_of first (head_of (prefix ++ back)) ≡ true
begins_then first [] back e = rw e refl
begins_then first (b ∷ prefix) back e = rw e (or-true (first None))

-- reading two prefixes in a row
pub read_in_row : {V : Type 0} (read : Reader V) (s : Bool) (bytes a b rest : List ℕ) (o : Option (V × Place)) → bytes ≡ a ++ b → read (place s (a ++ (b ++ rest))) ≡ o → read (place s (bytes ++ rest)) ≡ o
read_in_row read s bytes a b rest o e p = ap (λ (t : List ℕ). read (place s (t ++ rest))) e ∙ ap (λ (t : List ℕ). read (place s t)) (append_assoc a b rest) ∙ p

Reads-then : {A B : Type 0} {F : Format A} {G : A → Format B} → IsLawful F → ((a : A) → IsLawful (G a)) → ReadsPlaces (F ⊗> G).Encodes (F ⊗> G).bytes (F ⊗> G).at
Reads-then {A} {B} {F} {G} r s = record {
  sound = λ start v end fits e.
      let p = bind_some (F.at start) (λ a. (G a.0).at a.1 >>= λ b. Some ((a.0, b.0), b.1)) (v, end) e in
      let q = bind_some ((G p.0.0).at p.0.1) (λ b. Some ((p.0.0, b.0), b.1)) (v, end) p.2 in
      let one = r.reads.sound start p.0.0 p.0.1 fits p.1 in
      let two = (s p.0.0).reads.sound p.0.1 q.0.0 q.0.1 (IsBytes-after start.left p.0.1.left p.0.0 one fits) q.1 in
      BeginsWith-at (F ⊗> G).Encodes start.left (p.0.0, q.0.0) v q.0.1 end q.2 (record { prefix = one.prefix ++ two.prefix; encodes = (one.prefix, two.prefix, refl, one.encodes, two.encodes); parts = in_a_row start.left one.prefix p.0.1.left two.prefix q.0.1.left one.parts two.parts });
  complete = λ prefix v rest t g.
      let back = g.1 in
      let mid = keeps t g.0 (F.bytes v.0) in
      let p : F.at (place t (prefix ++ rest)) ≡ Some (v.0, place mid (back ++ rest)) = read_in_row F.at t prefix g.0 back rest (Some (v.0, place mid (back ++ rest))) g.2 (r.reads.complete g.0 v.0 (back ++ rest) t g.3) in
      let q : (G v.0).at (place mid (back ++ rest)) ≡ Some (v.1, place (keeps mid back ((G v.0).bytes v.1)) rest) = (s v.0).reads.complete back v.1 rest mid g.4 in
      let k : keeps mid back ((G v.0).bytes v.1) ≡ keeps t prefix (F.bytes v.0 ++ (G v.0).bytes v.1) =
      keeps_then t g.0 back (F.bytes v.0) ((G v.0).bytes v.1) (r.minimal.least g.0 v.0 g.3) ((s v.0).minimal.least back v.1 g.4) ∙ ap (λ (f : List ℕ). keeps t f (F.bytes v.0 ++ (G v.0).bytes v.1)) (sym g.2) in
      rw (p, q, k) refl;
}

pub Lawful-then : {A B : Type 0} {F : Format A} {G : A → Format B} → IsLawful F → ((a : A) → IsLawful (G a)) → IsLawful (F ⊗> G)
Lawful-then {A} {B} {F} {G} r s = record {
  reads = Reads-then r s;
  minimal = WritesMinimally-then r.minimal (λ a. (s a).minimal);
  in_range = λ bytes v g. (r.in_range g.0 v.0 g.3, (s v.0).in_range g.1 v.1 g.4);
  are_bytes = λ bytes v g. rw g.2 (IsBytes-append g.0 g.1 (r.are_bytes g.0 v.0 g.3) ((s v.0).are_bytes g.1 v.1 g.4));
  begins = λ bytes v g. rw g.2 (begins_then F.first g.0 g.1 (r.begins g.0 v.0 g.3));
}

pub Lawful-both : {A B : Type 0} {F : Format A} {G : Format B} → IsLawful F → IsLawful G → IsLawful (F ⊗ G)
Lawful-both r s = Lawful-then r (λ a. s)

-- ---- what is made of a value

Sound-made : {A B : Type 0} {F : Format A} (long : A → Bool) (make : A → B) → IsLawful F → (p : Place) (b : B) (q : Place) → IsBytes p.left → map_unless long make F.at p ≡ Some (b, q) → BeginsWith (Mapped make F.Encodes) p.left b q.left
Sound-made {A} {B} {F} long make r start b end fits e =
    let p = bind_some (F.at start) (λ a. Some (make a.0, unless (long a.0) a.1)) (b, end) e in
    let one = r.reads.sound start p.0.0 p.0.1 fits p.1 in
    BeginsWith-at (Mapped make F.Encodes) start.left (make p.0.0) b (unless (long p.0.0) p.0.1) end p.2 (record { prefix = one.prefix; encodes = (p.0.0, one.encodes, refl); parts = one.parts })

pub Lawful-made : {A B : Type 0} {F : Format A} (make : A → B) (parts : B → Option A) → ((a : A) → parts (make a) ≡ Some a) → IsLawful F → IsLawful (made make parts F)
Lawful-made {A} {B} {F} make parts inverse r = record {
  reads = record { sound = sound; complete = complete };
  minimal = WritesMinimally-for (made make parts F).InRange (WritesMinimally-map make (made make parts F).bytes r.minimal (λ a. ap (bytes_of F.bytes) (sym (inverse a)))) (λ b. fits b (parts b));
  in_range = λ bytes b g. subst (made make parts F).InRange g.2 (rw (inverse g.0) (r.in_range bytes g.0 g.1, refl));
  are_bytes = λ bytes b g. r.are_bytes bytes g.0 g.1;
  begins = λ bytes b g. r.begins bytes g.0 g.1;
} where
  fits : (b : B) (o : Option A) → IsSomeAnd o (λ a. F.InRange a × (make a ≡ b)) → (a : A) × F.InRange a × (make a ≡ b)
  fits b (Some a) h = (a, h.0, h.1)
  fits b None h = absurd h

  sound : (p : Place) (b : B) (q : Place) → IsBytes p.left → (made make parts F).at p ≡ Some (b, q) → BeginsWith (made make parts F).Encodes p.left b q.left
  sound start b end fits e =
      let p = bind_some (F.at start) (λ a. Some (make a.0, a.1)) (b, end) e in
      let one = r.reads.sound start p.0.0 p.0.1 fits p.1 in
      BeginsWith-at (Mapped make F.Encodes) start.left (make p.0.0) b p.0.1 end p.2 (record { prefix = one.prefix; encodes = (p.0.0, one.encodes, refl); parts = one.parts })

  complete : (prefix : List ℕ) (b : B) (rest : List ℕ) (s : Bool) → Mapped make F.Encodes prefix b → (made make parts F).at (place s (prefix ++ rest)) ≡ Some (b, place (keeps s prefix (bytes_of F.bytes (parts b))) rest)
  complete prefix b rest s g =
      let p : parts b ≡ Some g.0 = ap parts (sym g.2) ∙ inverse g.0 in
      rw (r.reads.complete prefix g.0 rest s g.1, p, g.2) refl

pub Lawful-made-as : {A B : Type 0} {F : Format A} (long : A → Bool) (make : A → B) (bytes : B → List ℕ) (R : B → Type 0) → IsLawful F → WritesMinimally (Mapped make F.Encodes) R bytes → ((t : List ℕ) (b : B) → Mapped make F.Encodes t b → R b) → ((prefix : List ℕ) (a : A) → F.Encodes prefix a → IsShorter (long a) (bytes (make a)) (F.bytes a)) → IsLawful (made_with_long_forms long make bytes R F)
Lawful-made-as {A} {B} {F} long make bytes R r s fits shorter = record {
  reads = record { sound = Sound-made long make r; complete = complete };
  minimal = s;
  in_range = fits;
  are_bytes = λ bytes b g. r.are_bytes bytes g.0 g.1;
  begins = λ bytes b g. r.begins bytes g.0 g.1;
} where
  complete : (prefix : List ℕ) (b : B) (rest : List ℕ) (s : Bool) → Mapped make F.Encodes prefix b → map_unless long make F.at (place s (prefix ++ rest)) ≡ Some (b, place (keeps s prefix (bytes b)) rest)
  complete prefix b rest s g =
      let k = keeps_unless s prefix (bytes (make g.0)) (F.bytes g.0) (long g.0) (r.minimal.least prefix g.0 g.1) (shorter prefix g.0 g.1) in
      rw (r.reads.complete prefix g.0 rest s g.1, k, g.2) refl

pub Every-made : {A B : Type 0} {G : Grammar A} {make : A → B} {P : B → Type 0} → ((a : A) → P (make a)) → Every (Mapped make G) P
Every-made {P = P} h = record { each = λ bytes b g. subst P g.2 (h g.0) }

pub Every-after : {A : Type 0} {n : ℕ} {G : Grammar A} {P : A → Type 0} → Every G P → Every (After (n ∷ []) G) P
Every-after h = record { each = λ bytes v g. h.each g.0 v g.2 }

pub Every-either : {A : Type 0} {G H : Grammar A} {P : A → Type 0} → Every G P → Every H P → Every (λ bytes v. G bytes v ⊎ H bytes v) P
Every-either {A} {G} {H} {P} h k = record { each = each } where
  each : (bytes : List ℕ) (v : A) → G bytes v ⊎ H bytes v → P v
  each bytes v (inl g) = h.each bytes v g
  each bytes v (inr g) = k.each bytes v g

-- ---- alternatives

abbrev apart_below : (Option ℕ → Bool) → (Option ℕ → Bool) → ℕ → Bool
apart_below f g zero = true
apart_below f g (suc b) = not (f (Some b) && g (Some b)) && apart_below f g b

-- neither has an encoding without bytes, and no byte begins encodings of both: this computes
abbrev pub apart : (Option ℕ → Bool) → (Option ℕ → Bool) → Bool
apart f g = not (f None) && (not (g None) && apart_below f g 256)

both_true : (a b : Bool) → a && b ≡ true → (a ≡ true) × (b ≡ true)
both_true true b e = (refl, e)
both_true false b e = absurd cc

not_true : (a : Bool) → not a ≡ true → a ≡ true → ⊥
not_true true e f = absurd cc
not_true false e f = absurd cc

not_both : (a b : Bool) → not (a && b) ≡ true → b ≡ true → a ≡ false
not_both true true e f = absurd cc
not_both true false e f = absurd cc
not_both false b e f = refl

below_apart : (f g : Option ℕ → Bool) (n b : ℕ) → apart_below f g n ≡ true → b < n → g (Some b) ≡ true → f (Some b) ≡ false
below_apart f g zero b e lt is = absurd (omega arith)
below_apart f g (suc n) b e lt is =
    let p = both_true (not (f (Some n) && g (Some n))) (apart_below f g n) e in
    elim (cases_lt b n) [
      | inl less ↦ below_apart f g n b p.1 less is
      | inr le ↦
          let same : b ≡ n = omega arith in
          subst (λ (k : ℕ). f (Some k) ≡ false) (sym same) (not_both (f (Some n)) (g (Some n)) p.0 (subst (λ (k : ℕ). g (Some k) ≡ true) same is))
    ]

record Apart (f g : Option ℕ → Bool) : Type 0 where
  none : f None ≡ true → ⊥
  nor : g None ≡ true → ⊥
  other : (b : ℕ) → b < 256 → g (Some b) ≡ true → f (Some b) ≡ false

apart_is : (f g : Option ℕ → Bool) → apart f g ≡ true → Apart f g
apart_is f g e =
    let p = both_true (not (f None)) (not (g None) && apart_below f g 256) e in
    let q = both_true (not (g None)) (apart_below f g 256) p.1 in
    record { none = not_true (f None) p.0; nor = not_true (g None) q.0; other = λ b. below_apart f g 256 b q.1 }

-- alternatives are lawful
pub record IsLawfulChoice {V : Type 0} (C : Choice V) : Type 0 where
  pub lawful : IsLawful (any_of C)

-- values that are written in the other format have shorter encodings there
pub record Loses {A : Type 0} (wins : A → Bool) (F G : Format A) : Type 0 where
  pub each : (bytes : List ℕ) (v : A) → F.Encodes bytes v → wins v ≡ false → G.InRange v × (length (G.bytes v) < length bytes)

-- what an alternative reads after its first byte
pub record ReadsBranch {A : Type 0} (wins : A → Bool) (F G : Format A) (read : ℕ → Place → Reader A) : Type 0 where
  pub sound : (b : ℕ) (p next : Place) (v : A) (q : Place) → F.first (Some b) ≡ true → byte_at p ≡ Some (b, next) → IsBytes p.left → read b p next ≡ Some (v, q) → BeginsWith F.Encodes p.left v q.left
  pub complete : (b : ℕ) (prefix : List ℕ) (v : A) (rest : List ℕ) (s : Bool) → F.Encodes (b ∷ prefix) v → read b (place s (b ∷ prefix ++ rest)) (place s (prefix ++ rest)) ≡ Some (v, place (keeps s (b ∷ prefix) (cond (wins v) (F.bytes v) (G.bytes v))) rest)

Lawful-alternative : {A : Type 0} (wins : A → Bool) {F : Format A} (read : ℕ → Place → Reader A) {C : Choice A} → apart F.first C.first ≡ true → ReadsBranch wins F (any_of C) read → Loses wins F (any_of C) → Every C.Encodes (λ v. wins v ≡ false) → IsLawful F → IsLawfulChoice C → IsLawfulChoice (alternative wins F read C)
unfolding byte_at
Lawful-alternative {A} wins {F} read {C} differ branch left right r s = record {
  lawful = record {
    reads = record { sound = sound; complete = complete };
    minimal = record { encodes = λ v. encodes v (wins v); again = λ bytes v g. encodes v (wins v) (in_range bytes v g); least = least };
    in_range = in_range;
    are_bytes = are_bytes;
    begins = begins;
  };
} where
  a : Apart F.first C.first
  a = apart_is F.first C.first differ

  sound : (p : Place) (v : A) (q : Place) → IsBytes p.left → (any_of (alternative wins F read C)).at p ≡ Some (v, q) → BeginsWith (any_of (alternative wins F read C)).Encodes p.left v q.left
  sound p v q fits e =
      let f = bind_some (byte_at p) (λ first. (alternative wins F read C).branch first.0 p first.1) (v, q) e in
      by f.0.0 f.0.1 f.1 (F.first (Some f.0.0)) refl f.2
    where
      by : (b : ℕ) (next : Place) → byte_at p ≡ Some (b, next) → (t : Bool) → F.first (Some b) ≡ t → cond t (read b p next) (C.branch b p next) ≡ Some (v, q) → BeginsWith (any_of (alternative wins F read C)).Encodes p.left v q.left
      by b next took true is e = let one = branch.sound b p next v q is took fits e in record { prefix = one.prefix; encodes = inl one.encodes; parts = one.parts }
      by b next took false other e =
          let one = s.lawful.reads.sound p v q fits (bind_is (byte_at p) (λ first. C.branch first.0 p first.1) (b, next) (Some (v, q)) took e) in
          record { prefix = one.prefix; encodes = inr one.encodes; parts = one.parts }

  complete : (prefix : List ℕ) (v : A) (rest : List ℕ) (t : Bool) → (any_of (alternative wins F read C)).Encodes prefix v → (any_of (alternative wins F read C)).at (place t (prefix ++ rest)) ≡ Some (v, place (keeps t prefix (cond (wins v) (F.bytes v) (C.bytes v))) rest)
  complete [] v rest t (inl g) = absurd (a.none (r.begins [] v g))
  complete [] v rest t (inr g) = absurd (a.nor (s.lawful.begins [] v g))
  complete (b ∷ prefix) v rest t (inl g) = rw (r.begins (b ∷ prefix) v g) (branch.complete b prefix v rest t g)
  complete (b ∷ prefix) v rest t (inr g) = rw (a.other b (s.lawful.are_bytes (b ∷ prefix) v g).0 (s.lawful.begins (b ∷ prefix) v g), right.each (b ∷ prefix) v g) (s.lawful.reads.complete (b ∷ prefix) v rest t g)

  encodes : (v : A) (t : Bool) → either_range t (F.InRange v) (C.InRange v) → F.Encodes (cond t (F.bytes v) (C.bytes v)) v ⊎ C.Encodes (cond t (F.bytes v) (C.bytes v)) v
  encodes v true fits = inl (r.minimal.encodes v fits)
  encodes v false fits = inr (s.lawful.minimal.encodes v fits)

  in_range : (bytes : List ℕ) (v : A) → (any_of (alternative wins F read C)).Encodes bytes v → either_range (wins v) (F.InRange v) (C.InRange v)
  in_range bytes v (inl g) = by (wins v) refl where
    by : (t : Bool) → wins v ≡ t → either_range t (F.InRange v) (C.InRange v)
    by true is = r.in_range bytes v g
    by false other = (left.each bytes v g other).0
  in_range bytes v (inr g) = rw (right.each bytes v g) (s.lawful.in_range bytes v g)

  least : (bytes : List ℕ) (v : A) → (any_of (alternative wins F read C)).Encodes bytes v → IsMinimalOrLonger bytes (cond (wins v) (F.bytes v) (C.bytes v))
  least bytes v (inl g) = by (wins v) refl where
    by : (t : Bool) → wins v ≡ t → IsMinimalOrLonger bytes (cond t (F.bytes v) (C.bytes v))
    by true is = r.minimal.least bytes v g
    by false other = inr (left.each bytes v g other).1
  least bytes v (inr g) = rw (right.each bytes v g) (s.lawful.minimal.least bytes v g)

  are_bytes : (bytes : List ℕ) (v : A) → (any_of (alternative wins F read C)).Encodes bytes v → IsBytes bytes
  are_bytes bytes v (inl g) = r.are_bytes bytes v g
  are_bytes bytes v (inr g) = s.lawful.are_bytes bytes v g

  begins : (bytes : List ℕ) (v : A) → (any_of (alternative wins F read C)).Encodes bytes v → F.first (head_of bytes) || C.first (head_of bytes) ≡ true
  begins bytes v (inl g) = rw (r.begins bytes v g) refl
  begins bytes v (inr g) = rw (s.lawful.begins bytes v g) (or-true (F.first (head_of bytes)))

-- none of its values is written in the other format
Loses-none : {A : Type 0} {wins : A → Bool} {F G : Format A} → Every F.Encodes (λ v. wins v ≡ true) → Loses wins F G
Loses-none {wins = wins} own = record { each = λ bytes v g is. absurd (clash (wins v) (own.each bytes v g) is) } where
  clash : (t : Bool) → t ≡ true → t ≡ false → ⊥
  clash t p q = absurd cc

pub Lawful-either : {A : Type 0} (wins : A → Bool) {F : Format A} {C : Choice A} → apart F.first C.first ≡ true → Every F.Encodes (λ v. wins v ≡ true) → Every C.Encodes (λ v. wins v ≡ false) → IsLawful F → IsLawfulChoice C → IsLawfulChoice (either wins F C)
Lawful-either wins {F} {C} differ own other r s = Lawful-alternative wins {F = F} (λ b here next. F.at here) {C = C} differ branch (Loses-none own) other r s where
  branch : ReadsBranch wins F (any_of C) (λ b here next. F.at here)
  branch = record {
    sound = λ b p next v q first took fits e. r.reads.sound p v q fits e;
    complete = λ b prefix v rest t g. rw (own.each (b ∷ prefix) v g) (r.reads.complete (b ∷ prefix) v rest t g);
  }

-- what is read after the byte
after_sound : {A : Type 0} (n : ℕ) {F : Format A} (long : A → Bool) → IsLawful F → (b : ℕ) (p next : Place) (v : A) (q : Place) → eqb b n ≡ true → byte_at p ≡ Some (b, next) → IsBytes p.left → map_unless long (λ v. v) F.at next ≡ Some (v, q) → BeginsWith (n ▷ F).Encodes p.left v q.left
after_sound n {F} long r b p next v q is took fits e =
    let one = Sound-made long (λ v. v) r next v q (taken_fits p next b took fits).1 e in
    record { prefix = n ∷ one.prefix; encodes = (one.prefix, refl, subst (F.Encodes one.prefix) one.encodes.2 one.encodes.1); parts = (byte_took p next b took).bytes ∙ ap (λ (k : ℕ). k ∷ next.left) (eqb-true b n is) ∙ ap (λ (t : List ℕ). n ∷ t) one.parts }

tails : {b n : ℕ} {s t : List ℕ} → b ∷ s ≡ n ∷ t → s ≡ t
tails e = cc

pub Lawful-or-after : {A : Type 0} (wins : A → Bool) (n : ℕ) {F : Format A} {C : Choice A} → n < 256 → apart (just n) C.first ≡ true → Every F.Encodes (λ v. wins v ≡ true) → Every C.Encodes (λ v. wins v ≡ false) → IsLawful F → IsLawfulChoice C → IsLawfulChoice (after wins n F C)
Lawful-or-after {A} wins n {F} {C} byte differ own other r s = Lawful-alternative wins {F = n ▷ F} (λ b here next. F.at next) {C = C} differ branch (Loses-none (record { each = λ bytes v g. own.each g.0 v g.2 })) other (Lawful-after n byte r) s where
  sound : (b : ℕ) (p next : Place) (v : A) (q : Place) → eqb b n ≡ true → byte_at p ≡ Some (b, next) → IsBytes p.left → F.at next ≡ Some (v, q) → BeginsWith (n ▷ F).Encodes p.left v q.left
  sound b p next v q is took fits e =
      let one = r.reads.sound next v q (taken_fits p next b took fits).1 e in
      record { prefix = n ∷ one.prefix; encodes = (one.prefix, refl, one.encodes); parts = (byte_took p next b took).bytes ∙ ap (λ (k : ℕ). k ∷ next.left) (eqb-true b n is) ∙ ap (λ (t : List ℕ). n ∷ t) one.parts }

  branch : ReadsBranch wins (n ▷ F) (any_of C) (λ b here next. F.at next)
  branch = record {
    sound = sound;
    complete = λ b prefix v rest t g.
        let g' : F.Encodes prefix v = subst (λ (f : List ℕ). F.Encodes f v) (sym (tails g.1)) g.2 in
        rw (own.each prefix v g', keeps_cons t b n prefix (F.bytes v)) (r.reads.complete prefix v rest t g');
  }

-- a value that is written as the others has a shorter encoding there
pub Lawful-or-after-long : {A : Type 0} (wins : A → Bool) (n : ℕ) {F : Format A} {C : Choice A} → n < 256 → apart (just n) C.first ≡ true → ((bytes : List ℕ) (v : A) → F.Encodes bytes v → wins v ≡ false → C.InRange v × (length (C.bytes v) ≤ length bytes)) → Every C.Encodes (λ v. wins v ≡ false) → IsLawful F → IsLawfulChoice C → IsLawfulChoice (after_long wins n F C)
Lawful-or-after-long {A} wins n {F} {C} byte differ lose other r s = Lawful-alternative wins {F = n ▷ F} (λ b here next. map_unless (λ v. not (wins v)) (λ v. v) F.at next) {C = C} differ branch left other (Lawful-after n byte r) s where
  left : Loses wins (n ▷ F) (any_of C)
  left = record { each = λ bytes v g is. let p = lose g.0 v g.2 is in (p.0, rw g.1 (omega (arith, p.1))) }

  complete : (b : ℕ) (prefix : List ℕ) (v : A) (rest : List ℕ) (t : Bool) → F.Encodes prefix v → (w : Bool) → wins v ≡ w → keeps t prefix (F.bytes v) && not (not w) ≡ keeps t (b ∷ prefix) (cond w (n ∷ F.bytes v) (C.bytes v))
  complete b prefix v rest t g true is = and-true (keeps t prefix (F.bytes v)) ∙ sym (keeps_cons t b n prefix (F.bytes v))
  complete b prefix v rest t g false is =
      let p = lose prefix v g is in
      and-false (keeps t prefix (F.bytes v)) ∙ sym (keeps_longer t (b ∷ prefix) (C.bytes v) (omega (arith, p.1)))

  branch : ReadsBranch wins (n ▷ F) (any_of C) (λ b here next. map_unless (λ v. not (wins v)) (λ v. v) F.at next)
  branch = record {
    sound = λ b p next v q is took fits e. after_sound n (λ v. not (wins v)) r b p next v q is took fits e;
    complete = λ b prefix v rest t g.
        let g' : F.Encodes prefix v = subst (λ (f : List ℕ). F.Encodes f v) (sym (tails g.1)) g.2 in
        rw (r.reads.complete prefix v rest t g', complete b prefix v rest t g' (wins v) refl) refl;
  }

pub Lawful-or-else : {A : Type 0} {F : Format A} → not (F.first None) ≡ true → IsLawful F → IsLawfulChoice (or_else F)
unfolding byte_at
Lawful-or-else {A} {F} some r = record { lawful = record { reads = record { sound = sound; complete = complete }; minimal = r.minimal; in_range = r.in_range; are_bytes = r.are_bytes; begins = r.begins } } where
  sound : (p : Place) (v : A) (q : Place) → IsBytes p.left → (any_of (or_else F)).at p ≡ Some (v, q) → BeginsWith F.Encodes p.left v q.left
  sound p v q fits e = let f = bind_some (byte_at p) (λ first. F.at p) (v, q) e in r.reads.sound p v q fits f.2

  complete : (prefix : List ℕ) (v : A) (rest : List ℕ) (s : Bool) → F.Encodes prefix v → (any_of (or_else F)).at (place s (prefix ++ rest)) ≡ Some (v, place (keeps s prefix (F.bytes v)) rest)
  complete [] v rest s g = absurd (not_true (F.first None) some (r.begins [] v g))
  complete (b ∷ prefix) v rest s g = r.reads.complete (b ∷ prefix) v rest s g

pub Lawful-variant : {A B : Type 0} {F : Format A} {C : Choice B} (make : A → B) (parts : B → Option A) → ((a : A) → parts (make a) ≡ Some a) → apart F.first C.first ≡ true → Every C.Encodes (λ b. is_some (parts b) ≡ false) → IsLawful F → IsLawfulChoice C → IsLawfulChoice (variant make parts F C)
Lawful-variant make parts inverse differ other r s =
    Lawful-either (λ b. is_some (parts b)) differ (Every-made (λ a. ap is_some (inverse a))) other (Lawful-made make parts inverse r) s

pub Lawful-variant-after : {A B : Type 0} {F : Format A} {C : Choice B} (n : ℕ) (make : A → B) (parts : B → Option A) → ((a : A) → parts (make a) ≡ Some a) → n < 256 → apart (just n) C.first ≡ true → Every C.Encodes (λ b. is_some (parts b) ≡ false) → IsLawful F → IsLawfulChoice C → IsLawfulChoice (variant_after n make parts F C)
Lawful-variant-after n make parts inverse byte differ other r s =
    Lawful-or-after (λ b. is_some (parts b)) n byte differ (Every-made (λ a. ap is_some (inverse a))) other (Lawful-made make parts inverse r) s

pub Lawful-flagged : {A : Type 0} (n : ℕ) {F : Format A} → n < 256 → not (F.first None) ≡ true → apart (just n) F.first ≡ true → IsLawful F → IsLawful (flagged n F)
Lawful-flagged {A} n byte some differ r =
    (Lawful-or-after (λ p. p.0) n byte differ (Every-made (λ a. refl)) (Every-made (λ a. refl))
    (Lawful-made (λ a. (true, a)) (λ p. Some p.1) (λ a. refl) r) (Lawful-or-else some (Lawful-made (λ a. (false, a)) (λ p. Some p.1) (λ a. refl) r))).lawful

pub Lawful-optional : {A B : Type 0} (n : ℕ) {G : Format B} {F : Format A} → n < 256 → not (F.first None) ≡ true → apart (just n) F.first ≡ true → IsLawful G → IsLawful F → IsLawful (optional n G F)
Lawful-optional {A} {B} n byte some differ s r =
    (Lawful-or-after (λ p. is_some p.0) n byte differ (Every-made (λ q. refl)) (Every-made (λ a. refl))
    (Lawful-made (λ q. (Some q.0, q.1)) (λ p. with_value p.0 p.1) (λ q. refl) (Lawful-both s r)) (Lawful-or-else some (Lawful-made (λ a. (None, a)) (λ p. Some p.1) (λ a. refl) r))).lawful

pub Lawful-choose : {A : Type 0} (test : Bool) {F G : Format A} → IsLawful F → IsLawful G → IsLawful (choose test F G)
Lawful-choose true r s = r
Lawful-choose false r s = s

-- ---- alternatives of which each value has a byte of its own

pub record IsTagged {A : Type 0} (byte_of : A → ℕ) (C : Choice A) : Type 0 where
  pub choice : IsLawfulChoice C
  pub tagged : (b : ℕ) (bytes : List ℕ) (v : A) → C.Encodes (b ∷ bytes) v → b ≡ byte_of v

pub Tagged-never : {A : Type 0} {byte_of : A → ℕ} → IsTagged byte_of (no_other {A = A})
Tagged-never = record { choice = Lawful-or-else refl Lawful-never; tagged = λ b bytes v g. absurd g }

pub Tagged-or : {A : Type 0} (byte_of : A → ℕ) (n : ℕ) {F : Format A} {C : Choice A} → apart (just n) C.first ≡ true → n < 256 → Every F.Encodes (λ v. byte_of v ≡ n) → IsLawful F → IsTagged byte_of C → IsTagged byte_of (tagged byte_of n F C)
Tagged-or {A} byte_of n {F} {C} differ byte has r s = record {
  choice = Lawful-or-after (λ v. eqb (byte_of v) n) n byte differ (record { each = λ bytes v g. eq-eqb (byte_of v) n (has.each bytes v g) }) (record { each = other }) r s.choice;
  tagged = tag;
} where
  a : Apart (just n) C.first
  a = apart_is (just n) C.first differ

  other : (bytes : List ℕ) (v : A) → C.Encodes bytes v → eqb (byte_of v) n ≡ false
  other [] v g = absurd (a.nor (s.choice.lawful.begins [] v g))
  other (b ∷ bytes) v g =
      let not : eqb b n ≡ false = a.other b (s.choice.lawful.are_bytes (b ∷ bytes) v g).0 (s.choice.lawful.begins (b ∷ bytes) v g) in
      subst (λ (k : ℕ). eqb k n ≡ false) (s.tagged b bytes v g) not

  tag : (b : ℕ) (bytes : List ℕ) (v : A) → (any_of (tagged byte_of n F C)).Encodes (b ∷ bytes) v → b ≡ byte_of v
  tag b bytes v (inl g) = let same : b ≡ n = heads g.1 in same ∙ sym (has.each g.0 v g.2) where
    heads : {s t : List ℕ} → b ∷ s ≡ n ∷ t → b ≡ n
    heads e = cc
  tag b bytes v (inr g) = s.tagged b bytes v g

-- ---- one byte, that of the value

-- the value is found by its byte
abbrev pub IsFound : {A : Type 0} → (A → Option ℕ) → List A → A → Type 0
IsFound byte_of values v = IfSome (byte_of v) (λ b. (find byte_of values b ≡ Some v) × (ltb b 256 ≡ true))

is_byte_is : (b : ℕ) (o : Option ℕ) → is_byte b o ≡ true → o ≡ Some b
is_byte_is b None e = absurd cc
is_byte_is b (Some c) e = ap (λ (k : ℕ). some k) (sym (eqb-true b c e))

found : {A : Type 0} (byte_of : A → Option ℕ) (values : List A) (b : ℕ) (v : A) → find byte_of values b ≡ Some v → byte_of v ≡ Some b
found byte_of [] b v e = absurd cc
found {A} byte_of (x ∷ values) b v e = by (found byte_of values b v) (is_byte b (byte_of x)) refl e where
  by : (find byte_of values b ≡ Some v → byte_of v ≡ Some b) → (t : Bool) → is_byte b (byte_of x) ≡ t → cond t (Some x) (find byte_of values b) ≡ Some v → byte_of v ≡ Some b
  by more true is e = ap byte_of (sym (some_is x v e)) ∙ is_byte_is b (byte_of x) is
  by more false other e = more e

pub Lawful-one-byte : {A : Type 0} (byte_of : A → Option ℕ) (values : List A) → ((v : A) → IsFound byte_of values v) → IsLawful (one_byte byte_of values)
unfolding byte_at
Lawful-one-byte {A} byte_of values there = record {
  reads = record { sound = sound; complete = λ prefix v rest s g. rw (g.2, (at g.0 v g.1).0, g.1, keeps_same s (g.0 ∷ [])) refl };
  minimal = record {
    encodes = λ v. encodes v (byte_of v) refl;
    again = λ bytes v g. (g.0, g.1, ap (bytes_of (λ b. b ∷ [])) g.1);
    least = λ bytes v g. inl (g.2 ∙ sym (ap (bytes_of (λ b. b ∷ [])) g.1));
  };
  in_range = λ bytes v g. ap is_some g.1;
  are_bytes = λ bytes v g. rw g.2 (ltb-true g.0 256 (at g.0 v g.1).1, tt);
  begins = λ bytes v g. rw g.2 (ap is_some (at g.0 v g.1).0);
} where
  at : (b : ℕ) (v : A) → byte_of v ≡ Some b → (find byte_of values b ≡ Some v) × (ltb b 256 ≡ true)
  at b v e = subst (λ (o : Option ℕ). IfSome o (λ b. (find byte_of values b ≡ Some v) × (ltb b 256 ≡ true))) e (there v)

  encodes : (v : A) (o : Option ℕ) → byte_of v ≡ o → is_some o ≡ true → (b : ℕ) × (byte_of v ≡ Some b) × (bytes_of (λ b. b ∷ []) o ≡ b ∷ [])
  encodes v (Some b) e h = (b, e, refl)
  encodes v None e h = absurd cc

  sound : (p : Place) (v : A) (q : Place) → IsBytes p.left → (one_byte byte_of values).at p ≡ Some (v, q) → BeginsWith (one_byte byte_of values).Encodes p.left v q.left
  sound p v q fits e =
      let f = bind_some (byte_at p) (λ first. only_at (find byte_of values first.0) first.1) (v, q) e in
      by f.0.0 f.0.1 f.1 (find byte_of values f.0.0) refl f.2
    where
      by : (b : ℕ) (next : Place) → byte_at p ≡ Some (b, next) → (o : Option A) → find byte_of values b ≡ o → only_at o next ≡ Some (v, q) → BeginsWith (one_byte byte_of values).Encodes p.left v q.left
      by b next took (Some a) is e = BeginsWith-at (one_byte byte_of values).Encodes p.left a v next q e (record { prefix = b ∷ []; encodes = (b, found byte_of values b a is, refl); parts = (byte_took p next b took).bytes })
      by b next took None is e = absurd cc

pub Lawful-byte-or : {A : Type 0} {C : Choice A} (byte_of : A → Option ℕ) (values : List A) → ((v : A) → IsFound byte_of values v) → apart (one_byte byte_of values).first C.first ≡ true → Every C.Encodes (λ v. is_some (byte_of v) ≡ false) → IsLawfulChoice C → IsLawfulChoice (byte_or byte_of values C)
Lawful-byte-or byte_of values there differ other s =
    Lawful-either (λ v. is_some (byte_of v)) differ (record { each = λ bytes v g. ap is_some g.1 }) other (Lawful-one-byte byte_of values there) s

-- ---- numbers

pub digits_bytes : (digits : List ℕ) → IsDigits digits → IsBytes digits
digits_bytes [] d = absurd d
digits_bytes (b ∷ []) d = (omega arith, tt)
digits_bytes (b ∷ c ∷ digits) d = (d.1, digits_bytes (c ∷ digits) d.2)

pub digits_some : (digits : List ℕ) → IsDigits digits → any_byte (head_of digits) ≡ true
digits_some [] d = absurd d
digits_some (b ∷ digits) d = refl

same_number : {V : Type 0} (bytes : V → List ℕ) (s : Bool) (digits prefix left rest : List ℕ) (w v : V) → digits ≡ prefix → w ≡ v → left ≡ rest → some {A = V × Place} (w, place (keeps s digits (bytes w)) left) ≡ some (v, place (keeps s prefix (bytes v)) rest)
same_number bytes s digits prefix left rest w v p q r = rw (p, q, r) refl

-- numbers are read as lists of bytes are
pub Reads-number : {V : Type 0} {most : ℕ} {Means : List ℕ → V → Type 0} (value : List ℕ → Option V) (bytes : V → List ℕ) → ListReads (Number most Means) (plain_number_at most value) → ReadsPlaces (Number most Means) bytes (number_at most value bytes)
Reads-number {V} {most} {Means} value bytes r = record { sound = sound; complete = complete } where
  sound : (p : Place) (v : V) (q : Place) → IsBytes p.left → number_at most value bytes p ≡ Some (v, q) → BeginsWith (Number most Means) p.left v q.left
  sound p v q fits e =
      let d = bind_some (digits_at most p.left) (λ digits. value digits.0 >>= λ v. Some (v, place (keeps p.minimal digits.0 (bytes v)) digits.1)) (v, q) e in
      let w = bind_some (value d.0.0) (λ v. Some (v, place (keeps p.minimal d.0.0 (bytes v)) d.0.1)) (v, q) d.2 in
      let read : plain_number_at most value p.left ≡ Some (w.0, d.0.1) =
      bind_is (digits_at most p.left) (λ digits. value digits.0 >>= λ v. Some (v, digits.1)) d.0 (Some (w.0, d.0.1)) d.1
      (bind_is (value d.0.0) (λ v. Some (v, d.0.1)) w.0 (Some (w.0, d.0.1)) w.1 refl) in
      BeginsWith-at (Number most Means) p.left w.0 v (place (keeps p.minimal d.0.0 (bytes w.0)) d.0.1) q w.2 (r.sound p.left w.0 d.0.1 fits read)

  complete : (prefix : List ℕ) (v : V) (rest : List ℕ) (s : Bool) → Number most Means prefix v → number_at most value bytes (place s (prefix ++ rest)) ≡ Some (v, place (keeps s prefix (bytes v)) rest)
  complete prefix v rest s g =
      let d = bind_some (digits_at most (prefix ++ rest)) (λ digits. value digits.0 >>= λ v. Some (v, digits.1)) (v, rest) (r.complete prefix v rest g) in
      let w = bind_some (value d.0.0) (λ v. Some (v, d.0.1)) (v, rest) d.2 in
      let same = some_is (w.0, d.0.1) (v, rest) w.2 in
      let rest-is : d.0.1 ≡ rest = ap (λ (x : V × List ℕ). x.1) same in
      let value-is : w.0 ≡ v = ap (λ (x : V × List ℕ). x.0) same in
      let prefix-is : d.0.0 ≡ prefix = sym (append_cancel_right prefix d.0.0 rest ((digits_parts most (prefix ++ rest) d.0.0 d.0.1 d.1).parts ∙ ap (λ (t : List ℕ). d.0.0 ++ t) rest-is)) in
      let result : some {A = V × Place} (w.0, place (keeps s d.0.0 (bytes w.0)) d.0.1) ≡ some (v, place (keeps s prefix (bytes v)) rest) = same_number bytes s d.0.0 prefix d.0.1 rest w.0 v prefix-is value-is rest-is in
      bind_is (digits_at most (prefix ++ rest)) (λ digits. value digits.0 >>= λ v. Some (v, place (keeps s digits.0 (bytes v)) digits.1)) d.0 (Some (v, place (keeps s prefix (bytes v)) rest)) d.1
      (bind_is (value d.0.0) (λ v. Some (v, place (keeps s d.0.0 (bytes v)) d.0.1)) w.0 (Some (v, place (keeps s prefix (bytes v)) rest)) w.1 result)

pub Lawful-u32 : IsLawful u32
unfolding EncodesU32 u32_at plain_u32_at
Lawful-u32 = record { reads = Reads-number (below (2 ^ 32)) unsigned_leb128 IsReadBy-u32; minimal = WritesMinimally-u32; in_range = λ bytes n g. g.2.1; are_bytes = λ bytes n g. digits_bytes bytes g.0; begins = λ bytes n g. digits_some bytes g.0 }

pub Lawful-u64 : IsLawful u64
unfolding EncodesU64 u64_at plain_u64_at
Lawful-u64 = record { reads = Reads-number (below (2 ^ 64)) unsigned_leb128 IsReadBy-u64; minimal = WritesMinimally-u64; in_range = λ bytes n g. g.2.1; are_bytes = λ bytes n g. digits_bytes bytes g.0; begins = λ bytes n g. digits_some bytes g.0 }

pub Lawful-s32 : IsLawful s32
unfolding EncodesS32 s32_at plain_s32_at
Lawful-s32 = record { reads = Reads-number (signed_within (2 ^ 31)) signed_leb128 IsReadBy-s32; minimal = WritesMinimally-s32; in_range = λ bytes n g. g.2.1; are_bytes = λ bytes n g. digits_bytes bytes g.0; begins = λ bytes n g. digits_some bytes g.0 }

index_begins : (bytes : List ℕ) (n : ℕ) → EncodesIndex bytes n → begins_index (head_of bytes) ≡ true
unfolding EncodesIndex
index_begins [] n g = absurd g.0
index_begins (b ∷ c ∷ bytes) n g = rw (le-leb 0x80 b g.0.0) (or-true (ltb b 0x40))
index_begins (b ∷ []) n g = elim (cases_lt b 64) [
  | inl lt ↦ rw (lt-ltb b 0x40 lt) refl
  | inr le ↦
      let small : b < 128 = g.0 in
      let high : signed (b ∷ []) ≡ pos (unsigned (b ∷ [])) -ℤ pos (128 ^ 1) = rw (le-ltb b 64 le) refl in
      let low : unsigned (b ∷ []) ≡ b = omega arith in
      let same : pos n ≡ pos (unsigned (b ∷ [])) -ℤ pos (128 ^ 1) = sym g.2.0 ∙ high in
      absurd (omega (arith, ints, same))
]

pub Lawful-index : IsLawful index
unfolding EncodesIndex index_at plain_index_at
Lawful-index = record { reads = Reads-number (index_below (2 ^ 32)) (λ n. signed_leb128 (pos n)) IsReadBy-index; minimal = WritesMinimally-index; in_range = λ bytes n g. g.2.1; are_bytes = λ bytes n g. digits_bytes bytes g.0; begins = index_begins }

-- ---- lists

pub joined_in_range : {A : Type 0} {F : Format A} → IsLawful F → (bytes : List ℕ) (vs : List A) → Joined F.Encodes bytes vs → AllByRecursion F.InRange vs
joined_in_range r bytes [] g = tt
joined_in_range r bytes (v ∷ vs) g = (r.in_range g.0 v g.3, joined_in_range r g.1 vs g.4)

pub joined_bytes : {A : Type 0} {F : Format A} → IsLawful F → (bytes : List ℕ) (vs : List A) → Joined F.Encodes bytes vs → IsBytes bytes
joined_bytes r bytes [] g = rw g tt
joined_bytes r bytes (v ∷ vs) g = rw g.2 (IsBytes-append g.0 g.1 (r.are_bytes g.0 v g.3) (joined_bytes r g.1 vs g.4))

pub begins_counted : (prefix back : List ℕ) → any_byte (head_of prefix) ≡ true → any_byte (head_of (prefix ++ back)) ≡ true
begins_counted [] back e = absurd cc
begins_counted (b ∷ prefix) back e = refl

-- as many items as were asked for
abbrev Times : {A : Type 0} → Grammar A → ℕ → Grammar (List A)
Times G n bytes vs = (length vs ≡ n) × Joined G bytes vs

times_sound : {A : Type 0} {F : Format A} → IsLawful F → (n : ℕ) (p : Place) (vs : List A) (q : Place) → IsBytes p.left → times_at F.at n p ≡ Some (vs, q) → BeginsWith (Times F.Encodes n) p.left vs q.left
unfolding times_at
times_sound {A} {F} r zero p vs q fits e = BeginsWith-at (Times F.Encodes zero) p.left [] vs p q e (record { prefix = []; encodes = (refl, refl); parts = refl })
times_sound {A} {F} r (suc n) start vs end fits e =
    let p = bind_some (F.at start) (λ v. times_at F.at n v.1 >>= λ ws. Some (v.0 ∷ ws.0, ws.1)) (vs, end) e in
    let q = bind_some (times_at F.at n p.0.1) (λ ws. Some (p.0.0 ∷ ws.0, ws.1)) (vs, end) p.2 in
    let one = r.reads.sound start p.0.0 p.0.1 fits p.1 in
    let two = times_sound r n p.0.1 q.0.0 q.0.1 (IsBytes-after start.left p.0.1.left p.0.0 one fits) q.1 in
    BeginsWith-at (Times F.Encodes (suc n)) start.left (p.0.0 ∷ q.0.0) vs q.0.1 end q.2 (record {
      prefix = one.prefix ++ two.prefix;
      encodes = (ap suc two.encodes.0, (one.prefix, two.prefix, refl, one.encodes, two.encodes.1));
      parts = in_a_row start.left one.prefix p.0.1.left two.prefix q.0.1.left one.parts two.parts;
    })

times_complete : {A : Type 0} {F : Format A} → IsLawful F → (prefix : List ℕ) (vs : List A) (rest : List ℕ) (s : Bool) → Joined F.Encodes prefix vs → times_at F.at (length vs) (place s (prefix ++ rest)) ≡ Some (vs, place (keeps s prefix (flat_map F.bytes vs)) rest)
unfolding times_at
times_complete r prefix [] rest s g = rw (g, keeps_same s []) refl
times_complete {A} {F} r prefix (v ∷ vs) rest s g =
    let mid = keeps s g.0 (F.bytes v) in
    let p : F.at (place s (prefix ++ rest)) ≡ Some (v, place mid (g.1 ++ rest)) = read_in_row F.at s prefix g.0 g.1 rest (Some (v, place mid (g.1 ++ rest))) g.2 (r.reads.complete g.0 v (g.1 ++ rest) s g.3) in
    let k : keeps mid g.1 (flat_map F.bytes vs) ≡ keeps s prefix (F.bytes v ++ flat_map F.bytes vs) =
    keeps_then s g.0 g.1 (F.bytes v) (flat_map F.bytes vs) (r.minimal.least g.0 v g.3) ((WritesMinimally-joined r.minimal).least g.1 vs g.4) ∙ ap (λ (f : List ℕ). keeps s f (F.bytes v ++ flat_map F.bytes vs)) (sym g.2) in
    rw (p, times_complete r g.1 vs rest mid g.4, k) refl

Reads-items : {A : Type 0} {F : Format A} → IsLawful F → ReadsPlaces (items F).Encodes (items F).bytes (items F).at
Reads-items {A} {F} r = record { sound = sound; complete = complete } where
  sound : (p : Place) (vs : List A) (q : Place) → IsBytes p.left → (items F).at p ≡ Some (vs, q) → BeginsWith (items F).Encodes p.left vs q.left
  sound start vs end fits e =
      let p = bind_some (u32_at start) (λ n. times_at F.at n.0 n.1) (vs, end) e in
      let one = Lawful-u32.reads.sound start p.0.0 p.0.1 fits p.1 in
      let two = times_sound r p.0.0 p.0.1 vs end (IsBytes-after start.left p.0.1.left p.0.0 one fits) p.2 in
      record {
        prefix = one.prefix ++ two.prefix;
        encodes = (one.prefix, two.prefix, refl, subst (λ (n : ℕ). EncodesU32 one.prefix n) (sym two.encodes.0) one.encodes, two.encodes.1);
        parts = in_a_row start.left one.prefix p.0.1.left two.prefix end.left one.parts two.parts;
      }

  complete : (prefix : List ℕ) (vs : List A) (rest : List ℕ) (s : Bool) → (items F).Encodes prefix vs → (items F).at (place s (prefix ++ rest)) ≡ Some (vs, place (keeps s prefix ((items F).bytes vs)) rest)
  complete prefix vs rest s g =
      let n = unsigned_leb128 (length vs) in
      let mid = keeps s g.0 n in
      let p : u32_at (place s (prefix ++ rest)) ≡ Some (length vs, place mid (g.1 ++ rest)) = read_in_row u32_at s prefix g.0 g.1 rest (Some (length vs, place mid (g.1 ++ rest))) g.2 (Lawful-u32.reads.complete g.0 (length vs) (g.1 ++ rest) s g.3) in
      let k : keeps mid g.1 (flat_map F.bytes vs) ≡ keeps s prefix (n ++ flat_map F.bytes vs) =
      keeps_then s g.0 g.1 n (flat_map F.bytes vs) (Lawful-u32.minimal.least g.0 (length vs) g.3) ((WritesMinimally-joined r.minimal).least g.1 vs g.4) ∙ ap (λ (f : List ℕ). keeps s f (n ++ flat_map F.bytes vs)) (sym g.2) in
      rw (p, times_complete r g.1 vs rest mid g.4, k) refl

pub Lawful-items : {A : Type 0} {F : Format A} → IsLawful F → IsLawful (items F)
Lawful-items {A} {F} r = record {
  reads = Reads-items r;
  minimal = WritesMinimally-counted WritesMinimally-u32 r.minimal;
  in_range = λ bytes vs g. (Lawful-u32.in_range g.0 (length vs) g.3, joined_in_range r g.1 vs g.4);
  are_bytes = λ bytes vs g. rw g.2 (IsBytes-append g.0 g.1 (Lawful-u32.are_bytes g.0 (length vs) g.3) (joined_bytes r g.1 vs g.4));
  begins = λ bytes vs g. rw g.2 (begins_counted g.0 g.1 (Lawful-u32.begins g.0 (length vs) g.3));
}

-- it has no encoding without bytes
pub takes_bytes : {A : Type 0} {F : Format A} → IsLawful F → not (F.first None) ≡ true → TakesBytes F.Encodes
takes_bytes {F = F} r some v g = not_true (F.first None) some (r.begins [] v g)

-- what is read is in range
pub read_in_range : {A : Type 0} {F : Format A} → IsLawful F → (p : Place) (v : A) (q : Place) → IsBytes p.left → F.at p ≡ Some (v, q) → F.InRange v
read_in_range r p v q fits e = let f = r.reads.sound p v q fits e in r.in_range f.prefix v f.encodes

-- ---- what a kind says

pub Lawful-by-kind : {K V : Type 0} {G : K → Format V} → ((k : K) → IsLawful (G k)) → (o : Option K) → IsLawful (by_kind G o)
Lawful-by-kind r None = Lawful-never
Lawful-by-kind r (Some k) = r k

-- ---- a loop that writes items
