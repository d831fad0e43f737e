-- The law of a format that goes on to the end of its bytes, and of the parts before such bytes.
use Rattle.std.proofs.Common.{◌≡◌, ℕ, zero, suc, ◌+◌, ◌%◌, ◌/◌, ◌^◌, ◌<◌, ◌≤◌, Bool, true, false, cond, eqb, ltb, List, [], ◌∷◌, ◌++◌, length, take, drop, Option, Some, None, refl, sym, ap, subst, ◌∙◌, length-append, inl, inr, arith}
use Rattle.std.proofs.lemmas.List.{append-nil, take_at, drop_at, take-append-drop, length-take}
use Rattle.std.proofs.lemmas.Bool.{eqb-true, eq-eqb, ltb-true, ltb-false, le-ltb}
use Rattle.std.specs.Prelude.{IsSomeAnd}
use Rattle.std.specs.List.{flat_map}
use Rattle.wasm_codec.specs.formats.Grammar.{Grammar, IsBytes, After, Joined}
use Rattle.wasm_codec.specs.Reading.{◌>>=◌}
use Rattle.wasm_codec.specs.Encoding.{IsMinimalOrLonger}
use Rattle.wasm_codec.specs.formats.Numbers.{EncodesU32}
use Rattle.wasm_codec.specs.Leb128.{complemented, digits_of, unsigned_leb128}
use Rattle.wasm_codec.proofs.Laws.{bind_some, some, some_is, in_a_row, least_then, IsBytes-after, WritesMinimally-then, WritesMinimally-map, WritesMinimally-for}
use Rattle.wasm_codec.specs.Reading.{BeginsWith}
use Rattle.wasm_codec.proofs.Joining.{WritesMinimally-joined}
use Rattle.wasm_codec.specs.formats.Grammar.{TakesBytes}
use Rattle.wasm_codec.proofs.ListReading.{AtMostOne}
use Rattle.wasm_codec.specs.Places.{Place, place, keeps, byte_at, u32_at}
use Rattle.wasm_codec.specs.formats.Combinators.{Format, ◌⊗>◌, made, bytes_of, choose}
use Rattle.wasm_codec.specs.formats.Bodies.{at_end, bytes_to_end, until_end, to_end, Sized, body_at, if_all, sized_at, sized, byte_list, headed_at, headed}
use Rattle.wasm_codec.proofs.NumberReading.{byte_took}
use Rattle.wasm_codec.proofs.FormatLaws.{BeginsWith-at, keeps_then, keeps_cons, keeps_same, keeps_longer, not_longer, taken_fits, IsBytes-append, read_in_row, joined_in_range, joined_bytes, begins_counted, Lawful-u32}
use Rattle.wasm_codec.specs.Lawful.{IsLawful, IsLawfulBody}

-- bytes encode at most one value
pub encodes_one : {V : Type 0} {F : Format V} → IsLawfulBody F → AtMostOne F.Encodes
encodes_one {V} {F} r = λ bytes v w g h.
    let same : some {A = V × Place} (v, place (keeps true bytes (F.bytes v)) []) ≡ some (w, place (keeps true bytes (F.bytes w)) []) = sym (r.reads.complete bytes v true g) ∙ r.reads.complete bytes w true h in
    ap (λ (x : V × Place). x.0) (some_is (v, place (keeps true bytes (F.bytes v)) []) (w, place (keeps true bytes (F.bytes w)) []) same)

-- ---- formats that go on to the end of the bytes

-- one that knows its own end
pub Lawful-body : {V : Type 0} {F : Format V} → IsLawful F → IsLawfulBody F
Lawful-body {V} {F} r = record {
  reads = record {
    sound = λ p v q fits e none.
        let one = r.reads.sound p v q fits e in
        subst (λ (t : List ℕ). F.Encodes t v) (sym (one.parts ∙ ap (λ (t : List ℕ). one.prefix ++ t) none ∙ append-nil one.prefix)) one.encodes;
    complete = λ body v s g. ap (λ (t : List ℕ). F.at (place s t)) (sym (append-nil body)) ∙ r.reads.complete body v [] s g;
  };
  minimal = r.minimal;
  in_range = r.in_range;
  are_bytes = r.are_bytes;
}

pub Lawful-bytes_to_end : IsLawfulBody bytes_to_end
Lawful-bytes_to_end = record {
  reads = record {
    sound = λ p v q fits e none.
        let same : p.left ≡ v = ap (λ (x : List ℕ × Place). x.0) (some_is (p.left, place p.minimal []) (v, q) e) in
        (same, subst IsBytes same fits);
    complete = λ body v s g. rw (g.0, keeps_same s v) refl;
  };
  minimal = record { encodes = λ v fits. (refl, fits); again = λ bytes v g. (refl, g.1); least = λ bytes v g. inl g.0 };
  in_range = λ bytes v g. g.1;
  are_bytes = λ bytes v g. rw g.0 g.1;
}

ended : (bytes : List ℕ) → at_end bytes ≡ true → bytes ≡ []
ended [] e = refl
ended (b ∷ bytes) e = absurd cc

pub not_ended : (bytes : List ℕ) → 0 < length bytes → at_end bytes ≡ false
not_ended [] lt = absurd (omega arith)
not_ended (b ∷ bytes) lt = refl

pub some_bytes : {V : Type 0} (G : Grammar V) → TakesBytes G → (prefix : List ℕ) (v : V) → G prefix v → 0 < length prefix
some_bytes G some [] v g = absurd (some v g)
some_bytes G some (b ∷ prefix) v g = omega arith

nothing_left : {A : Type 0} (G : Grammar A) (p : Place) (vs : List A) (q : Place) → at_end p.left ≡ true → some {A = List A × Place} ([], p) ≡ some (vs, q) → Joined G p.left vs
nothing_left {A} G p vs q is e = subst (λ (x : List A × Place). Joined G p.left x.0) (some_is ([], p) (vs, q) e) (ended p.left is)

-- so many items to the end are read as they are encoded
abbrev SoundUntil : {A : Type 0} → Format A → ℕ → Type 0
SoundUntil {A} F n = (p : Place) (vs : List A) (q : Place) → IsBytes p.left → until_end F.at n p ≡ Some (vs, q) → Joined F.Encodes p.left vs

one_more : {A : Type 0} {F : Format A} → IsLawful F → (n : ℕ) → SoundUntil F n → (p : Place) (vs : List A) (q : Place) → IsBytes p.left → (t : Bool) → at_end p.left ≡ t
    → cond t (some {A = List A × Place} ([], p)) (F.at p >>= λ v. until_end F.at n v.1 >>= λ ws. Some (v.0 ∷ ws.0, ws.1)) ≡ Some (vs, q) → Joined F.Encodes p.left vs
one_more {F = F} r n more p vs q fits true is e = nothing_left F.Encodes p vs q is e
one_more {A} {F} r n more p vs q fits false other e =
    let a = bind_some (F.at p) (λ v. until_end F.at n v.1 >>= λ ws. Some (v.0 ∷ ws.0, ws.1)) (vs, q) e in
    let b = bind_some (until_end F.at n a.0.1) (λ ws. Some (a.0.0 ∷ ws.0, ws.1)) (vs, q) a.2 in
    let one = r.reads.sound p a.0.0 a.0.1 fits a.1 in
    let rest = more a.0.1 b.0.0 b.0.1 (IsBytes-after p.left a.0.1.left a.0.0 one fits) b.1 in
    let whole : Joined F.Encodes p.left (a.0.0 ∷ b.0.0) = (one.prefix, a.0.1.left, one.parts, one.encodes, rest) in
    subst (λ (x : List A × Place). Joined F.Encodes p.left x.0) (some_is (a.0.0 ∷ b.0.0, b.0.1) (vs, q) b.2) whole

until_sound : {A : Type 0} {F : Format A} → IsLawful F → (n : ℕ) → SoundUntil F n
unfolding until_end
until_sound {A} {F} r zero p vs q fits e = by (at_end p.left) refl e where
  by : (t : Bool) → at_end p.left ≡ t → cond t (some {A = List A × Place} ([], p)) None ≡ Some (vs, q) → Joined F.Encodes p.left vs
  by true is e = nothing_left F.Encodes p vs q is e
  by false other e = absurd cc
until_sound r (suc n) p vs q fits e = one_more r n (until_sound r n) p vs q fits (at_end p.left) refl e

until_complete : {A : Type 0} {F : Format A} → IsLawful F → TakesBytes F.Encodes → (n : ℕ) (body : List ℕ) (vs : List A) (s : Bool) → length body ≤ n → Joined F.Encodes body vs
    → until_end F.at n (place s body) ≡ Some (vs, place (keeps s body (flat_map F.bytes vs)) [])
unfolding until_end
until_complete r takes zero body [] s le g = rw (g, keeps_same s []) refl
until_complete r takes (suc n) body [] s le g = rw (g, keeps_same s []) refl
until_complete {F = F} r takes zero body (v ∷ vs) s le g =
    let lt = some_bytes F.Encodes takes g.0 v g.3 in
    absurd (omega (arith, lt, le, ap (length {A = ℕ}) g.2, length-append g.0 g.1))
until_complete {A} {F} r takes (suc n) body (v ∷ vs) s le g =
    let lt = some_bytes F.Encodes takes g.0 v g.3 in
    let len : length body ≡ length g.0 + length g.1 = ap (length {A = ℕ}) g.2 ∙ length-append g.0 g.1 in
    let mid = keeps s g.0 (F.bytes v) in
    let some : at_end body ≡ false = not_ended body (omega (arith, lt, len)) in
    let p : F.at (place s body) ≡ Some (v, place mid g.1) = ap (λ (t : List ℕ). F.at (place s t)) g.2 ∙ r.reads.complete g.0 v g.1 s g.3 in
    let more = until_complete r takes n g.1 vs mid (omega (arith, lt, len, le)) g.4 in
    let k : keeps mid g.1 (flat_map F.bytes vs) ≡ keeps s body (F.bytes v ++ flat_map F.bytes vs) =
    keeps_then s g.0 g.1 (F.bytes v) (flat_map F.bytes vs) (r.minimal.least g.0 v g.3) ((WritesMinimally-joined r.minimal).least g.1 vs g.4) ∙ ap (λ (f : List ℕ). keeps s f (F.bytes v ++ flat_map F.bytes vs)) (sym g.2) in
    rw (some, p, more, k) refl

pub Lawful-to-end : {A : Type 0} {F : Format A} → IsLawful F → TakesBytes F.Encodes → IsLawfulBody (to_end F)
Lawful-to-end {A} {F} r takes = record {
  reads = record {
    sound = λ p vs q fits e none. until_sound r (length p.left) p vs q fits e;
    complete = λ body vs s g. until_complete r takes (length body) body vs s (omega arith) g;
  };
  minimal = WritesMinimally-joined r.minimal;
  in_range = joined_in_range r;
  are_bytes = joined_bytes r;
}

-- ---- a size, and then that many bytes

pub IsBytes-prefix : (prefix back : List ℕ) → IsBytes (prefix ++ back) → IsBytes prefix
IsBytes-prefix [] back fits = tt
IsBytes-prefix (b ∷ prefix) back fits = (fits.0, IsBytes-prefix prefix back fits.1)

-- the place has these bytes, after their number
pub record Body (p : Place) (body : List ℕ) (after : Place) : Type 0 where
  pub size : List ℕ
  pub counts : EncodesU32 size (length body)
  pub parts : p.left ≡ (size ++ body) ++ after.left
  pub are_bytes : IsBytes body

taken : (p : Place) (n : ℕ) (mid : Place) → IsBytes p.left → n ≤ length mid.left → BeginsWith EncodesU32 p.left n mid.left → Body p (take n mid.left) (place mid.minimal (drop n mid.left))
taken p n mid fits le one =
    let split = take-append-drop n mid.left in
    let len : n ≡ length (take n mid.left) = omega (arith, length-take n mid.left) in
    record {
      size = one.prefix;
      counts = subst (λ (k : ℕ). EncodesU32 one.prefix k) len one.encodes;
      parts = in_a_row p.left one.prefix mid.left (take n mid.left) (drop n mid.left) one.parts (sym split);
      are_bytes = IsBytes-prefix (take n mid.left) (drop n mid.left) (subst IsBytes (sym split) (IsBytes-after p.left mid.left n one fits));
    }

guard_none : {A : Type 0} (test : Bool) (x y : A) → cond test None (Some x) ≡ Some y → (test ≡ false) × (x ≡ y)
guard_none true x y e = absurd cc
guard_none false x y e = (refl, some_is x y e)

pub body_sound : (p : Place) (body : List ℕ) (after : Place) → IsBytes p.left → body_at p ≡ Some (body, after) → Body p body after
body_sound p body after fits e =
    let s = bind_some (u32_at p) (λ size. cond (ltb (length size.1.left) size.0) None (Some (take size.0 size.1.left, place size.1.minimal (drop size.0 size.1.left)))) (body, after) e in
    let g = guard_none (ltb (length s.0.1.left) s.0.0) (take s.0.0 s.0.1.left, place s.0.1.minimal (drop s.0.0 s.0.1.left)) (body, after) s.2 in
    subst (λ (x : List ℕ × Place). Body p x.0 x.1) g.1 (taken p s.0.0 s.0.1 fits (ltb-false _ _ g.0) (Lawful-u32.reads.sound p s.0.0 s.0.1 fits s.1))

pub body_complete : (size body rest : List ℕ) (s : Bool) → EncodesU32 size (length body) → body_at (place s ((size ++ body) ++ rest)) ≡ Some (body, place (keeps s size (unsigned_leb128 (length body))) rest)
body_complete size body rest s g =
    let mid = keeps s size (unsigned_leb128 (length body)) in
    let p : u32_at (place s ((size ++ body) ++ rest)) ≡ Some (length body, place mid (body ++ rest)) = read_in_row u32_at s (size ++ body) size body rest (Some (length body, place mid (body ++ rest))) refl (Lawful-u32.reads.complete size (length body) (body ++ rest) s g) in
    let long : ltb (length (body ++ rest)) (length body) ≡ false = le-ltb _ _ (omega (arith, length-append body rest)) in
    rw (p, long, take_at body rest (length body) refl, drop_at body rest (length body) refl) refl

all_is : {A : Type 0} (o : Option (A × Place)) (x : A × Place) → if_all o ≡ Some x → (o ≡ Some x) × (x.1.left ≡ [])
all_is None x e = absurd cc
all_is {A} (Some y) x e = by (at_end y.1.left) refl e where
  by : (t : Bool) → at_end y.1.left ≡ t → cond t (some y) None ≡ some x → (some y ≡ some x) × (x.1.left ≡ [])
  by true is e = (e, subst (λ (z : A × Place). z.1.left ≡ []) (some_is y x e) (ended y.1.left is))
  by false other e = absurd cc

-- a larger number has no fewer digits
digits_of-mono : (turn : Bool) (top more n m : ℕ) → n ≤ m → length (digits_of turn top more n) ≤ length (digits_of turn top more m)
unfolding digits_of
digits_of-mono turn top zero n m le = omega arith
digits_of-mono turn top (suc more) n m le = by (digits_of-mono turn top more (n / 128) (m / 128) (omega arith)) (ltb n top) refl (ltb m top) refl where
  by : length (digits_of turn top more (n / 128)) ≤ length (digits_of turn top more (m / 128)) → (s : Bool) → ltb n top ≡ s → (t : Bool) → ltb m top ≡ t
      → length (cond s (complemented turn n ∷ []) ((128 + complemented turn (n % 128)) ∷ digits_of turn top more (n / 128))) ≤ length (cond t (complemented turn m ∷ []) ((128 + complemented turn (m % 128)) ∷ digits_of turn top more (m / 128)))
  by fewer true small true less = omega arith
  by fewer true small false less = omega arith
  by fewer false small true less = absurd (omega (arith, ltb-false _ _ small, ltb-true _ _ less))
  by fewer false small false less = omega arith

pub unsigned_leb128-mono : (n m : ℕ) → n ≤ m → length (unsigned_leb128 n) ≤ length (unsigned_leb128 m)
unfolding unsigned_leb128
unsigned_leb128-mono n m = digits_of-mono false 128 9 n m

-- a shorter body with its size is shorter
sized_shorter : (size body bytes : List ℕ) → EncodesU32 size (length body) → length bytes < length body → length (unsigned_leb128 (length bytes) ++ bytes) < length (size ++ body)
sized_shorter size body bytes g lt =
    let least = not_longer size (unsigned_leb128 (length body)) (Lawful-u32.minimal.least size (length body) g) in
    let fewer = unsigned_leb128-mono (length bytes) (length body) (omega arith) in
    omega (arith, least, fewer, length-append (unsigned_leb128 (length bytes)) bytes, length-append size body)

sized_least : (size body bytes : List ℕ) → EncodesU32 size (length body) → IsMinimalOrLonger body bytes → IsMinimalOrLonger (size ++ body) (unsigned_leb128 (length bytes) ++ bytes)
sized_least size body bytes g (inl e) = subst (λ (t : List ℕ). IsMinimalOrLonger (size ++ body) (unsigned_leb128 (length t) ++ t)) e (least_then (size ++ body) size body (unsigned_leb128 (length body)) body refl (Lawful-u32.minimal.least size (length body) g) (inl refl))
sized_least size body bytes g (inr lt) = inr (sized_shorter size body bytes g lt)

-- the size and the body are in their minimal encodings just where the whole is
keeps_sized : (s : Bool) (size body bytes : List ℕ) → EncodesU32 size (length body) → IsMinimalOrLonger body bytes → keeps (keeps s size (unsigned_leb128 (length body))) body bytes ≡ keeps s (size ++ body) (unsigned_leb128 (length bytes) ++ bytes)
keeps_sized s size body bytes g (inl e) =
    subst (λ (t : List ℕ). keeps (keeps s size (unsigned_leb128 (length body))) body t ≡ keeps s (size ++ body) (unsigned_leb128 (length t) ++ t)) e
    (keeps_then s size body (unsigned_leb128 (length body)) body (Lawful-u32.minimal.least size (length body) g) (inl refl))
keeps_sized s size body bytes g (inr lt) =
    keeps_longer (keeps s size (unsigned_leb128 (length body))) body bytes lt ∙ sym (keeps_longer s (size ++ body) (unsigned_leb128 (length bytes) ++ bytes) (sized_shorter size body bytes g lt))

pub Lawful-sized : {A : Type 0} {F : Format A} → IsLawfulBody F → IsLawful (sized F)
Lawful-sized {A} {F} r = record {
  reads = record { sound = sound; complete = complete };
  minimal = record { encodes = encodes; again = λ bytes v g. encodes v (in_range bytes v g); least = λ bytes v g. rw g.2 (sized_least g.0 g.1 (F.bytes v) g.3 (r.minimal.least g.1 v g.4)) };
  in_range = in_range;
  are_bytes = λ bytes v g. rw g.2 (IsBytes-append g.0 g.1 (Lawful-u32.are_bytes g.0 (length g.1) g.3) (r.are_bytes g.1 v g.4));
  begins = λ bytes v g. rw g.2 (begins_counted g.0 g.1 (Lawful-u32.begins g.0 (length g.1) g.3));
} where
  sound : (p : Place) (v : A) (q : Place) → IsBytes p.left → sized_at F.at p ≡ Some (v, q) → BeginsWith (Sized F.Encodes) p.left v q.left
  sound p v end fits e =
      let b = bind_some (body_at p) (λ body. if_all (F.at (place body.1.minimal body.0)) >>= λ x. Some (x.0, place x.1.minimal body.1.left)) (v, end) e in
      let x = bind_some (if_all (F.at (place b.0.1.minimal b.0.0))) (λ x. Some (x.0, place x.1.minimal b.0.1.left)) (v, end) b.2 in
      let one = body_sound p b.0.0 b.0.1 fits b.1 in
      let all = all_is (F.at (place b.0.1.minimal b.0.0)) x.0 x.1 in
      let inside = r.reads.sound (place b.0.1.minimal b.0.0) x.0.0 x.0.1 one.are_bytes all.0 all.1 in
      BeginsWith-at (Sized F.Encodes) p.left x.0.0 v (place x.0.1.minimal b.0.1.left) end x.2 (record { prefix = one.size ++ b.0.0; encodes = (one.size, b.0.0, refl, one.counts, inside); parts = one.parts })

  complete : (prefix : List ℕ) (v : A) (rest : List ℕ) (s : Bool) → Sized F.Encodes prefix v → sized_at F.at (place s (prefix ++ rest)) ≡ Some (v, place (keeps s prefix (unsigned_leb128 (length (F.bytes v)) ++ F.bytes v)) rest)
  complete prefix v rest s g =
      let mid = keeps s g.0 (unsigned_leb128 (length g.1)) in
      let p : body_at (place s (prefix ++ rest)) ≡ Some (g.1, place mid rest) = ap (λ (t : List ℕ). body_at (place s (t ++ rest))) g.2 ∙ body_complete g.0 g.1 rest s g.3 in
      let q = r.reads.complete g.1 v mid g.4 in
      let k : keeps mid g.1 (F.bytes v) ≡ keeps s prefix (unsigned_leb128 (length (F.bytes v)) ++ F.bytes v) =
      keeps_sized s g.0 g.1 (F.bytes v) g.3 (r.minimal.least g.1 v g.4) ∙ ap (λ (f : List ℕ). keeps s f (unsigned_leb128 (length (F.bytes v)) ++ F.bytes v)) (sym g.2) in
      rw (p, q, k) refl

  encodes : (v : A) → F.InRange v × (length (F.bytes v) < 2 ^ 32) → Sized F.Encodes (unsigned_leb128 (length (F.bytes v)) ++ F.bytes v) v
  encodes v fits = (unsigned_leb128 (length (F.bytes v)), F.bytes v, refl, Lawful-u32.minimal.encodes (length (F.bytes v)) fits.1, r.minimal.encodes v fits.0)

  in_range : (bytes : List ℕ) (v : A) → Sized F.Encodes bytes v → F.InRange v × (length (F.bytes v) < 2 ^ 32)
  in_range bytes v g = (r.in_range g.1 v g.4, omega (arith, not_longer g.1 (F.bytes v) (r.minimal.least g.1 v g.4), Lawful-u32.in_range g.0 (length g.1) g.3))

pub Lawful-byte-list : IsLawful byte_list
Lawful-byte-list = Lawful-sized Lawful-bytes_to_end

-- ---- what is made of a value, and the first format or the second

pub Lawful-made-body : {A B : Type 0} {F : Format A} (make : A → B) (parts : B → Option A) → ((a : A) → parts (make a) ≡ Some a) → IsLawfulBody F → IsLawfulBody (made make parts F)
Lawful-made-body {A} {B} {F} make parts inverse r = record {
  reads = record { sound = sound; complete = complete };
  minimal = WritesMinimally-for (made make parts F).InRange (WritesMinimally-map make (made make parts F).bytes r.minimal (λ a. ap (bytes_of F.bytes) (sym (inverse a)))) (λ b. fits b (parts b));
  in_range = λ bytes b g. subst (made make parts F).InRange g.2 (rw (inverse g.0) (r.in_range bytes g.0 g.1, refl));
  are_bytes = λ bytes b g. r.are_bytes bytes g.0 g.1;
} where
  fits : (b : B) (o : Option A) → IsSomeAnd o (λ a. F.InRange a × (make a ≡ b)) → (a : A) × F.InRange a × (make a ≡ b)
  fits b (Some a) h = (a, h.0, h.1)
  fits b None h = absurd h

  sound : (p : Place) (b : B) (q : Place) → IsBytes p.left → (made make parts F).at p ≡ Some (b, q) → q.left ≡ [] → (made make parts F).Encodes p.left b
  sound start b end all e none =
      let p = bind_some (F.at start) (λ a. Some (make a.0, a.1)) (b, end) e in
      let same = some_is (make p.0.0, p.0.1) (b, end) p.2 in
      let ends : p.0.1.left ≡ [] = ap (λ (x : B × Place). x.1.left) same ∙ none in
      (p.0.0, r.reads.sound start p.0.0 p.0.1 all p.1 ends, ap (λ (x : B × Place). x.0) same)

  complete : (body : List ℕ) (b : B) (s : Bool) → (made make parts F).Encodes body b → (made make parts F).at (place s body) ≡ Some (b, place (keeps s body (bytes_of F.bytes (parts b))) [])
  complete body b s g =
      let p : parts b ≡ Some g.0 = ap parts (sym g.2) ∙ inverse g.0 in
      rw (r.reads.complete body g.0 s g.1, p, g.2) refl

pub Lawful-choose-body : {A : Type 0} (test : Bool) {F G : Format A} → IsLawfulBody F → IsLawfulBody G → IsLawfulBody (choose test F G)
Lawful-choose-body true r s = r
Lawful-choose-body false r s = s

-- ---- these bytes, and then the rest

abbrev SoundHeaded : {A : Type 0} → Format A → List ℕ → Type 0
SoundHeaded {A} F head = (p : Place) (v : A) (q : Place) → IsBytes p.left → headed_at head F.at p ≡ Some (v, q) → q.left ≡ [] → After head F.Encodes p.left v

headed_step : {A : Type 0} (F : Format A) (n : ℕ) (head : List ℕ) → SoundHeaded F head → (p : Place) (v : A) (q : Place) → IsBytes p.left → q.left ≡ [] → (b : ℕ) (next : Place) → byte_at p ≡ Some (b, next) → (t : Bool) → eqb b n ≡ t
    → cond t (headed_at head F.at next) None ≡ Some (v, q) → After (n ∷ head) F.Encodes p.left v
headed_step F n head more p v q fits none b next took true is e =
    let g = more next v q (taken_fits p next b took fits).1 e none in
    (g.0, (byte_took p next b took).bytes ∙ ap (λ (k : ℕ). k ∷ next.left) (eqb-true b n is) ∙ ap (λ (t : List ℕ). n ∷ t) g.1, g.2)
headed_step F n head more p v q fits none b next took false other e = absurd cc

headed_sound : {A : Type 0} {F : Format A} → IsLawfulBody F → (head : List ℕ) → SoundHeaded F head
headed_sound r [] p v q fits e none = (p.left, refl, r.reads.sound p v q fits e none)
headed_sound {A} {F} r (n ∷ head) p v q fits e none =
    let f = bind_some (byte_at p) (λ first. cond (eqb first.0 n) (headed_at head F.at first.1) None) (v, q) e in
    headed_step F n head (headed_sound r head) p v q fits none f.0.0 f.0.1 f.1 (eqb f.0.0 n) refl f.2

headed_complete : {A : Type 0} {F : Format A} → IsLawfulBody F → (head body : List ℕ) (v : A) (s : Bool) → After head F.Encodes body v → headed_at head F.at (place s body) ≡ Some (v, place (keeps s body (head ++ F.bytes v)) [])
unfolding byte_at
headed_complete r [] body v s g = rw g.1 (r.reads.complete g.0 v s g.2)
headed_complete {F = F} r (n ∷ head) body v s g =
    rw (g.1, eq-eqb n n refl, keeps_cons s n n (head ++ g.0) (head ++ F.bytes v)) (headed_complete r head (head ++ g.0) v s (g.0, refl, g.2))

headed_least : (head back bytes : List ℕ) → IsMinimalOrLonger back bytes → IsMinimalOrLonger (head ++ back) (head ++ bytes)
headed_least head back bytes g = least_then (head ++ back) head back head bytes refl (inl refl) g

pub Lawful-headed-body : {A : Type 0} {F : Format A} (head : List ℕ) → IsBytes head → IsLawfulBody F → IsLawfulBody (headed head F)
Lawful-headed-body {A} {F} head are r = record {
  reads = record { sound = headed_sound r head; complete = headed_complete r head };
  minimal = record {
    encodes = λ v fits. (F.bytes v, refl, r.minimal.encodes v fits);
    again = λ bytes v g. (F.bytes v, refl, r.minimal.again g.0 v g.2);
    least = λ bytes v g. rw g.1 (headed_least head g.0 (F.bytes v) (r.minimal.least g.0 v g.2));
  };
  in_range = λ bytes v g. r.in_range g.0 v g.2;
  are_bytes = λ bytes v g. rw g.1 (IsBytes-append head g.0 are (r.are_bytes g.0 v g.2));
}

-- ---- an encoding, and then what goes on to the end

then_sound : {A B : Type 0} {F : Format A} {G : A → Format B} → IsLawful F → ((a : A) → IsLawfulBody (G a)) → (p : Place) (v : A × B) (q : Place) → IsBytes p.left → (F ⊗> G).at p ≡ Some (v, q) → q.left ≡ [] → (F ⊗> G).Encodes p.left v
then_sound {A} {B} {F} {G} r s start v end fits e none =
    let p = bind_some (F.at start) (λ a. (G a.0).at a.1 >>= λ b. Some ((a.0, b.0), b.1)) (v, end) e in
    let q = bind_some ((G p.0.0).at p.0.1) (λ b. Some ((p.0.0, b.0), b.1)) (v, end) p.2 in
    let one = r.reads.sound start p.0.0 p.0.1 fits p.1 in
    let same = some_is ((p.0.0, q.0.0), q.0.1) (v, end) q.2 in
    let ends : q.0.1.left ≡ [] = ap (λ (x : (A × B) × Place). x.1.left) same ∙ none in
    let two = (s p.0.0).reads.sound p.0.1 q.0.0 q.0.1 (IsBytes-after start.left p.0.1.left p.0.0 one fits) q.1 ends in
    let whole : (F ⊗> G).Encodes start.left (p.0.0, q.0.0) = (one.prefix, p.0.1.left, one.parts, one.encodes, two) in
    subst (λ (x : (A × B) × Place). (F ⊗> G).Encodes start.left x.0) same whole

then_complete : {A B : Type 0} {F : Format A} {G : A → Format B} → IsLawful F → ((a : A) → IsLawfulBody (G a)) → (body : List ℕ) (v : A × B) (t : Bool) → (F ⊗> G).Encodes body v → (F ⊗> G).at (place t body) ≡ Some (v, place (keeps t body ((F ⊗> G).bytes v)) [])
then_complete {A} {B} {F} {G} r s body v t g =
    let mid = keeps t g.0 (F.bytes v.0) in
    let p : F.at (place t body) ≡ Some (v.0, place mid g.1) = ap (λ (l : List ℕ). F.at (place t l)) g.2 ∙ r.reads.complete g.0 v.0 g.1 t g.3 in
    let q : (G v.0).at (place mid g.1) ≡ Some (v.1, place (keeps mid g.1 ((G v.0).bytes v.1)) []) = (s v.0).reads.complete g.1 v.1 mid g.4 in
    let k : keeps mid g.1 ((G v.0).bytes v.1) ≡ keeps t body (F.bytes v.0 ++ (G v.0).bytes v.1) =
    keeps_then t g.0 g.1 (F.bytes v.0) ((G v.0).bytes v.1) (r.minimal.least g.0 v.0 g.3) ((s v.0).minimal.least g.1 v.1 g.4) ∙ ap (λ (f : List ℕ). keeps t f (F.bytes v.0 ++ (G v.0).bytes v.1)) (sym g.2) in
    rw (p, q, k) refl

pub Lawful-then-body : {A B : Type 0} {F : Format A} {G : A → Format B} → IsLawful F → ((a : A) → IsLawfulBody (G a)) → IsLawfulBody (F ⊗> G)
Lawful-then-body {A} {B} {F} {G} r s = record {
  reads = record { sound = then_sound r s; complete = then_complete r s };
  minimal = WritesMinimally-then r.minimal (λ a. (s a).minimal);
  in_range = λ bytes v g. (r.in_range g.0 v.0 g.3, (s v.0).in_range g.1 v.1 g.4);
  are_bytes = λ bytes v g. rw g.2 (IsBytes-append g.0 g.1 (r.are_bytes g.0 v.0 g.3) ((s v.0).are_bytes g.1 v.1 g.4));
}
