-- The laws of raw bytes: so many of them, numbers in so many, and a byte for which something holds.
use Rattle.std.proofs.Common.{◌≡◌, ℕ, zero, suc, ◌+◌, ◌*◌, ◌%◌, ◌/◌, ◌^◌, ◌<◌, ◌≤◌, Bool, true, false, cond, ltb, List, [], ◌∷◌, ◌++◌, length, take, drop, Option, Some, None, refl, sym, ap, subst, ◌∙◌, length-append, inl, arith}
use Rattle.std.proofs.lemmas.List.{take_at, drop_at, take-append-drop, length-take}
use Rattle.std.proofs.lemmas.Bool.{ltb-false, le-ltb}
use Rattle.std.proofs.lemmas.Nat.{div_below}
use Rattle.wasm_codec.specs.formats.Grammar.{IsBytes, Mapped}
use Rattle.wasm_codec.specs.Encoding.{IsMinimalOrLonger}
use Rattle.wasm_codec.specs.formats.Numbers.{EncodesS64}
use Rattle.wasm_codec.specs.Leb128.{signed_leb128, plain_s64_at, signed_within}
use Rattle.wasm_codec.proofs.Laws.{bind_some, some_is}
use Rattle.wasm_codec.specs.Reading.{BeginsWith}
use Rattle.wasm_codec.proofs.NumberLaws.{IsReadBy-s64, WritesMinimally-s64}
use Rattle.wasm_codec.specs.Places.{Place, place, keeps, byte_at, raw_at, s64_at}
use Rattle.wasm_codec.specs.formats.Combinators.{Format, made_of, byte_where, raw, with_low, low_and_high, little_endian, s64}
use Rattle.wasm_codec.proofs.NumberReading.{byte_took}
use Rattle.wasm_codec.proofs.FormatLaws.{keeps_same, BeginsWith-at, Reads-number, digits_bytes, digits_some, Lawful-byte, Lawful-nothing, Lawful-both, taken_fits}
use Rattle.wasm_codec.specs.Lawful.{IsLawful}

pub Lawful-s64 : IsLawful s64
unfolding EncodesS64 s64_at plain_s64_at
Lawful-s64 = record { reads = Reads-number (signed_within (2 ^ 63)) signed_leb128 IsReadBy-s64; minimal = WritesMinimally-s64; in_range = λ bytes n g. g.2.1; are_bytes = λ bytes n g. digits_bytes bytes g.0; begins = λ bytes n g. digits_some bytes g.0 }

-- ---- what is made of a value

-- the parts of a value in range are in range and make it, and what is made has its parts
pub Lawful-made-of : {A B : Type 0} {F : Format A} (make : A → B) (parts : B → A) (R : B → Type 0) → ((a : A) → F.InRange a → R (make a) × (parts (make a) ≡ a)) → ((b : B) → R b → F.InRange (parts b) × (make (parts b) ≡ b)) → IsLawful F → IsLawful (made_of make parts R F)
Lawful-made-of {A} {B} {F} make parts R back there r = record {
  reads = record { sound = sound; complete = complete };
  minimal = record { encodes = encodes; again = λ bytes b g. encodes b (in_range bytes b g); least = least };
  in_range = in_range;
  are_bytes = λ bytes b g. r.are_bytes bytes g.0 g.1;
  begins = λ bytes b g. r.begins bytes g.0 g.1;
} where
  sound : (p : Place) (b : B) (q : Place) → IsBytes p.left → (made_of make parts R F).at p ≡ Some (b, q) → BeginsWith (Mapped make F.Encodes) p.left b q.left
  sound start b end fits e =
      let p = bind_some (F.at start) (λ a. Some (make a.0, a.1)) (b, end) e in
      let one = r.reads.sound start p.0.0 p.0.1 fits p.1 in
      BeginsWith-at (Mapped make F.Encodes) start.left (make p.0.0) b p.0.1 end p.2 (record { prefix = one.prefix; encodes = (p.0.0, one.encodes, refl); parts = one.parts })

  parts_are : (bytes : List ℕ) (b : B) (g : Mapped make F.Encodes bytes b) → parts b ≡ g.0
  parts_are bytes b g = ap parts (sym g.2) ∙ (back g.0 (r.in_range bytes g.0 g.1)).1

  complete : (prefix : List ℕ) (b : B) (rest : List ℕ) (s : Bool) → Mapped make F.Encodes prefix b → (made_of make parts R F).at (place s (prefix ++ rest)) ≡ Some (b, place (keeps s prefix (F.bytes (parts b))) rest)
  complete prefix b rest s g = rw (r.reads.complete prefix g.0 rest s g.1, parts_are prefix b g, g.2) refl

  encodes : (b : B) → R b → Mapped make F.Encodes (F.bytes (parts b)) b
  encodes b fits = (parts b, r.minimal.encodes (parts b) (there b fits).0, (there b fits).1)

  in_range : (bytes : List ℕ) (b : B) → Mapped make F.Encodes bytes b → R b
  in_range bytes b g = subst R g.2 (back g.0 (r.in_range bytes g.0 g.1)).0

  least : (bytes : List ℕ) (b : B) → Mapped make F.Encodes bytes b → IsMinimalOrLonger bytes (F.bytes (parts b))
  least bytes b g = subst (λ (a : A). IsMinimalOrLonger bytes (F.bytes a)) (sym (parts_are bytes b g)) (r.minimal.least bytes g.0 g.1)

-- ---- a byte for which something holds

pub Lawful-byte-where : (test : ℕ → Bool) → IsLawful (byte_where test)
unfolding byte_at
Lawful-byte-where test = record {
  reads = record { sound = sound; complete = λ prefix b rest s g. rw (g.0, g.2, keeps_same s (b ∷ [])) refl };
  minimal = record { encodes = λ b fits. (refl, fits.0, fits.1); again = λ bytes b g. (refl, g.1, g.2); least = λ bytes b g. inl g.0 };
  in_range = λ bytes b g. (g.1, g.2);
  are_bytes = λ bytes b g. rw g.0 (g.1, tt);
  begins = λ bytes b g. rw g.0 g.2;
} where
  sound : (p : Place) (v : ℕ) (q : Place) → IsBytes p.left → (byte_where test).at p ≡ Some (v, q) → BeginsWith (byte_where test).Encodes p.left v q.left
  sound p v q fits e =
      let f = bind_some (byte_at p) (λ first. cond {A = Option (ℕ × Place)} (test first.0) (Some (first.0, first.1)) None) (v, q) e in
      by f.0.0 f.0.1 f.1 (test f.0.0) refl f.2
    where
      by : (b : ℕ) (next : Place) → byte_at p ≡ Some (b, next) → (t : Bool) → test b ≡ t → cond {A = Option (ℕ × Place)} t (Some (b, next)) None ≡ Some (v, q) → BeginsWith (byte_where test).Encodes p.left v q.left
      by b next took true is e = BeginsWith-at (byte_where test).Encodes p.left b v next q e (record { prefix = b ∷ []; encodes = (refl, (taken_fits p next b took fits).0, is); parts = (byte_took p next b took).bytes })
      by b next took false other e = absurd cc

-- ---- so many bytes

guard_none : {A : Type 0} (test : Bool) (x y : A) → cond test None (Some x) ≡ Some y → (test ≡ false) × (x ≡ y)
guard_none true x y e = absurd cc
guard_none false x y e = (refl, some_is x y e)

pub IsBytes-take : (bytes : List ℕ) (n : ℕ) → IsBytes bytes → IsBytes (take n bytes)
IsBytes-take bytes zero fits = tt
IsBytes-take [] (suc n) fits = tt
IsBytes-take (b ∷ bytes) (suc n) fits = (fits.0, IsBytes-take bytes n fits.1)

raw_taken : (count : ℕ) (bytes : List ℕ) → IsBytes bytes → count ≤ length bytes → BeginsWith (raw count).Encodes bytes (take count bytes) (drop count bytes)
raw_taken count bytes fits le = record {
  prefix = take count bytes;
  encodes = (refl, (omega (arith, length-take count bytes), IsBytes-take bytes count fits));
  parts = sym (take-append-drop count bytes);
}

pub Lawful-raw : (count : ℕ) → IsLawful (raw count)
unfolding raw_at
Lawful-raw count = record {
  reads = record { sound = sound; complete = complete };
  minimal = record { encodes = λ v fits. (refl, fits); again = λ bytes v g. (refl, g.1); least = λ bytes v g. inl g.0 };
  in_range = λ bytes v g. g.1;
  are_bytes = λ bytes v g. rw g.0 g.1.1;
  begins = λ bytes v g. refl;
} where
  sound : (p : Place) (v : List ℕ) (q : Place) → IsBytes p.left → (raw count).at p ≡ Some (v, q) → BeginsWith (raw count).Encodes p.left v q.left
  sound p v q fits e =
      let g = guard_none (ltb (length p.left) count) (take count p.left, place p.minimal (drop count p.left)) (v, q) e in
      subst (λ (x : List ℕ × Place). BeginsWith (raw count).Encodes p.left x.0 x.1.left) g.1 (raw_taken count p.left fits (ltb-false _ _ g.0))

  complete : (prefix v rest : List ℕ) (s : Bool) → (raw count).Encodes prefix v → (raw count).at (place s (prefix ++ rest)) ≡ Some (v, place (keeps s prefix v) rest)
  complete prefix v rest s g =
      let len : length v ≡ count = g.1.0 in
      let long : ltb (length (v ++ rest)) count ≡ false = le-ltb _ _ (omega (arith, length-append v rest)) in
      rw (g.0, long, take_at v rest count len, drop_at v rest count len, keeps_same s v) refl

-- ---- numbers in so many bytes

one_less : (more n : ℕ) → n < 256 ^ suc more → n / 256 < 256 ^ more
one_less more n lt =
    let p : 256 ^ suc more ≡ 256 * 256 ^ more = omega arith in
    let q : n < 256 * 256 ^ more = rw p at lt in
    div_below n 256 (256 ^ more) (omega arith) (omega arith)

one_more : (more low high : ℕ) → low < 256 → high < 256 ^ more → low + 256 * high < 256 ^ suc more
one_more more low high lt below =
    let p : 256 ^ suc more ≡ 256 * 256 ^ more = omega arith in
    rw p (omega arith)

pub low_and_high_are : (low high : ℕ) → low < 256 → low_and_high (low + 256 * high) ≡ (low, high)
low_and_high_are low high lt =
    let first : (low + 256 * high) % 256 ≡ low = omega arith in
    let back : (low + 256 * high) / 256 ≡ high = omega arith in
    ap (λ (k : ℕ). (k, (low + 256 * high) / 256)) first ∙ ap (λ (k : ℕ). (low, k)) back

-- in range just below this power
pub little_range : (count n : ℕ) → n < 256 ^ count → (little_endian count).InRange n
unfolding little_endian
little_range zero n lt = lt
little_range (suc more) n lt = lt

pub little_below : (count n : ℕ) → (little_endian count).InRange n → n < 256 ^ count
unfolding little_endian
little_below zero n lt = lt
little_below (suc more) n lt = lt

pub Lawful-little-endian : (count : ℕ) → IsLawful (little_endian count)
unfolding little_endian
Lawful-little-endian zero = Lawful-made-of (λ n. n) (λ n. 0) (λ n. n < 256 ^ 0) (λ n e. (omega (arith, e), e)) (λ n lt. (refl, omega arith)) (Lawful-nothing 0)
Lawful-little-endian (suc more) =
    Lawful-made-of with_low low_and_high (λ n. n < 256 ^ suc more)
    (λ p fits. (one_more more p.0 p.1 fits.0 (little_below more p.1 fits.1), low_and_high_are p.0 p.1 fits.0))
    (λ n lt. ((omega arith, little_range more (n / 256) (one_less more n lt)), omega arith))
    (Lawful-both Lawful-byte (Lawful-little-endian more))
