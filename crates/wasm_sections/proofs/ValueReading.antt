-- Reading and rewriting a value that is all of the bytes.
use Rattle.std.specs.Borrow.{GName}
use Rattle.std.proofs.Common.{◌≡◌, ℕ, ◌-◌, ◌<◌, ◌≤◌, true, false, List, [], ◌∷◌, ◌++◌, length, Option, Some, None, Ok, Err, refl, sym, ap, subst, ◌∙◌, length-append, inl, inr, arith}
use Rattle.std.proofs.lemmas.List.{append-nil}
use Rattle.wasm_codec.specs.formats.Grammar.{IsBytes}
use Rattle.wasm_codec.specs.Lawful.{IsLawful, IsLawfulBody}
use Rattle.wasm_codec.specs.Places.{Place, place, keeps, u32_at, Reads}
use Rattle.wasm_codec.specs.declared.reader.cursor.Fault.{Fault}
use Rattle.wasm_codec.specs.formats.Combinators.{Format, u32, minimal_only}
use Rattle.wasm_codec.specs.Decoding.{ReadsAll, RewritesTo}
use Rattle.wasm_codec.specs.Outcomes.{IsMalformed, IsNormalForm}
use Rattle.wasm_codec.specs.Rewriter.{rest_of, Rewriting, rewriting, rewriting_after, Rewrites}
use Rattle.wasm_codec.specs.declared.reader.cursor.Fault.TheVariants as faults
use Rattle.wasm_codec.specs.declared.reader.ReadError.TheVariants as errors
use Rattle.wasm_codec.proofs.Laws.{some_is}
use Rattle.wasm_codec.proofs.FormatLaws.{Lawful-u32}
use Rattle.wasm_codec.proofs.PlaceLists.{Lawful-minimal_only}
use Rattle.wasm_codec.proofs.BodyLaws.{Lawful-body}
use Rattle.wasm_codec.proofs.RewriterLaws.{is_after}
use Rattle.wasm_code.specs.DecodedPrefixes.{IsNothingOr}
use Rattle.wasm_sections.specs.Prefixes.{IsRefusedAt, AreLawfulPrefixes}

-- rewriting needs no memory
pub rewrites_malformed : {V : Type 0} (F : Format V) (old new : Rewriting) (fault : Fault) → Rewrites F old new (Err fault) → IsMalformed fault
rewrites_malformed F old new faults.Memory none = none
rewrites_malformed F old new (faults.Malformed m) none = tt

module _ {V : Type 0} {F : Format V} (r : IsLawful F) where
  -- the first value is read
  first_read : (bytes other after : List ℕ) (v : V) → bytes ≡ other ++ after → F.Encodes other v → F.at (place true bytes) ≡ Some (v, place (keeps true other (F.bytes v)) after)
  first_read bytes other after v e g = ap (λ (l : List ℕ). F.at (place true l)) e ∙ r.reads.complete other v after true g

  clash : {A : Type 0} (o : Option A) (x : A) → o ≡ None → o ≡ Some x → ⊥
  clash o x e f = absurd cc

  pub nothing_there : (bytes : List ℕ) → F.at (place true bytes) ≡ None → IsRefusedAt F bytes 0
  nothing_there bytes none = record {
    prefix = record { prefix = []; rest = bytes; parts = refl; len_is = refl; whole = inl refl; longest = longest };
    unencoded = λ v g. clash (F.at (place true bytes)) (v, place (keeps true bytes (F.bytes v)) []) none (first_read bytes bytes [] v (sym (append-nil bytes)) g);
  } where
    longest : (other after : List ℕ) → bytes ≡ other ++ after → IsNothingOr F other → length other ≤ 0
    longest other after e (inl nothing) = omega (arith, ap (length {A = ℕ}) nothing)
    longest other after e (inr g) = absurd (clash (F.at (place true bytes)) (g.0, place (keeps true other (F.bytes g.0)) after) none (first_read bytes other after g.0 e g.1))

  same_left : (bytes other after : List ℕ) (v w : V) (q : Place) → F.at (place true bytes) ≡ Some (v, q) → bytes ≡ other ++ after → F.Encodes other w → q.left ≡ after
  same_left bytes other after v w q read e g = ap (λ (x : V × Place). x.1.left) (some_is (v, q) (w, place (keeps true other (F.bytes w)) after) (sym read ∙ first_read bytes other after w e g))

  pub left_over : (bytes : List ℕ) (v : V) (q : Place) → IsBytes bytes → F.at (place true bytes) ≡ Some (v, q) → 0 < length q.left → IsRefusedAt F bytes (length bytes - length q.left)
  left_over bytes v q fits read some =
      let one = r.reads.sound (place true bytes) v q fits read in
      record {
        prefix = record { prefix = one.prefix; rest = q.left; parts = one.parts; len_is = omega (arith, ap (length {A = ℕ}) one.parts, length-append one.prefix q.left); whole = inr (v, one.encodes); longest = longest };
        unencoded = λ w g. absurd (omega (arith, some, ap (length {A = ℕ}) (same_left bytes bytes [] v w q read (sym (append-nil bytes)) g)));
      }
    where
      longest : (other after : List ℕ) → bytes ≡ other ++ after → IsNothingOr F other → length other ≤ length bytes - length q.left
      longest other after e (inl nothing) = omega (arith, ap (length {A = ℕ}) nothing)
      longest other after e (inr g) = omega (arith, ap (length {A = ℕ}) (same_left bytes other after v g.0 q read e g.1), ap (length {A = ℕ}) e, length-append other after)

  pub all_there : (bytes : List ℕ) (v : V) (q : Place) → IsBytes bytes → F.at (place true bytes) ≡ Some (v, q) → length q.left ≤ 0 → F.Encodes bytes v
  all_there bytes v q fits read none =
      let one = r.reads.sound (place true bytes) v q fits read in
      subst (λ (l : List ℕ). F.Encodes l v) (sym (one.parts ∙ ap (λ (l : List ℕ). one.prefix ++ l) (empty q.left none) ∙ append-nil one.prefix)) one.encodes
    where
      empty : (l : List ℕ) → length l ≤ 0 → l ≡ []
      empty [] le = refl
      empty (b ∷ l) le = absurd (omega arith)

-- ---- what is returned

module _ {X V : Type 0} (view : X → V) (F : Format V) (bytes : List ℕ) where
  pub refuses : (at : ℕ) → IsRefusedAt F bytes at → ReadsAll view F.Encodes (IsNothingOr F) bytes (Err (errors.Refused at))
  refuses at r = record { given = tt; prefix = r.prefix; unencoded = r.unencoded }

  pub returns_it : (x : X) → F.Encodes bytes (view x) → ReadsAll view F.Encodes (IsNothingOr F) bytes (Ok x)
  returns_it x g = record { given = g; prefix = tt; unencoded = tt }

pub prefixes_lawful : {V : Type 0} {F : Format V} → IsLawful F → AreLawfulPrefixes F
prefixes_lawful r = record {
  none = λ bytes none. (nothing_there r bytes none).prefix;
  more = λ bytes v q fits read some. (left_over r bytes v q fits read some).prefix;
  within = λ bytes v q fits read.
      let one = r.reads.sound (place true bytes) v q fits read in
      omega (arith, ap (length {A = ℕ}) one.parts, length-append one.prefix q.left);
}

pub number_prefixes : AreLawfulPrefixes u32
number_prefixes = prefixes_lawful Lawful-u32

pub number_is_lawful : IsLawfulBody u32
number_is_lawful = Lawful-body Lawful-u32

-- ---- numbers in their minimal encodings

pub minimal_only_read : (bytes : List ℕ) (n : ℕ) (q : Place) → u32_at (place true bytes) ≡ Some (n, q) → q.minimal ≡ true → (minimal_only u32).at (place true bytes) ≡ Some (n, q)
minimal_only_read bytes n q read short = rw (read, short) refl

pub minimal_only_long : (bytes : List ℕ) (n : ℕ) (q : Place) → u32_at (place true bytes) ≡ Some (n, q) → q.minimal ≡ false → (minimal_only u32).at (place true bytes) ≡ None
minimal_only_long bytes n q read long = rw (read, long) refl

pub minimal_only_none : (bytes : List ℕ) → u32_at (place true bytes) ≡ None → (minimal_only u32).at (place true bytes) ≡ None
minimal_only_none bytes none = rw none refl

-- ---- as the code has them

no_u32 : (p new : Place) (fault : Fault) → Reads u32_at p new (Err fault) → IsMalformed fault → u32_at p ≡ None
no_u32 p new (faults.Malformed m) none is = none
no_u32 p new faults.Memory none is = absurd is

module _ (bytes : List ℕ) (p : Place) (start : p ≡ place true bytes) where
  read_there : (n : ℕ) (q : Place) → u32_at p ≡ Some (n, q) → u32_at (place true bytes) ≡ Some (n, q)
  read_there n q read = ap u32_at (sym start) ∙ read

  are_bytes : IsBytes p.left → IsBytes bytes
  are_bytes fits = subst (λ (t : Place). IsBytes t.left) start fits

  pub number_wanting : (new : Place) (fault : Fault) → Reads u32_at p new (Err fault) → IsMalformed fault → IsRefusedAt u32 bytes 0
  number_wanting new fault none is = nothing_there Lawful-u32 bytes (ap u32_at (sym start) ∙ no_u32 p new fault none is)

  pub fewer_left : (n : ℕ) (q : Place) → IsBytes p.left → u32_at p ≡ Some (n, q) → length q.left ≤ length bytes
  fewer_left n q fits read =
      let one = Lawful-u32.reads.sound (place true bytes) n q (are_bytes fits) (read_there n q read) in
      omega (arith, ap (length {A = ℕ}) one.parts, length-append one.prefix q.left)

  pub number_left_over : (n at : ℕ) (q : Place) → IsBytes p.left → u32_at p ≡ Some (n, q) → 0 < length q.left → at ≡ length bytes - length q.left → IsRefusedAt u32 bytes at
  number_left_over n at q fits read some is = subst (IsRefusedAt u32 bytes) (sym is) (left_over Lawful-u32 bytes n q (are_bytes fits) (read_there n q read) some)

  pub number_there : (n : ℕ) (q : Place) → IsBytes p.left → u32_at p ≡ Some (n, q) → length q.left ≤ 0 → u32.Encodes bytes n
  number_there n q fits read none = all_there Lawful-u32 bytes n q (are_bytes fits) (read_there n q read) none

  pub short_wanting : (new : Place) (fault : Fault) → Reads u32_at p new (Err fault) → IsMalformed fault → IsRefusedAt (minimal_only u32) bytes 0
  short_wanting new fault none is = nothing_there (Lawful-minimal_only Lawful-u32) bytes (minimal_only_none bytes (ap u32_at (sym start) ∙ no_u32 p new fault none is))

  pub short_long : (n : ℕ) (q : Place) → u32_at p ≡ Some (n, q) → q.minimal ≡ false → IsRefusedAt (minimal_only u32) bytes 0
  short_long n q read long = nothing_there (Lawful-minimal_only Lawful-u32) bytes (minimal_only_long bytes n q (read_there n q read) long)

  pub short_left_over : (n at : ℕ) (q : Place) → IsBytes p.left → u32_at p ≡ Some (n, q) → q.minimal ≡ true → 0 < length q.left → at ≡ length bytes - length q.left → IsRefusedAt (minimal_only u32) bytes at
  short_left_over n at q fits read short some is = subst (IsRefusedAt (minimal_only u32) bytes) (sym is) (left_over (Lawful-minimal_only Lawful-u32) bytes n q (are_bytes fits) (minimal_only_read bytes n q (read_there n q read) short) some)

  pub short_there : (n : ℕ) (q : Place) → IsBytes p.left → u32_at p ≡ Some (n, q) → q.minimal ≡ true → length q.left ≤ 0 → (minimal_only u32).Encodes bytes n
  short_there n q fits read short none = all_there (Lawful-minimal_only Lawful-u32) bytes n q (are_bytes fits) (minimal_only_read bytes n q (read_there n q read) short) none

-- ---- rewriting

module _ {V : Type 0} {F : Format V} (r : IsLawfulBody F) (t : AreLawfulPrefixes F) (bytes : List ℕ) (old new : Rewriting) {g : GName} (begun : old ≡ rewriting [] (place true bytes) (rest_of [] g)) where
  no_some : {A : Type 0} (x : A) → None ≡ Some x → ⊥
  no_some x e = absurd cc

  pub whole_none : (fault : Fault) → Rewrites F old new (Err fault) → IsRefusedAt F bytes 0
  whole_none faults.Memory e = absurd e
  whole_none (faults.Malformed m) e =
      let none : F.at (place true bytes) ≡ None = ap (λ (r : Rewriting). F.at r.place) (sym begun) ∙ e in
      record { prefix = t.none bytes none; unencoded = λ v g. no_some (v, place (keeps true bytes (F.bytes v)) []) (sym none ∙ r.reads.complete bytes v true g) }

  module _ (fits : IsBytes old.place.left) (e : rewriting_after F old ≡ Some new) where
    all_bytes : IsBytes bytes
    all_bytes = subst (λ (r : Rewriting). IsBytes r.place.left) begun fits

    read : (v : V) → F.at old.place ≡ Some (v, new.place) → F.at (place true bytes) ≡ Some (v, new.place)
    read v is = ap (λ (r : Rewriting). F.at r.place) (sym begun) ∙ is

    pub whole_within : length new.place.left ≤ length bytes
    whole_within = let one = is_after F old new e in t.within bytes one.value new.place all_bytes (read one.value one.given.is_read)

    pub whole_left_over : 0 < length new.place.left → IsRefusedAt F bytes (length bytes - length new.place.left)
    whole_left_over some =
        let one = is_after F old new e in
        let is = read one.value one.given.is_read in
        record {
          prefix = t.more bytes one.value new.place all_bytes is some;
          unencoded = λ v g.
              let same = some_is (one.value, new.place) (v, place (keeps true bytes (F.bytes v)) []) (sym is ∙ r.reads.complete bytes v true g) in
              absurd (omega (arith, some, ap (λ (x : V × Place). length x.1.left) same));
        }

    pub whole_given : length new.place.left ≤ 0 → IsNormalForm F.Encodes F.bytes bytes new.done
    whole_given none =
        let one = is_after F old new e in
        record {
          value = one.value;
          encoded = r.reads.sound (place true bytes) one.value new.place all_bytes (read one.value one.given.is_read) (no_bytes new.place.left none);
          is_minimal = one.given.written ∙ ap (λ (r : Rewriting). r.done ++ F.bytes one.value) begun;
        }
      where
        no_bytes : (l : List ℕ) → length l ≤ 0 → l ≡ []
        no_bytes [] le = refl
        no_bytes (b ∷ l) le = absurd (omega arith)

-- ---- what is returned

module _ {V : Type 0} (F : Format V) (bytes : List ℕ) where
  pub refuses_rewriting : {X : Type 0} {encoding : X → List ℕ} (at : ℕ) → IsRefusedAt F bytes at → RewritesTo F (IsNothingOr F) bytes encoding (Err (errors.Refused at))
  refuses_rewriting at r = record { given = tt; prefix = r.prefix; unencoded = r.unencoded }
