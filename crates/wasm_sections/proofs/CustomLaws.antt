-- The laws of custom sections, and what is read and written of them.
use Rattle.std.proofs.Common.{◌≡◌, ℕ, ◌≤◌, true, false, List, [], ◌++◌, length, take, length-append, Option, Some, None, Result, Ok, Err, OnOk, refl, sym, ap, subst, ◌∙◌, append_assoc, inl, inr, arith, ◌+◌}
use Rattle.std.proofs.Math.Seq.{take-length}
use Rattle.std.proofs.lemmas.List.{append-nil}
use Rattle.wasm_codec.specs.Encoding.{byte_list_bytes, IsMinimalOrLonger, IsMinimal}
use Rattle.wasm_codec.specs.formats.Grammar.{IsBytes}
use Rattle.wasm_codec.specs.declared.reader.cursor.Fault.{Fault}
use Rattle.wasm_codec.specs.Outcomes.{IsMalformed}
use Rattle.wasm_codec.specs.Lawful.{IsLawful, IsLawfulBody}
use Rattle.wasm_codec.specs.Places.{Place, place, keeps, Reads}
use Rattle.wasm_codec.specs.Rewriter.{Rewriting, rewriting_after}
use Rattle.wasm_codec.specs.formats.Bodies.{bytes_to_end}
use Rattle.wasm_codec.specs.formats.Combinators.{Format, ◌⊗◌, minimal_only}
use Rattle.wasm_codec.specs.Leb128.{unsigned_leb128}
use Rattle.wasm_codec.specs.declared.reader.cursor.Fault.TheVariants as faults
use Rattle.wasm_codec.proofs.PlaceLists.{Lawful-minimal_only}
use Rattle.wasm_codec.proofs.BodyLaws.{Lawful-bytes_to_end, Lawful-made-body, Lawful-then-body}
use Rattle.wasm_codec.proofs.Laws.{bind_some, some_is}
use Rattle.wasm_codec.proofs.RewriterLaws.{is_after, after_is}
use Rattle.wasm_codec.proofs.NumberLaws.{written}
use Rattle.wasm_lists.proofs.WrittenLists.{in_range_of}
use Rattle.wasm_sections.specs.formats.EntryParts.{CustomParts}
use Rattle.wasm_code.specs.DecodedPrefixes.{IsNothingOr}
use Rattle.wasm_sections.specs.Prefixes.{IsRefusedAt, AreLawfulPrefixes}
use Rattle.wasm_externals.specs.formats.Names.{name}
use Rattle.wasm_sections.specs.formats.Sections.{custom_of, parts_of_custom, custom_body}
use Rattle.wasm_externals.proofs.NameLaws.{name_is_lawful}

pub custom_is_lawful : IsLawfulBody custom_body
unfolding custom_body
custom_is_lawful = Lawful-made-body custom_of parts_of_custom (λ p. refl) (Lawful-then-body name_is_lawful (λ n. Lawful-bytes_to_end))

pub custom_refused : (p : Place) → name.at p ≡ None → custom_body.at p ≡ None
unfolding custom_body
custom_refused p none = rw none refl

pub custom_rewritten : (old mid new : Rewriting) → rewriting_after name old ≡ Some mid → rewriting_after bytes_to_end mid ≡ Some new → rewriting_after custom_body old ≡ Some new
unfolding custom_body
custom_rewritten old mid new e f =
    let n = is_after name old mid e in
    let b = is_after bytes_to_end mid new f in
    let same = ap (λ (x : List ℕ × Place). Some (custom_of (n.value, x.0), x.1)) (some_is (mid.place.left, place mid.place.minimal []) (b.value, new.place) b.given.is_read) in
    after_is custom_body old new (custom_of (n.value, b.value)) (rw n.given.is_read same) (b.given.written ∙ ap (λ (d : List ℕ). d ++ b.value) n.given.written ∙ append_assoc old.done (name.bytes n.value) b.value) (b.given.rest ∙ n.given.rest)

-- what is read of it leaves nothing
nothing_left : (p : Place) (v : CustomParts) (q : Place) → custom_body.at p ≡ Some (v, q) → q.left ≡ []
unfolding custom_body
nothing_left p v q e =
    let x = bind_some ((name ⊗ bytes_to_end).at p) (λ a. Some (custom_of a.0, a.1)) (v, q) e in
    let y = bind_some (name.at p) (λ a. Some ((a.0, a.1.left), place a.1.minimal [])) x.0 x.1 in
    sym (ap (λ (z : CustomParts × Place). z.1.left) (some_is (custom_of x.0.0, x.0.1) (v, q) x.2)) ∙ sym (ap (λ (z : (List ℕ × List ℕ) × Place). z.1.left) (some_is ((y.0.0, y.0.1.left), place y.0.1.minimal []) x.0 y.2))

clash : {A : Type 0} (o : Option A) (x : A) → o ≡ None → o ≡ Some x → ⊥
clash o x e f = absurd cc

-- an encoding begins with that of a name
pub record Begins (N : Format (List ℕ)) (other : List ℕ) : Type 0 where
  pub text : List ℕ
  pub front : List ℕ
  pub back : List ℕ
  pub parts : other ≡ front ++ back
  pub encodes : N.Encodes front text

module _ {N : Format (List ℕ)} (r : IsLawful N) (F : Format CustomParts) (begins : (other : List ℕ) (v : CustomParts) → F.Encodes other v → Begins N other) where
  none_begins : (bytes other after : List ℕ) (v : CustomParts) → N.at (place true bytes) ≡ None → bytes ≡ other ++ after → F.Encodes other v → ⊥
  none_begins bytes other after v none e g =
      let b = begins other v g in
      clash (N.at (place true bytes)) (b.text, place (keeps true b.front (N.bytes b.text)) (b.back ++ after)) none
      (ap (λ (l : List ℕ). N.at (place true l)) (e ∙ ap (λ (l : List ℕ). l ++ after) b.parts ∙ append_assoc b.front b.back after) ∙ r.reads.complete b.front b.text (b.back ++ after) true b.encodes)

  pub no_name : (bytes : List ℕ) → N.at (place true bytes) ≡ None → IsRefusedAt F bytes 0
  no_name bytes none = record {
    prefix = record { prefix = []; rest = bytes; parts = refl; len_is = refl; whole = inl refl; longest = longest };
    unencoded = λ v g. none_begins bytes bytes [] v none (sym (append-nil bytes)) g;
  } where
    longest : (other after : List ℕ) → bytes ≡ other ++ after → IsNothingOr F other → length other ≤ 0
    longest other after e (inl nothing) = omega (arith, ap (length {A = ℕ}) nothing)
    longest other after e (inr g) = absurd (none_begins bytes other after g.0 none e g.1)

begins_with_name : (other : List ℕ) (v : CustomParts) → custom_body.Encodes other v → Begins name other
unfolding custom_body
begins_with_name other v g = record { text = g.0.0; front = g.1.0; back = g.1.1; parts = g.1.2; encodes = g.1.3 }

begins_with_short_name : (other : List ℕ) (v : CustomParts) → (minimal_only custom_body).Encodes other v → Begins (minimal_only name) other
unfolding custom_body
begins_with_short_name other v g =
    let h = g.0.1 in
    let whole : h.0 ++ h.1 ≡ name.bytes g.0.0.0 ++ g.0.0.1 = sym h.2 ∙ g.1 ∙ ap (λ (w : CustomParts). name.bytes w.name ++ w.data_bytes) (sym g.0.2) in
    record { text = g.0.0.0; front = h.0; back = h.1; parts = h.2; encodes = (h.3, short h.0 h.1 (name.bytes g.0.0.0) g.0.0.1 (name_is_lawful.minimal.least h.0 g.0.0.0 h.3) h.4.0 whole) }
  where
    short : (front back bytes rest : List ℕ) → IsMinimalOrLonger front bytes → back ≡ rest → front ++ back ≡ bytes ++ rest → front ≡ bytes
    short front back bytes rest (inl same) e whole = same
    short front back bytes rest (inr longer) e whole = absurd (omega (arith, longer, ap (length {A = ℕ}) e, ap (length {A = ℕ}) whole, length-append front back, length-append bytes rest))

name_none : (p : Place) → custom_body.at p ≡ None → name.at p ≡ None
unfolding custom_body
name_none p none = by (name.at p) refl where
  by : (o : Option (List ℕ × Place)) → name.at p ≡ o → o ≡ None
  by None e = refl
  by (Some x) e =
      let read : custom_body.at p ≡ Some (custom_of (x.0, x.1.left), place x.1.minimal []) = rw e refl in
      absurd (clash (custom_body.at p) (custom_of (x.0, x.1.left), place x.1.minimal []) none read)

pub custom_prefixes : AreLawfulPrefixes custom_body
custom_prefixes = record {
  none = λ bytes none. (no_name name_is_lawful custom_body begins_with_name bytes (name_none (place true bytes) none)).prefix;
  more = λ bytes v q fits read some. absurd (omega (arith, some, ap (length {A = ℕ}) (nothing_left (place true bytes) v q read)));
  within = λ bytes v q fits read. omega (arith, ap (length {A = ℕ}) (nothing_left (place true bytes) v q read));
}

-- ---- as the code has them

pub all_taken : (taken left : List ℕ) (n : ℕ) → n ≡ length left → taken ≡ take n left → taken ≡ left
all_taken taken left n all is = is ∙ ap (λ (k : ℕ). take k left) all ∙ take-length left

none_read : (p new : Place) (fault : Fault) → Reads name.at p new (Err fault) → IsMalformed fault → name.at p ≡ None
none_read p new (faults.Malformed m) none is = none
none_read p new faults.Memory none is = absurd is

module _ (bytes : List ℕ) (p : Place) (start : p ≡ place true bytes) where
  pub custom_wanting : (new : Place) (fault : Fault) → Reads name.at p new (Err fault) → IsMalformed fault → IsRefusedAt custom_body bytes 0
  custom_wanting new fault none is = no_name name_is_lawful custom_body begins_with_name bytes (ap name.at (sym start) ∙ none_read p new fault none is)

  pub short_wanting : (new : Place) (fault : Fault) → Reads name.at p new (Err fault) → IsMalformed fault → IsRefusedAt (minimal_only custom_body) bytes 0
  short_wanting new fault none is =
      let at : name.at (place true bytes) ≡ None = ap name.at (sym start) ∙ none_read p new fault none is in
      no_name (Lawful-minimal_only name_is_lawful) (minimal_only custom_body) begins_with_short_name bytes (rw at refl)

  module _ (text rest : List ℕ) (mid : Place) (read : name.at p ≡ Some (text, mid)) where
    at_start : name.at (place true bytes) ≡ Some (text, mid)
    at_start = ap name.at (sym start) ∙ read

    pub short_long : mid.minimal ≡ false → IsRefusedAt (minimal_only custom_body) bytes 0
    short_long long = no_name (Lawful-minimal_only name_is_lawful) (minimal_only custom_body) begins_with_short_name bytes (rw (at_start, long) refl)

    pub custom_there : IsBytes p.left → rest ≡ mid.left → custom_body.Encodes bytes (record { name = text; data_bytes = rest })
    unfolding custom_body
    custom_there fits is =
        let q : custom_body.at (place true bytes) ≡ Some (custom_of (text, rest), place mid.minimal []) = rw (at_start, is) refl in
        custom_is_lawful.reads.sound (place true bytes) (custom_of (text, rest)) (place mid.minimal []) (subst (λ (x : Place). IsBytes x.left) start fits) q refl

    pub short_there : IsBytes p.left → rest ≡ mid.left → mid.minimal ≡ true → (minimal_only custom_body).Encodes bytes (record { name = text; data_bytes = rest })
    unfolding custom_body
    short_there fits is short =
        let q : (minimal_only name).at (place true bytes) ≡ Some (text, place true mid.left) = rw (at_start, short) refl in
        let one = (Lawful-minimal_only name_is_lawful).reads.sound (place true bytes) text (place true mid.left) (subst (λ (x : Place). IsBytes x.left) start fits) q in
        (custom_there fits is, one.parts ∙ ap (λ (l : List ℕ). l ++ mid.left) one.encodes.1 ∙ ap (λ (l : List ℕ). name.bytes text ++ l) (sym is))

-- ---- writing

pub body_counted : (c : CustomParts) → length (unsigned_leb128 (length c.name)) + length c.name + length c.data_bytes ≡ length (custom_body.bytes c)
unfolding custom_body name
body_counted c = omega (arith, length-append (unsigned_leb128 (length c.name) ++ c.name) c.data_bytes, length-append (unsigned_leb128 (length c.name)) c.name)

-- the size and the name are what the encoding has in front of the contents
pub front_appended : {T E : Type 0} (r : Result T E) (c : CustomParts) (size : ℕ) (old sized named : List ℕ) → size ≡ length (custom_body.bytes c) → sized ≡ old ++ unsigned_leb128 size → OnOk r (named ≡ sized ++ name.bytes c.name)
    → OnOk r (named ++ c.data_bytes ≡ old ++ byte_list_bytes (custom_body.bytes c))
unfolding custom_body
front_appended (Ok x) c size old sized named counted first second =
    let digits : sized ≡ old ++ unsigned_leb128 (length (custom_body.bytes c)) = first ∙ ap (λ (n : ℕ). old ++ unsigned_leb128 n) counted in
    ap (λ (t : List ℕ). t ++ c.data_bytes) second ∙ append_assoc sized (name.bytes c.name) c.data_bytes
    ∙ ap (λ (t : List ℕ). t ++ (name.bytes c.name ++ c.data_bytes)) digits ∙ append_assoc old (unsigned_leb128 (length (custom_body.bytes c))) (name.bytes c.name ++ c.data_bytes)
front_appended (Err e) c size old sized named counted first second = tt

custom_in_range : (c : CustomParts) → name.InRange c.name → IsBytes c.data_bytes → custom_body.InRange c
unfolding custom_body
custom_in_range c fits are = ((fits, are), refl)

pub custom_written : (c : CustomParts) → IsMinimal name.Encodes name.bytes c.name → IsBytes c.data_bytes → IsMinimal custom_body.Encodes custom_body.bytes c
custom_written c named are = written custom_is_lawful.minimal c (custom_in_range c (in_range_of name name_is_lawful c.name named) are)
