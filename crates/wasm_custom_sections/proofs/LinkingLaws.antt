-- The laws of linking sections: a version, and then subsections to the end.
use Rattle.std.specs.Borrow.{GName}
use Rattle.std.proofs.Common.{◌≡◌, ℕ, ◌+◌, ◌-◌, ◌<◌, ◌≤◌, ◌⊎◌, inl, inr, Bool, true, false, cond, ◌==◌, List, [], ◌∷◌, ◌++◌, length, Option, Some, None, Result, Ok, Err, OnOk, OnErr, IfOk, IfErr, take, refl, lit≤, sym, ap, subst, ◌∙◌, append_assoc, length-append, arith}
use Rattle.std.specs.Prelude.{codes}
use Rattle.std.proofs.Math.Seq.{take-length}
use Rattle.std.proofs.lemmas.Bool.{eqb-true}
use Rattle.std.proofs.lemmas.List.{append-nil, append_cancel_left}
use Rattle.std.specs.List.{flat_map}
use Rattle.wasm_codec.specs.declared.reader.cursor.Fault.{Fault}
use Rattle.wasm_codec.specs.declared.reader.cursor.Fault.TheVariants as faults
use Rattle.wasm_codec.specs.Decoding.{TakesMinimal, RewritesTo}
use Rattle.wasm_codec.specs.declared.encode.EncodeError.{EncodeError}
use Rattle.wasm_codec.specs.Encoding.{byte_list_bytes, IsCount, IsMinimalOrLonger}
use Rattle.wasm_codec.specs.Lawful.{IsLawful, IsLawfulBody}
use Rattle.wasm_codec.specs.Leb128.{digits_of, unsigned_leb128}
use Rattle.wasm_codec.specs.Outcomes.{error_of, EncodesSome, IsLongestPrefix, IsNormalForm}
use Rattle.wasm_codec.specs.Places.{Place, place, keeps}
use Rattle.wasm_codec.specs.Reading.{BeginsWith}
use Rattle.wasm_codec.specs.Rewriter.{rest_of, Rewrites, Rewriting, StopsAt, rewriting, rewriting_after}
use Rattle.wasm_codec.specs.formats.Bodies.{byte_list, to_end}
use Rattle.wasm_codec.specs.formats.Combinators.{Format, ◌⊗◌, byte_where, items, made, minimal_if, or_else}
use Rattle.wasm_codec.specs.formats.Grammar.{IsBytes, Joined, TakesBytes}
use Rattle.wasm_codec.proofs.BodyLaws.{Lawful-body, Lawful-byte-list, Lawful-sized, Lawful-then-body, Lawful-to-end}
use Rattle.wasm_codec.proofs.BodyRewriting.{joined_done, joined_stopped, stopped_within}
use Rattle.wasm_codec.proofs.FormatLaws.{BeginsWith-at, Every-made, Lawful-both, Lawful-items, Lawful-made, Lawful-or-else, Lawful-u32, Tagged-or, IsTagged, not_longer, takes_bytes}
use Rattle.wasm_codec.proofs.Joining.{WritesMinimally-joined}
use Rattle.wasm_codec.proofs.Laws.{IsBytes-after, bind_some, one_reading, some}
use Rattle.wasm_codec.proofs.MinimalIfLaws.{Lawful-minimal_if, joined_minimal_only}
use Rattle.wasm_codec.proofs.PlaceLists.{plain_reads}
use Rattle.wasm_codec.proofs.RawFormatLaws.{Lawful-byte-where}
use Rattle.wasm_codec.proofs.RewriterLaws.{IsAfter, is_after}
use Rattle.wasm_lists.specs.EncodedLists.{EncodedItems, IsFull, IsMemoryOrTooLong, IsUncounted, body_bytes}
use Rattle.wasm_lists.proofs.EncodedListLaws.{counted_or, which}
use Rattle.wasm_sections.specs.ListSections.{Adds}
use Rattle.wasm_code.specs.DecodedPrefixes.{IsNothingOr}
use Rattle.wasm_sections.specs.Prefixes.{IsRefusedAt}
use Rattle.wasm_custom_sections.specs.Gaining.{GainsWith}
use Rattle.wasm_custom_sections.specs.LinkingSections.{HoldsLinking}
use Rattle.wasm_custom_sections.specs.NamedSections.{IsNamedSection}
use Rattle.wasm_custom_sections.specs.formats.Linking.{is_other, linking_data, linking_id, linking_if, linking_subsection, other_of, other_part, such_that, symbols, symbols_part, version, versioned}
use Rattle.wasm_custom_sections.specs.formats.Symbols.{symbol}
use Rattle.wasm_custom_sections.specs.formats.SymbolParts.{SymbolParts}
use Rattle.wasm_custom_sections.proofs.GainingLaws.{IsRefused, adds_with, by_recursion, inner_in_range, inner_is, refused}
use Rattle.wasm_custom_sections.proofs.SymbolLaws.{symbol_is_lawful}

-- ---- subsections

other_tagged : IsTagged linking_id (or_else (made other_of other_part (byte_where is_other ⊗ byte_list)))
other_tagged = record {
  choice = Lawful-or-else refl (Lawful-made other_of other_part (λ p. refl) (Lawful-both (Lawful-byte-where is_other) Lawful-byte-list));
  tagged = λ b bytes v g. heads (g.1.2 ∙ ap (λ (t : List ℕ). t ++ g.1.1) g.1.3.0) ∙ ap linking_id g.2;
} where
  heads : {b n : ℕ} {s t : List ℕ} → b ∷ s ≡ n ∷ t → b ≡ n
  heads e = cc

pub subsection_is_lawful : IsLawful linking_subsection
unfolding linking_subsection
subsection_is_lawful = (Tagged-or linking_id 8 refl (lit≤ tt) (Every-made (λ s. refl)) (Lawful-made symbols symbols_part (λ s. refl) (Lawful-sized (Lawful-body (Lawful-items symbol_is_lawful)))) other_tagged).choice.lawful

pub subsection_takes : TakesBytes linking_subsection.Encodes
unfolding linking_subsection
subsection_takes = takes_bytes subsection_is_lawful refl

-- ---- the version

Lawful-such-that : {A : Type 0} (test : A → Bool) {F : Format A} → IsLawful F → IsLawful (such_that test F)
Lawful-such-that {A} test {F} r = record {
  reads = record { sound = sound; complete = λ prefix v rest s g. rw (r.reads.complete prefix v rest s g.0, g.1) refl };
  minimal = record {
    encodes = λ v fits. (r.minimal.encodes v fits.0, fits.1);
    again = λ bytes v g. (r.minimal.again bytes v g.0, g.1);
    least = λ bytes v g. r.minimal.least bytes v g.0;
  };
  in_range = λ bytes v g. (r.in_range bytes v g.0, g.1);
  are_bytes = λ bytes v g. r.are_bytes bytes v g.0;
  begins = λ bytes v g. r.begins bytes v g.0;
} where
  sound : (p : Place) (v : A) (q : Place) → IsBytes p.left → (such_that test F).at p ≡ Some (v, q) → BeginsWith (such_that test F).Encodes p.left v q.left
  sound p v q fits e =
      let x = bind_some (F.at p) (λ (x : A × Place). cond (test x.0) (some x) None) (v, q) e in
      by x.0.0 x.0.1 x.1 (test x.0.0) refl x.2
    where
      by : (w : A) (after : Place) → F.at p ≡ Some (w, after) → (t : Bool) → test w ≡ t → cond t (some {A = A × Place} (w, after)) None ≡ Some (v, q) → BeginsWith (such_that test F).Encodes p.left v q.left
      by w after read true is e =
          let one = r.reads.sound p w after fits read in
          BeginsWith-at (such_that test F).Encodes p.left w v after q e (record { prefix = one.prefix; encodes = (one.encodes, is); parts = one.parts })
      by w after read false is e = absurd cc

pub version_is_lawful : IsLawful version
unfolding version
version_is_lawful = Lawful-such-that (λ n. n == 2) Lawful-u32

pub data_is_lawful : IsLawfulBody linking_data
data_is_lawful = Lawful-then-body version_is_lawful (λ n. Lawful-to-end subsection_is_lawful subsection_takes)

-- ---- minimal encodings

both_least : (prefix back t u : List ℕ) → IsMinimalOrLonger prefix t → IsMinimalOrLonger back u → prefix ++ back ≡ t ++ u → (prefix ≡ t) × (back ≡ u)
both_least prefix back t u (inl p) least e = (p, append_cancel_left t back u (sym (ap (λ (f : List ℕ). f ++ back) p) ∙ e))
both_least prefix back t u (inr longer) least e =
    let le = not_longer back u least in
    absurd (omega (arith, ap (length {A = ℕ}) e, length-append prefix back, length-append t u))

pub data_is_minimal : TakesMinimal linking_data (linking_if true).Encodes
data_is_minimal bytes v = (λ g. all g, λ g. each g) where
  all : (linking_if true).Encodes bytes v → linking_data.Encodes bytes v × (bytes ≡ linking_data.bytes v)
  all g =
      let j = (joined_minimal_only subsection_is_lawful g.1 v.1).0 g.4 in
      ((g.0, g.1, g.2, g.3.0, j.0), rw (g.2, g.3.1, j.1) refl)

  each : linking_data.Encodes bytes v × (bytes ≡ linking_data.bytes v) → (linking_if true).Encodes bytes v
  each g =
      let h = g.0 in
      let b = both_least h.0 h.1 (version.bytes v.0) (flat_map linking_subsection.bytes v.1) (version_is_lawful.minimal.least h.0 v.0 h.3) ((WritesMinimally-joined subsection_is_lawful.minimal).least h.1 v.1 h.4) (sym h.2 ∙ g.1) in
      (h.0, h.1, h.2, (h.3, b.0), (joined_minimal_only subsection_is_lawful h.1 v.1).1 (h.4, b.1))

-- ---- a value, and then items to the end

module _ {A V : Type 0} {H : Format A} (h : IsLawful H) (F : Format V) where
  -- without the value there is nothing
  clash : (o : Option (A × Place)) (x : A × Place) → o ≡ None → o ≡ Some x → ⊥
  clash o x e f = absurd cc

  none_begins : (bytes other after : List ℕ) (v : A × List V) → H.at (place true bytes) ≡ None → bytes ≡ other ++ after → (H ⊗ to_end F).Encodes other v → ⊥
  none_begins bytes other after v none e g =
      clash (H.at (place true bytes)) (v.0, place (keeps true g.0 (H.bytes v.0)) (g.1 ++ after)) none
      (ap (λ (l : List ℕ). H.at (place true l)) (e ∙ ap (λ (l : List ℕ). l ++ after) g.2 ∙ append_assoc g.0 g.1 after) ∙ h.reads.complete g.0 v.0 (g.1 ++ after) true g.3)

  pub no_head : (bytes : List ℕ) → H.at (place true bytes) ≡ None → IsRefusedAt (H ⊗ to_end F) bytes 0
  no_head bytes none = record {
    prefix = record { prefix = []; rest = bytes; parts = refl; len_is = refl; whole = inl refl; longest = longest };
    unencoded = λ v g. none_begins bytes bytes [] v none (sym (append-nil bytes)) g;
  } where
    longest : (other after : List ℕ) → bytes ≡ other ++ after → IsNothingOr (H ⊗ to_end F) other → length other ≤ 0
    longest other after e (inl nothing) = omega (arith, ap (length {A = ℕ}) nothing)
    longest other after e (inr g) = absurd (none_begins bytes other after g.0 none e g.1)

  module _ (bytes rest : List ℕ) (a : A) (one : BeginsWith H.Encodes bytes a rest) where
    pub shorter_rest : length rest ≤ length bytes
    shorter_rest = omega (arith, ap (length {A = ℕ}) one.parts, length-append one.prefix rest)

    -- the longest prefix of the items is the longest prefix after the value
    pub headed_longest : (n : ℕ) → IsLongestPrefix (EncodesSome (Joined F.Encodes)) rest n → IsLongestPrefix (IsNothingOr (H ⊗ to_end F)) bytes (length bytes - length rest + n)
    headed_longest n l = record {
      prefix = one.prefix ++ l.prefix;
      rest = l.rest;
      parts = one.parts ∙ ap (λ (t : List ℕ). one.prefix ++ t) l.parts ∙ sym (append_assoc one.prefix l.prefix l.rest);
      len_is = omega (arith, l.len_is, length-append one.prefix l.prefix, ap (length {A = ℕ}) one.parts, length-append one.prefix rest);
      whole = inr ((a, l.whole.0), (one.prefix, l.prefix, refl, one.encodes, l.whole.1));
      longest = longest;
    } where
      longest : (other after : List ℕ) → bytes ≡ other ++ after → IsNothingOr (H ⊗ to_end F) other → length other ≤ length bytes - length rest + n
      longest other after e (inl nothing) = omega (arith, ap (length {A = ℕ}) nothing)
      longest other after e (inr w) =
          let g = w.1 in
          let row : one.prefix ++ rest ≡ g.0 ++ (g.1 ++ after) = sym one.parts ∙ e ∙ ap (λ (t : List ℕ). t ++ after) g.2 ∙ append_assoc g.0 g.1 after in
          let same = one_reading (plain_reads h.reads) one.prefix g.0 rest (g.1 ++ after) a w.0.0 one.encodes g.3 row in
          let le = l.longest g.1 after same.2 (w.0.1, g.4) in
          omega (arith, le, ap (length {A = ℕ}) g.2, length-append g.0 g.1, ap (length {A = ℕ}) same.0, ap (length {A = ℕ}) one.parts, length-append one.prefix rest)

    -- the items are refused
    pub headed_refused : (n : ℕ) → n < length rest → IsLongestPrefix (EncodesSome (Joined F.Encodes)) rest n → IsRefusedAt (H ⊗ to_end F) bytes (length bytes - length rest + n)
    headed_refused n lt l = record {
      prefix = headed_longest n l;
      unencoded = λ v g.
          let le = (headed_longest n l).longest bytes [] (sym (append-nil bytes)) (inr (v, g)) in
          omega (arith, le, lt, shorter_rest);
    }

    pub headed_there : (vs : List V) → Joined F.Encodes rest vs → (H ⊗ to_end F).Encodes bytes (a, vs)
    headed_there vs all = (one.prefix, rest, one.parts, one.encodes, all)

-- ---- rewriting

module _ {A V : Type 0} {H : Format A} (h : IsLawful H) {F : Format V} (r : IsLawful F) (takes : TakesBytes F.Encodes) (bytes : List ℕ) (start mid : Rewriting) {g : GName} (start-is : start ≡ rewriting [] (place true bytes) (rest_of [] g)) (fits : IsBytes start.place.left) (begun : rewriting_after H start ≡ Some mid) where
  head_is : IsAfter H start mid
  head_is = is_after H start mid begun

  read_head : H.at (place true bytes) ≡ Some (head_is.value, mid.place)
  read_head = ap (λ (s : Rewriting). H.at s.place) (sym start-is) ∙ head_is.given.is_read

  all_bytes : IsBytes bytes
  all_bytes = subst IsBytes (ap (λ (s : Rewriting). s.place.left) start-is) fits

  begins : BeginsWith H.Encodes bytes head_is.value mid.place.left
  begins = h.reads.sound (place true bytes) head_is.value mid.place all_bytes read_head

  pub headed_normal : (end : Rewriting) → rewriting_after (to_end F) mid ≡ Some end → end.place.left ≡ [] → IsNormalForm (H ⊗ to_end F).Encodes (H ⊗ to_end F).bytes bytes end.done
  headed_normal end rest none =
      let all = joined_done r takes mid end (IsBytes-after bytes mid.place.left head_is.value begins all_bytes) rest none in
      record {
        value = (head_is.value, all.values);
        encoded = headed_there h F bytes mid.place.left head_is.value begins all.values all.encodes;
        is_minimal = all.written ∙ ap (λ (t : List ℕ). t ++ flat_map F.bytes all.values) (head_is.given.written ∙ ap (λ (s : Rewriting). s.done ++ H.bytes head_is.value) start-is);
      }

  pub rest_refused : (left : ℕ) → StopsAt F mid.place.left left → IsRefusedAt (H ⊗ to_end F) bytes (length bytes - left)
  rest_refused left stop =
      let n = length mid.place.left - left in
      let le = shorter_rest h F bytes mid.place.left head_is.value begins in
      let at : length bytes - length mid.place.left + n ≡ length bytes - left = omega (arith, le, stop.len, ap (length {A = ℕ}) stop.parts, length-append stop.prefix stop.rest) in
      subst (IsRefusedAt (H ⊗ to_end F) bytes) at (headed_refused h F bytes mid.place.left head_is.value begins n (stopped_within F mid.place.left left stop) (joined_stopped r takes mid.place.left left stop))

-- the head is refused
pub no_version_rewritten : {X : Type 0} {encoding : X → List ℕ} (bytes : List ℕ) (start new : Rewriting) (fault : Fault) → {g : GName} → start ≡ rewriting [] (place true bytes) (rest_of [] g) → Rewrites version start new (Err fault) → RewritesTo linking_data (IsNothingOr linking_data) bytes encoding (Err (error_of fault 0))
no_version_rewritten bytes start new faults.Memory is none = absurd none
no_version_rewritten bytes start new (faults.Malformed m) is none =
    let refused = no_head version_is_lawful linking_subsection bytes (ap (λ (s : Rewriting). version.at s.place) (sym is) ∙ none) in
    record { given = tt; prefix = refused.prefix; unencoded = refused.unencoded }

-- ---- what the code finds

version_is : (strict : Bool) (bytes : List ℕ) (n : ℕ) → (minimal_if strict version).Encodes bytes n → n ≡ 2
unfolding version
version_is true bytes n g = eqb-true n 2 g.0.1
version_is false bytes n g = eqb-true n 2 g.1

pub version_begins : {X : Type 0} (now : X → List ℕ) (strict : Bool) (bytes : List ℕ) (p q : Place) (n len : ℕ) → p ≡ place true bytes → IsBytes p.left → (minimal_if strict version).at p ≡ Some (n, q) → len ≡ length q.left
    → (R : X → Type 0) (r : Result X Fault) → IfOk r (λ x. (now x ≡ take len q.left) × R x) → IfOk r (λ x. BeginsWith (minimal_if strict version).Encodes bytes 2 (now x))
version_begins now strict bytes p q n len start fits read all R (Err e) h = tt
version_begins now strict bytes p q n len start fits read all R (Ok x) h =
    let law = Lawful-minimal_if strict version_is_lawful in
    let one = law.reads.sound p n q fits read in
    let is = version_is strict one.prefix n one.encodes in
    let rest : now x ≡ q.left = h.0 ∙ ap (λ (k : ℕ). take k q.left) all ∙ take-length q.left in
    record {
      prefix = one.prefix;
      encodes = subst (λ (k : ℕ). (minimal_if strict version).Encodes one.prefix k) is one.encodes;
      parts = ap (λ (t : Place). t.left) (sym start) ∙ one.parts ∙ ap (λ (t : List ℕ). one.prefix ++ t) (sym rest);
    }

pub no_version : (strict : Bool) (bytes : List ℕ) → (minimal_if strict version).at (place true bytes) ≡ None → IsRefusedAt (linking_if strict) bytes 0
no_version strict bytes none = no_head (Lawful-minimal_if strict version_is_lawful) (minimal_if strict linking_subsection) bytes none

pub subsection_refused : (strict : Bool) (bytes rest : List ℕ) → BeginsWith (minimal_if strict version).Encodes bytes 2 rest → (n : ℕ) → n < length rest → IsLongestPrefix (EncodesSome (Joined (minimal_if strict linking_subsection).Encodes)) rest n
    → IsRefusedAt (linking_if strict) bytes (length bytes - length rest + n)
subsection_refused strict bytes rest one n within longest = headed_refused (Lawful-minimal_if strict version_is_lawful) (minimal_if strict linking_subsection) bytes rest 2 one n within longest

pub subsections_there : (strict : Bool) (bytes rest : List ℕ) → BeginsWith (minimal_if strict version).Encodes bytes 2 rest → EncodesSome (Joined (minimal_if strict linking_subsection).Encodes) rest → EncodesSome (linking_if strict).Encodes bytes
subsections_there strict bytes rest one all = ((2, all.0), headed_there (Lawful-minimal_if strict version_is_lawful) (minimal_if strict linking_subsection) bytes rest 2 one all.0 all.1)

-- ---- sections that are written

pub holds_linking : (section : EncodedItems) → HoldsLinking section
unfolding version unsigned_leb128 digits_of
holds_linking section values stands =
    let is : 2 ∷ section.bytes ≡ linking_data.bytes (versioned values) = ap (λ (t : List ℕ). 2 ∷ t) stands.bytes in
    (subst (λ (t : List ℕ). linking_data.Encodes t (versioned values)) (sym is) (data_is_lawful.minimal.encodes (versioned values) ((lit≤ tt, refl), by_recursion linking_subsection.InRange values stands.in_range)), is)

pub linking_written : (P : Type 0) {X E : Type 0} (section : EncodedItems) (contents : List ℕ) → contents ≡ 2 ∷ section.bytes → (r : Result X E) → OnOk r (P × IsNamedSection (codes "linking") contents) → OnOk r (HoldsLinking section × IsNamedSection (codes "linking") (2 ∷ section.bytes))
linking_written P section contents is (Ok x) h = (holds_linking section, subst (IsNamedSection (codes "linking")) is h.1)
linking_written P section contents is (Err e) h = tt

table_bytes : (ss : List SymbolParts) → linking_subsection.bytes (symbols ss) ≡ 8 ∷ byte_list_bytes ((items symbol).bytes ss)
unfolding linking_subsection
table_bytes ss = refl

table_there : (ss : List SymbolParts) → (items symbol).InRange ss → IsCount (length ((items symbol).bytes ss)) → linking_subsection.InRange (symbols ss)
unfolding linking_subsection
table_there ss fits few = ((fits, few), refl)

pub adds_table : (was old inner new : EncodedItems) (r : Result (Unit {0}) EncodeError) → was ≡ old → OnOk r (new.count ≡ was.count + 1) → OnOk r (new.bytes ≡ was.bytes ++ 8 ∷ byte_list_bytes (body_bytes inner))
    → OnOk r (IsCount inner.count × IsCount (length (body_bytes inner))) → OnErr r (new ≡ was) → IfErr r (IsRefused (IsCount (length (body_bytes inner))) was)
    → Adds (GainsWith symbol linking_subsection symbols) old inner new (IsMemoryOrTooLong (IsFull old ⊎ IsUncounted (length (body_bytes inner)))) r
adds_table was old inner new r same count bytes written unchanged refusal =
    adds_with symbol linking_subsection symbols was old inner new (8 ∷ byte_list_bytes (body_bytes inner)) r same (λ list. IsMemoryOrTooLong (IsFull list ⊎ IsUncounted (length (body_bytes inner))))
    (λ few values stands.
    let is = inner_is symbol inner values stands in
    (rw is (sym (table_bytes values)), table_there values (inner_in_range symbol inner values few.0 stands) (subst (λ (t : List ℕ). IsCount (length t)) is few.1)))
    count bytes written unchanged (refused r was (which (counted_or (length (body_bytes inner)))) refusal)
