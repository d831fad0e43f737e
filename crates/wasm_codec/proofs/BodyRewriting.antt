-- The laws of bodies that are rewritten, and of what is rewritten up to the end.
use Rattle.std.specs.Borrow.{GName}
use Rattle.std.proofs.Common.{◌≡◌, ℕ, ◌+◌, ◌-◌, ◌<◌, ◌≤◌, true, List, [], ◌++◌, length, take, drop, Some, refl, sym, ap, subst, ◌∙◌, append_assoc, length-append, arith}
use Rattle.std.proofs.lemmas.Bool.{le-ltb}
use Rattle.std.proofs.lemmas.List.{take_at, drop_at, length-take-le, length-drop, take-append-drop, drop-drop}
use Rattle.std.specs.List.{flat_map}
use Rattle.wasm_codec.specs.formats.Grammar.{IsBytes, TakesBytes, Joined}
use Rattle.wasm_codec.specs.Outcomes.{IsLongestPrefix, IsNormalForm, EncodesSome}
use Rattle.wasm_codec.specs.Lawful.{IsLawful, IsLawfulBody}
use Rattle.wasm_codec.specs.Leb128.{unsigned_leb128}
use Rattle.wasm_codec.specs.Places.{place}
use Rattle.wasm_codec.specs.formats.Combinators.{Format, u32}
use Rattle.wasm_codec.specs.formats.Bodies.{sized, to_end}
use Rattle.wasm_codec.specs.Rewriter.{Rest, Rewriting, rest_of, rewriting, rewritten_at, rewriting_after, limited, widened, resized, IsOpen, StopsAt}
use Rattle.wasm_codec.proofs.FormatLaws.{not_longer}
use Rattle.wasm_codec.proofs.Laws.{IsBytes-back}
use Rattle.wasm_codec.proofs.BodyLaws.{Lawful-to-end, IsBytes-prefix, body_sound, unsigned_leb128-mono}
use Rattle.wasm_codec.proofs.ListReading.{stopped}
use Rattle.wasm_codec.proofs.PlaceLists.{plain_reads}
use Rattle.wasm_codec.proofs.RewriterLaws.{is_given, is_after, after_is}
use Rattle.wasm_codec.proofs.SizedLaws.{sized_read}

-- ---- the size of a body

pub opened : (old mid : Rewriting) (size mark : ℕ) → rewritten_at u32 old ≡ Some (size, mid) → size ≤ length mid.place.left → mark ≡ length old.done → IsOpen old (limited size mid) mark size (length mid.place.left - size)
opened old mid size mark e le mark-is =
    let g = is_given u32 old size mid e in
    let body = take size mid.place.left in
    let len : length body ≡ size = length-take-le size mid.place.left le in
    let done : mid.done ≡ old.done ++ unsigned_leb128 (length body) = g.written ∙ ap (λ (n : ℕ). old.done ++ unsigned_leb128 n) (sym len) in
    record {
      body = body;
      after = place mid.place.minimal (drop size mid.place.left);
      is_read = rw (g.is_read, le-ltb (length mid.place.left) size le) refl;
      within = rw (done, g.rest) refl;
      mark_is = mark-is;
      size_is = sym len;
      behind_is = sym (length-drop size mid.place.left);
    }

pub fits : (done : List ℕ) (mark digits size : ℕ) → length done - (mark + digits) ≤ size → digits ≡ length (unsigned_leb128 size) → length (unsigned_leb128 (length done - (mark + digits))) ≤ digits
fits done mark digits size le is = rw is (subst (λ (d : ℕ). length (unsigned_leb128 (length done - (mark + d))) ≤ length (unsigned_leb128 size)) is (unsigned_leb128-mono (length done - (mark + digits)) size le))

-- a size that is already written
pub same_size : (r : Rewriting) (mark digits size : ℕ) → digits ≡ length (unsigned_leb128 size) → mark + digits ≤ length r.done → length r.done - (mark + digits) ≡ size → take digits (drop mark r.done) ≡ unsigned_leb128 size → resized mark digits r ≡ r
same_size r mark digits size is le len there =
    let digits-are : unsigned_leb128 (length r.done - (mark + digits)) ≡ take digits (drop mark r.done) = ap unsigned_leb128 len ∙ sym there in
    let back : take digits (drop mark r.done) ++ drop (mark + digits) r.done ≡ drop mark r.done = ap (λ (t : List ℕ). take digits (drop mark r.done) ++ t) (sym (drop-drop digits mark r.done)) ∙ take-append-drop digits (drop mark r.done) in
    let whole : take mark r.done ++ (unsigned_leb128 (length r.done - (mark + digits)) ++ drop (mark + digits) r.done) ≡ r.done = ap (λ (t : List ℕ). take mark r.done ++ (t ++ drop (mark + digits) r.done)) digits-are ∙ ap (λ (t : List ℕ). take mark r.done ++ t) back ∙ take-append-drop mark r.done in
    ap (λ (t : List ℕ). rewriting t r.place r.rest) whole

-- a body was rewritten after its size
pub record BodyDone {A : Type 0} (F : Format A) (old end : Rewriting) (mark size behind : ℕ) : Type 0 where
  pub begun : mark + length (unsigned_leb128 size) ≤ length end.done
  pub there : take (length (unsigned_leb128 size)) (drop mark end.done) ≡ unsigned_leb128 size
  pub shorter : length end.done - (mark + length (unsigned_leb128 size)) ≤ size
  pub within : behind ≤ length end.rest.bytes
  pub rewrites : rewriting_after (sized F) old ≡ Some (widened behind (resized mark (length (unsigned_leb128 size)) end))

pub body_done : {A : Type 0} {F : Format A} → IsLawfulBody F → (old mid end : Rewriting) (mark size behind : ℕ) → IsBytes old.place.left → IsOpen old mid mark size behind → rewriting_after F mid ≡ Some end → end.place.left ≡ [] → BodyDone F old end mark size behind
body_done {A} {F} r old mid end mark size behind bytes o e none =
    let one = is_after F mid end e in
    let v = one.value in
    let digits = unsigned_leb128 size in
    let whole = body_sound old.place o.body o.after bytes o.is_read in
    let inside : mid.place.left ≡ o.body = ap (λ (m : Rewriting). m.place.left) o.within in
    let body_bytes : IsBytes mid.place.left = subst IsBytes (sym inside) (IsBytes-back whole.size o.body (IsBytes-prefix (whole.size ++ o.body) o.after.left (rw whole.parts at bytes))) in
    let encodes : F.Encodes o.body v = subst (λ (l : List ℕ). F.Encodes l v) inside (r.reads.sound mid.place v end.place body_bytes one.given.is_read none) in
    let short : length (F.bytes v) ≤ length o.body = not_longer o.body (F.bytes v) (r.minimal.least o.body v encodes) in
    let written : end.done ≡ (old.done ++ digits) ++ F.bytes v = one.given.written ∙ ap (λ (m : Rewriting). m.done ++ F.bytes v) o.within ∙ ap (λ (n : ℕ). (old.done ++ unsigned_leb128 n) ++ F.bytes v) (sym o.size_is) in
    let long : length end.done ≡ mark + length digits + length (F.bytes v) = omega (arith, ap (length {A = ℕ}) written, length-append (old.done ++ digits) (F.bytes v), length-append old.done digits, o.mark_is) in
    let front : length (old.done ++ digits) ≡ mark + length digits = omega (arith, length-append old.done digits, o.mark_is) in
    let back : drop mark end.done ≡ digits ++ F.bytes v = ap (drop mark) (written ∙ append_assoc old.done digits (F.bytes v)) ∙ drop_at old.done (digits ++ F.bytes v) mark (sym o.mark_is) in
    let first : take mark end.done ≡ old.done = ap (take mark) (written ∙ append_assoc old.done digits (F.bytes v)) ∙ take_at old.done (digits ++ F.bytes v) mark (sym o.mark_is) in
    let last : drop (mark + length digits) end.done ≡ F.bytes v = ap (drop (mark + length digits)) written ∙ drop_at (old.done ++ digits) (F.bytes v) (mark + length digits) front in
    let rest : end.rest ≡ rest_of (o.after.left ++ old.rest.bytes) old.rest.name = one.given.rest ∙ ap (λ (m : Rewriting). m.rest) o.within in
    let count : length end.done - (mark + length digits) ≡ length (F.bytes v) = omega (arith, long) in
    let read : F.at (place o.after.minimal o.body) ≡ Some (v, end.place) = ap (λ (m : Rewriting). F.at m.place) (sym o.within) ∙ one.given.is_read in
    let left : take behind end.rest.bytes ≡ o.after.left = ap (λ (t : Rest). take behind t.bytes) rest ∙ take_at o.after.left old.rest.bytes behind (sym o.behind_is) in
    let over : rest_of (drop behind end.rest.bytes) end.rest.name ≡ old.rest = ap (λ (t : Rest). rest_of (drop behind t.bytes) t.name) rest ∙ ap (λ (t : List ℕ). rest_of t old.rest.name) (drop_at o.after.left old.rest.bytes behind (sym o.behind_is)) in
    let after = widened behind (resized mark (length digits) end) in
    let done : after.done ≡ old.done ++ (sized F).bytes v = rw (first, last, count) refl in
    let there : (sized F).at old.place ≡ Some (v, after.place) = sized_read F old.place o.after end.place o.body v o.is_read read none ∙ ap (λ (l : List ℕ). Some (v, place end.place.minimal l)) (sym left) in
    record {
      begun = omega (arith, long);
      there = ap (take (length digits)) back ∙ take_at digits (F.bytes v) (length digits) refl;
      shorter = omega (arith, long, short, o.size_is);
      within = omega (arith, ap (λ (t : Rest). length t.bytes) rest, length-append o.after.left old.rest.bytes, o.behind_is);
      rewrites = after_is (sized F) old after v there done over;
    }

-- ---- items to the end

-- items were rewritten to the end
pub record JoinedDone {V : Type 0} (F : Format V) (start end : Rewriting) : Type 0 where
  pub values : List V
  pub encodes : Joined F.Encodes start.place.left values
  pub written : end.done ≡ start.done ++ flat_map F.bytes values

pub joined_done : {V : Type 0} {F : Format V} → IsLawful F → TakesBytes F.Encodes → (start end : Rewriting) → IsBytes start.place.left → rewriting_after (to_end F) start ≡ Some end → end.place.left ≡ [] → JoinedDone F start end
joined_done {V} {F} r some start end fits e none =
    let one = is_after (to_end F) start end e in
    record { values = one.value; encodes = (Lawful-to-end r some).reads.sound start.place one.value end.place fits one.given.is_read none; written = one.given.written }

-- from the beginning they are the normal form
pub joined_given : {V : Type 0} {F : Format V} → IsLawful F → TakesBytes F.Encodes → (start end : Rewriting) (bytes : List ℕ) → IsBytes bytes → {g : GName} → start ≡ rewriting [] (place true bytes) (rest_of [] g) → rewriting_after (to_end F) start ≡ Some end → end.place.left ≡ []
    → IsNormalForm (Joined F.Encodes) (flat_map F.bytes) bytes end.done
joined_given {V} {F} r some start end bytes fits start-is e none =
    let all = joined_done r some start end (subst IsBytes (sym (ap (λ (s : Rewriting). s.place.left) start-is)) fits) e none in
    record {
      value = all.values;
      encoded = subst (λ (l : List ℕ). Joined F.Encodes l all.values) (ap (λ (s : Rewriting). s.place.left) start-is) all.encodes;
      is_minimal = all.written ∙ ap (λ (s : Rewriting). s.done ++ flat_map F.bytes all.values) start-is;
    }

pub joined_stopped : {V : Type 0} {F : Format V} → IsLawful F → TakesBytes F.Encodes → (bytes : List ℕ) (left : ℕ) → StopsAt F bytes left → IsLongestPrefix (EncodesSome (Joined F.Encodes)) bytes (length bytes - left)
joined_stopped {V} {F} r some bytes left s =
    subst (λ (n : ℕ). IsLongestPrefix (EncodesSome (Joined F.Encodes)) bytes (length bytes - n)) s.len
    (stopped (plain_reads r.reads) some bytes s.rest s.values (record { prefix = s.prefix; parts = s.parts; encodes = s.encodes }) s.none)

pub stopped_within : {V : Type 0} (F : Format V) (bytes : List ℕ) (left : ℕ) → StopsAt F bytes left → length bytes - left < length bytes
stopped_within F bytes left s = omega (arith, s.some, s.len, ap (length {A = ℕ}) s.parts, length-append s.prefix s.rest)
