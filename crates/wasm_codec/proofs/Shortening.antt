-- Numbers that are read and left in their minimal encodings.
use Rattle.std.proofs.Common.{◌≡◌, ℕ, ◌+◌, ◌-◌, ◌≤◌, Bool, true, false, ◌&&◌, List, ◌++◌, length, take, drop, Option, Some, None, Err, [], ◌∷◌, ◌<◌, append_assoc, take-append-drop, drop-drop, refl, sym, ap, subst, if◌then◌else◌, ◌∙◌, length-append, length-drop, arith}
use Rattle.std.proofs.Math.Bool.{and-true, and-false}
use Rattle.std.proofs.lemmas.List.{take_at, drop_at}
use Rattle.wasm_codec.specs.declared.reader.cursor.Fault.{Fault}
use Rattle.wasm_codec.specs.declared.reader.cursor.Fault.TheVariants.{Malformed, Memory}
use Rattle.wasm_codec.specs.Outcomes.{IsMalformed}
use Rattle.wasm_codec.specs.formats.Grammar.{Grammar, IsBytes, TakesBytes}
use Rattle.wasm_codec.specs.Lawful.{IsLawful}
use Rattle.wasm_codec.specs.Places.{Place, place, Reads, keeps}
use Rattle.wasm_codec.specs.formats.Combinators.{Format}
use Rattle.wasm_codec.specs.Rewriter.{Rewriting, rewriting, rewritten_at, Gives, rewriting_after, skipped, shortened, cut}
use Rattle.wasm_codec.specs.Scanning.{Scans, RewritesScanned, ReadsShort, BeginsShort}
use Rattle.wasm_codec.specs.declared.rewriter.scan.Scanned.{Scanned}
use Rattle.wasm_codec.specs.declared.rewriter.scan.Scanned.TheVariants as scanned
use Rattle.wasm_codec.proofs.FormatLaws.{not_longer}
use Rattle.wasm_codec.proofs.Laws.{bind_some, some_is}
use Rattle.wasm_codec.proofs.NumberLaws.{IsCut}
use Rattle.wasm_codec.proofs.PlaceLists.{step, is_minimal}
use Rattle.wasm_codec.proofs.RawFormatLaws.{IsBytes-take}
use Rattle.wasm_codec.proofs.Windows.{cut_first}

-- what isn't read at a place isn't, whatever was read before
pub none_there : {V : Type 0} {F : Format V} → IsLawful F → (l : List ℕ) (s t : Bool) → IsBytes l → F.at (place s l) ≡ None → F.at (place t l) ≡ None
none_there {V} {F} r l s t fits none = by (F.at (place t l)) refl where
  clash : (o : Option (V × Place)) (x : V × Place) → o ≡ None → o ≡ Some x → ⊥
  clash o x e f = absurd cc

  by : (o : Option (V × Place)) → F.at (place t l) ≡ o → o ≡ None
  by None e = refl
  by (Some x) e =
      let one = r.reads.sound (place t l) x.0 x.1 fits e in
      absurd (clash (F.at (place s l)) (x.0, place (keeps s one.prefix (F.bytes x.0)) x.1.left) none (ap (λ (k : List ℕ). F.at (place s k)) one.parts ∙ r.reads.complete one.prefix x.0 x.1.left s one.encodes))

-- where a value was read that was in its minimal encoding, its bytes stay
pub kept_is : {V : Type 0} {F : Format V} → IsLawful F → (p : Rewriting) (v : V) (q : Place) → IsBytes p.place.left → F.at (place true p.place.left) ≡ Some (v, q) → q.minimal ≡ true → rewritten_at F p ≡ Some (v, skipped (length p.place.left - length q.left) p)
kept_is {V} {F} r p v q fits e short =
    let l = p.place.left in
    let one = step r (place true l) v q fits e in
    let same : one.prefix ≡ F.bytes v = is_minimal one.prefix (F.bytes v) (r.minimal.least one.prefix v one.encodes) (sym one.tells ∙ short) in
    let len : length one.prefix ≡ length l - length q.left = omega (arith, ap (length {A = ℕ}) one.parts, length-append one.prefix q.left) in
    let first : take (length l - length q.left) l ≡ F.bytes v = ap (take (length l - length q.left)) one.parts ∙ take_at one.prefix q.left (length l - length q.left) len ∙ same in
    let left : drop (length l - length q.left) l ≡ q.left = ap (drop (length l - length q.left)) one.parts ∙ drop_at one.prefix q.left (length l - length q.left) len in
    let flag : keeps p.place.minimal one.prefix (F.bytes v) ≡ p.place.minimal = ap (λ (t : Bool). p.place.minimal && t) (sym one.tells ∙ short) ∙ and-true p.place.minimal in
    let read : F.at p.place ≡ Some (v, place p.place.minimal q.left) = ap (λ (k : List ℕ). F.at (place p.place.minimal k)) one.parts ∙ r.reads.complete one.prefix v q.left p.place.minimal one.encodes ∙ ap (λ (t : Bool). Some (v, place t q.left)) flag in
    rw (read, first, left) refl

-- where it wasn't, they are cut
pub record Cut {V : Type 0} (F : Format V) (p : Rewriting) (v : V) (q : Place) : Type 0 where
  pub is : rewritten_at F p ≡ Some (v, shortened (length (F.bytes v)) (length p.place.left - length q.left) p)
  pub fewer : length (F.bytes v) ≤ length p.place.left - length q.left
  pub within : length p.place.left - length q.left ≤ length p.place.left

pub cut_is : {V : Type 0} {F : Format V} → IsLawful F → IsCut F.Encodes F.bytes → (p : Rewriting) (v : V) (q : Place) → IsBytes p.place.left → F.at (place true p.place.left) ≡ Some (v, q) → q.minimal ≡ false → Cut F p v q
cut_is {V} {F} r cuts p v q fits e long =
    let l = p.place.left in
    let one = step r (place true l) v q fits e in
    let len : length one.prefix ≡ length l - length q.left = omega (arith, ap (length {A = ℕ}) one.parts, length-append one.prefix q.left) in
    let le : length (F.bytes v) ≤ length one.prefix = not_longer one.prefix (F.bytes v) (r.minimal.least one.prefix v one.encodes) in
    let first : take (length one.prefix) l ≡ one.prefix = ap (take (length one.prefix)) one.parts ∙ take_at one.prefix q.left (length one.prefix) refl in
    let cut-here : cut (length (F.bytes v)) l ≡ F.bytes v = sym (cut_first (length (F.bytes v)) (length one.prefix) l le) ∙ ap (cut (length (F.bytes v))) first ∙ cuts one.prefix v one.encodes in
    let left : drop (length l - length q.left) l ≡ q.left = ap (drop (length l - length q.left)) one.parts ∙ drop_at one.prefix q.left (length l - length q.left) len in
    let flag : keeps p.place.minimal one.prefix (F.bytes v) ≡ false = ap (λ (t : Bool). p.place.minimal && t) (sym one.tells ∙ long) ∙ and-false p.place.minimal in
    let read : F.at p.place ≡ Some (v, place false q.left) = ap (λ (k : List ℕ). F.at (place p.place.minimal k)) one.parts ∙ r.reads.complete one.prefix v q.left p.place.minimal one.encodes ∙ ap (λ (t : Bool). Some (v, place t q.left)) flag in
    record { is = rw (read, cut-here, left) refl; fewer = omega (arith, len); within = omega (arith, len, ap (length {A = ℕ}) one.parts, length-append one.prefix q.left) }

-- the same, without the value
pub without_value : {V : Type 0} (F : Format V) (p : Rewriting) (v : V) (q : Rewriting) → rewritten_at F p ≡ Some (v, q) → rewriting_after F p ≡ Some q
without_value {V} F p v q e =
    let x = bind_some (F.at p.place) (λ x. Some (x.0, rewriting (p.done ++ F.bytes x.0) x.1 p.rest)) (v, q) e in
    rw x.1 (ap (λ (y : V × Rewriting). Some y.1) (some_is (x.0.0, rewriting (p.done ++ F.bytes x.0.0) x.0.1 p.rest) (v, q) x.2))

-- a number was read at these bytes; so many of them are left, and its minimal encoding has so many digits
pub record NumberRead {V : Type 0} (F : Format V) (p : Rewriting) (v : V) (minimal : Bool) (left digits : ℕ) : Type 0 where
  pub left_over : left ≤ length p.place.left
  pub fewer : digits ≤ length p.place.left - left
  pub gives : rewritten_at F p ≡ Some (v, if minimal then skipped (length p.place.left - left) p else shortened digits (length p.place.left - left) p)

pub number_read : {V : Type 0} {F : Format V} → IsLawful F → IsCut F.Encodes F.bytes → (p : Rewriting) (here : Place) (v : V) (q : Place) (minimal : Bool) (left digits : ℕ) → IsBytes p.place.left → here ≡ place true p.place.left → F.at here ≡ Some (v, q)
    → minimal ≡ q.minimal → left ≡ length q.left → digits ≡ length (F.bytes v) → NumberRead F p v minimal left digits
number_read {V} {F} r cuts p here v q minimal left digits fits here-is e minimal-is left-is digits-is =
    let read : F.at (place true p.place.left) ≡ Some (v, q) = ap F.at (sym here-is) ∙ e in
    let one = step r (place true p.place.left) v q fits read in
    let parts = ap (length {A = ℕ}) one.parts in
    let le : length (F.bytes v) ≤ length one.prefix = not_longer one.prefix (F.bytes v) (r.minimal.least one.prefix v one.encodes) in
    record {
      left_over = omega (arith, parts, length-append one.prefix q.left);
      fewer = omega (arith, parts, length-append one.prefix q.left);
      gives = rw (minimal-is, left-is, digits-is) (by read q.minimal refl);
    }
  where
    by : F.at (place true p.place.left) ≡ Some (v, q) → (t : Bool) → q.minimal ≡ t → rewritten_at F p ≡ Some (v, if t then skipped (length p.place.left - length q.left) p else shortened (length (F.bytes v)) (length p.place.left - length q.left) p)
    by read true t = kept_is r p v q fits read t
    by read false t = (cut_is r cuts p v q fits read t).is

-- no number was
pub no_number : {V : Type 0} {F : Format V} → IsLawful F → (p new : Rewriting) (here q : Place) (fault : Fault) → IsBytes p.place.left → here ≡ place true p.place.left → IsMalformed fault → Reads F.at here q (Err fault) → Gives F p new (Err fault)
no_number {V} {F} r p new here q Memory fits here-is e none = absurd e
no_number {V} {F} r p new here q (Malformed m) fits here-is e none = none_there r p.place.left true p.place.minimal fits (ap F.at (sym here-is) ∙ none)

-- an item that was scanned is left in its minimal encoding
pub scanned_rewritten : {V : Type 0} {F : Format V} → IsLawful F → (p q : Rewriting) (left : List ℕ) → left ≡ p.place.left → IsBytes p.place.left → (s : Scanned) → Scans F left (Some s) → RewritesScanned s p q → rewriting_after F p ≡ Some q
scanned_rewritten {V} {F} r p q left is fits s seen = by s (subst (λ (l : List ℕ). Scans F l (Some s)) is seen) where
  by : (s : Scanned) → Scans F p.place.left (Some s) → RewritesScanned s p q → rewriting_after F p ≡ Some q
  by (scanned.Minimal count) (le, x) passed =
      let k : length p.place.left - length (drop count p.place.left) ≡ count = omega (arith, length-drop count p.place.left) in
      let whole = kept_is r p x.0 (place true (drop count p.place.left)) fits x.1 refl in
      rw passed (without_value F p x.0 (skipped count p) (rw k at whole))
  by (scanned.Padded signed start more) (le, told) (kept, (k, passed)) =
      let count = start + more + 1 in
      let x = told kept k in
      let one = step r (place true p.place.left) x.value (place false (drop count p.place.left)) fits x.read in
      let flag : keeps p.place.minimal one.prefix (F.bytes x.value) ≡ false = ap (λ (t : Bool). p.place.minimal && t) (sym one.tells) ∙ and-false p.place.minimal in
      let read : F.at p.place ≡ Some (x.value, place false (drop count p.place.left)) = ap (λ (k : List ℕ). F.at (place p.place.minimal k)) one.parts ∙ r.reads.complete one.prefix x.value (drop count p.place.left) p.place.minimal one.encodes ∙ ap (λ (t : Bool). Some (x.value, place t (drop count p.place.left))) flag in
      rw passed (without_value F p x.value (shortened (start + kept) count p) (rw (read, x.minimal) refl))

-- ---- runs of items

pub bytes_after : (prefix bytes : List ℕ) → IsBytes (prefix ++ bytes) → IsBytes bytes
bytes_after [] bytes fits = fits
bytes_after (b ∷ prefix) bytes fits = bytes_after prefix bytes fits.1

reads_more : {V : Type 0} (F : Format V) (values : List V) (bytes mid left : List ℕ) (v : V) → ReadsShort F values bytes mid → F.at (place true mid) ≡ Some (v, place true left) → ReadsShort F (values ++ v ∷ []) bytes left
reads_more F [] bytes mid left v reads read = (left, (ap (λ (l : List ℕ). F.at (place true l)) reads ∙ read, refl))
reads_more F (w ∷ values) bytes mid left v (next, (first, reads)) read = (next, (first, reads_more F values next mid left v reads read))

pub takes_some : {V : Type 0} (G : Grammar V) → TakesBytes G → (prefix : List ℕ) (v : V) → G prefix v → 0 < length prefix
takes_some G some [] v g = absurd (some v g)
takes_some G some (b ∷ prefix) v g = omega arith

-- what is seen of the first bytes is seen of all of them
pub in_window : {V : Type 0} {F : Format V} → IsLawful F → (bytes : List ℕ) (n count : ℕ) → IsBytes bytes → Scans F (take n bytes) (Some (scanned.Minimal count)) → Scans F bytes (Some (scanned.Minimal count))
in_window {V} {F} law bytes n count fits (le, x) =
    let w = take n bytes in
    let one = step law (place true w) x.0 (place true (drop count w)) (IsBytes-take bytes n fits) x.1 in
    let rest = drop count w ++ drop n bytes in
    let all : bytes ≡ one.prefix ++ rest = sym (take-append-drop n bytes) ∙ ap (λ (l : List ℕ). l ++ drop n bytes) one.parts ∙ append_assoc one.prefix (drop count w) (drop n bytes) in
    let size : length one.prefix ≡ count = omega (arith, le, ap (length {A = ℕ}) one.parts, length-append one.prefix (drop count w), length-drop count w) in
    let left : drop count bytes ≡ rest = ap (drop count) all ∙ drop_at one.prefix rest count size in
    let read : F.at (place true bytes) ≡ Some (x.0, place (keeps true one.prefix (F.bytes x.0)) rest) = ap (λ (l : List ℕ). F.at (place true l)) all ∙ law.reads.complete one.prefix x.0 rest true one.encodes in
    (omega (arith, size, ap (length {A = ℕ}) all, length-append one.prefix rest), (x.0, read ∙ ap (λ (t : Bool). Some (x.0, place t rest)) (sym one.tells) ∙ ap (λ (l : List ℕ). Some (x.0, place true l)) (sym left)))

-- one item more
pub record LongerRun {V : Type 0} (F : Format V) (bytes : List ℕ) (run count : ℕ) : Type 0 where
  pub begins : BeginsShort F bytes (run + count)
  pub more : 0 < count

pub longer_run : {V : Type 0} {F : Format V} → IsLawful F → TakesBytes F.Encodes → (bytes : List ℕ) (run n count : ℕ) → IsBytes bytes → BeginsShort F bytes run → Scans F (take n (drop run bytes)) (Some (scanned.Minimal count)) → LongerRun F bytes run count
longer_run {V} {F} law some bytes run n count fits b seen =
    let here = drop run bytes in
    let ahead = bytes_after (take run bytes) here (subst IsBytes (sym (take-append-drop run bytes)) fits) in
    let s = in_window law here n count ahead seen in
    let one = step law (place true here) s.1.0 (place true (drop count here)) ahead s.1.1 in
    let left : drop count here ≡ drop (run + count) bytes = drop-drop count run bytes in
    record {
      begins = record {
        values = b.values ++ s.1.0 ∷ [];
        within = omega (arith, s.0, b.within, length-drop run bytes);
        reads = reads_more F b.values bytes here (drop (run + count) bytes) s.1.0 b.reads (s.1.1 ∙ ap (λ (l : List ℕ). Some (s.1.0, place true l)) left);
      };
      more = omega (arith, takes_some F.Encodes some one.prefix s.1.0 one.encodes, ap (length {A = ℕ}) one.parts, length-append one.prefix (drop count here), length-drop count here);
    }
