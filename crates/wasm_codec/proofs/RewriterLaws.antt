-- The laws of the rewriter's loops.
use Rattle.std.proofs.Common.{◌≡◌, ℕ, zero, suc, ◌+◌, ◌-◌, ◌<◌, ◌≤◌, Bool, true, List, [], ◌∷◌, ◌++◌, length, take, drop, take-add, drop-drop, length-drop, length-take, subst, Some, None, Err, refl, sym, ap, ◌∙◌, append_assoc, length-append, arith}
use Rattle.std.proofs.lemmas.List.{append-nil, drop_all, flat_map_more}
use Rattle.std.specs.List.{flat_map}
use Rattle.wasm_codec.specs.declared.reader.cursor.Fault.{Fault}
use Rattle.wasm_codec.specs.declared.reader.cursor.Fault.TheVariants as faults
use Rattle.wasm_codec.specs.formats.Grammar.{IsBytes, TakesBytes}
use Rattle.wasm_codec.specs.Lawful.{IsLawful}
use Rattle.wasm_codec.specs.Leb128.{unsigned_leb128}
use Rattle.wasm_codec.specs.Places.{Place, Reader, place, u32_at}
use Rattle.wasm_codec.specs.formats.Combinators.{Format, items, u32}
use Rattle.wasm_codec.specs.formats.Bodies.{at_end, until_end, to_end}
use Rattle.wasm_codec.specs.Rewriter.{Rewriting, rest_of, rewriting, rewritten_at, rewriting_after, Rewrites, RewritesAll, skipped}
use Rattle.wasm_codec.specs.Scanning.{ReadsShort, BeginsShort}
use Rattle.wasm_codec.proofs.Shortening.{kept_is, without_value, bytes_after, takes_some}
use Rattle.std.proofs.lemmas.List.{drop_at, take_at}
use Rattle.wasm_codec.proofs.Laws.{bind_some, some_is}
use Rattle.wasm_codec.proofs.BodyLaws.{not_ended}
use Rattle.wasm_codec.proofs.RawFormatLaws.{IsBytes-take}
use Rattle.wasm_codec.proofs.ListReading.{Progress, progress_bytes}
use Rattle.wasm_codec.proofs.PlaceLists.{Passed, passed_none, passed_more, passed_fault, passed_all, after_items, regroup_items, after_no_items, place_next, plain_none, step}

-- a value was read, and its minimal encoding was written
pub record IsGiven {V : Type 0} (F : Format V) (p : Rewriting) (v : V) (q : Rewriting) : Type 0 where
  pub is_read : F.at p.place ≡ Some (v, q.place)
  pub written : q.done ≡ p.done ++ F.bytes v
  pub rest : q.rest ≡ p.rest

pub is_given : {V : Type 0} (F : Format V) (p : Rewriting) (v : V) (q : Rewriting) → rewritten_at F p ≡ Some (v, q) → IsGiven F p v q
is_given {V} F p v q e =
    let x = bind_some (F.at p.place) (λ x. Some (x.0, rewriting (p.done ++ F.bytes x.0) x.1 p.rest)) (v, q) e in
    let same = some_is (x.0.0, rewriting (p.done ++ F.bytes x.0.0) x.0.1 p.rest) (v, q) x.2 in
    let value : x.0.0 ≡ v = ap (λ (y : V × Rewriting). y.0) same in
    record {
      is_read = x.1 ∙ ap (λ (y : V × Rewriting). Some (y.0, y.1.place)) same;
      written = sym (ap (λ (y : V × Rewriting). y.1.done) same) ∙ ap (λ (w : V). p.done ++ F.bytes w) value;
      rest = sym (ap (λ (y : V × Rewriting). y.1.rest) same);
    }

pub record IsAfter {V : Type 0} (F : Format V) (p q : Rewriting) : Type 0 where
  pub value : V
  pub given : IsGiven F p value q

pub is_after : {V : Type 0} (F : Format V) (p q : Rewriting) → rewriting_after F p ≡ Some q → IsAfter F p q
is_after {V} F p q e =
    let x = bind_some (F.at p.place) (λ x. Some (rewriting (p.done ++ F.bytes x.0) x.1 p.rest)) q e in
    let same = some_is (rewriting (p.done ++ F.bytes x.0.0) x.0.1 p.rest) q x.2 in
    record {
      value = x.0.0;
      given = record {
        is_read = x.1 ∙ ap (λ (y : Rewriting). Some (x.0.0, y.place)) same;
        written = sym (ap (λ (y : Rewriting). y.done) same);
        rest = sym (ap (λ (y : Rewriting). y.rest) same);
      };
    }

pub after_is : {V : Type 0} (F : Format V) (p q : Rewriting) (v : V) → F.at p.place ≡ Some (v, q.place) → q.done ≡ p.done ++ F.bytes v → q.rest ≡ p.rest → rewriting_after F p ≡ Some q
after_is F p q v read written rest = rw (read, ← written, ← rest) refl

-- ---- a count, and then the items

pub record ItemsRewritten {V : Type 0} (F : Format V) (old here : Rewriting) (count i : ℕ) : Type 0 where
  pub values : List V
  pub passed : Passed u32_at F old.place here.place count i values
  pub len : length values ≡ i
  pub written : here.done ≡ (old.done ++ unsigned_leb128 count) ++ flat_map F.bytes values
  pub rest : here.rest ≡ old.rest

pub no_items_rewritten : {V : Type 0} (F : Format V) (old here : Rewriting) (count : ℕ) → rewritten_at u32 old ≡ Some (count, here) → ItemsRewritten F old here count 0
no_items_rewritten F old here count e =
    let g = is_given u32 old count here e in
    record { values = []; passed = passed_none u32_at F old.place here.place count g.is_read; len = refl; written = g.written ∙ sym (append-nil (old.done ++ unsigned_leb128 count)); rest = g.rest }

pub item_rewritten : {V : Type 0} (F : Format V) (old here next : Rewriting) (count i : ℕ) → ItemsRewritten F old here count i → i < count → rewriting_after F here ≡ Some next → ItemsRewritten F old next count (i + 1)
item_rewritten F old here next count i w lt e =
    let one = is_after F here next e in
    record {
      values = w.values ++ one.value ∷ [];
      passed = passed_more u32_at F old.place here.place next.place count i w.values one.value w.passed lt one.given.is_read;
      len = omega (arith, length-append w.values (one.value ∷ []), w.len);
      written = one.given.written ∙ ap (λ (t : List ℕ). t ++ F.bytes one.value) w.written ∙ flat_map_more F.bytes (old.done ++ unsigned_leb128 count) w.values one.value;
      rest = one.given.rest ∙ w.rest;
    }

pub item_not_rewritten : {V : Type 0} (F : Format V) (old here next new : Rewriting) (count i : ℕ) (fault : Fault) → ItemsRewritten F old here count i → i < count → Rewrites F here next (Err fault) → Rewrites (items F) old new (Err fault)
item_not_rewritten F old here next new count i faults.Memory w lt none = absurd none
item_not_rewritten F old here next new count i (faults.Malformed m) w lt none = passed_fault u32_at F old.place here.place new.place count i w.values (faults.Malformed m) w.passed lt none

pub all_items_rewritten : {V : Type 0} (F : Format V) (old here : Rewriting) (count i : ℕ) → ItemsRewritten F old here count i → i ≡ count → rewriting_after (items F) old ≡ Some here
all_items_rewritten F old here count i w full =
    after_is (items F) old here w.values (passed_all u32_at F old.place here.place count i w.values w.passed (omega (arith, full)))
    (w.written ∙ append_assoc old.done (unsigned_leb128 count) (flat_map F.bytes w.values) ∙ ap (λ (n : ℕ). old.done ++ (unsigned_leb128 n ++ flat_map F.bytes w.values)) (sym (w.len ∙ full))) w.rest

-- ---- items to the end

until_more : {A : Type 0} (read : Reader A) (n : ℕ) (p : Place) (prefix : List A) (v : A) (after : Place) → 0 < length p.left → 0 < n → read p ≡ Some (v, after) → after_items prefix (until_end read n p) ≡ after_items (prefix ++ v ∷ []) (until_end read (n - 1) after)
unfolding until_end
until_more read zero p prefix v after some lt e = absurd (omega arith)
until_more read (suc n) p prefix v after some lt e =
    let k : suc n - 1 ≡ n = omega arith in
    rw (not_ended p.left some, e, k) (regroup_items prefix v (until_end read n after))

until_none : {A : Type 0} (read : Reader A) (n : ℕ) (p : Place) (prefix : List A) → 0 < length p.left → read p ≡ None → after_items prefix (until_end read n p) ≡ None
unfolding until_end
until_none read zero p prefix some e = rw (not_ended p.left some) refl
until_none read (suc n) p prefix some e = rw (not_ended p.left some, e) refl

until_all : {A : Type 0} (read : Reader A) (n : ℕ) (p : Place) (prefix : List A) → p.left ≡ [] → after_items prefix (until_end read n p) ≡ Some (prefix, p)
unfolding until_end
until_all {A} read zero p prefix e = rw (ap at_end e) (ap (λ (vs : List A). Some (vs, p)) (append-nil prefix))
until_all {A} read (suc n) p prefix e = rw (ap at_end e) (ap (λ (vs : List A). Some (vs, p)) (append-nil prefix))

-- these items were rewritten, and what is read in all is the list
pub record Going {V : Type 0} (F : Format V) (old here : Rewriting) : Type 0 where
  pub values : List V
  pub so_far : after_items values (until_end F.at (length old.place.left - length values) here.place) ≡ until_end F.at (length old.place.left) old.place
  pub progress : Progress F.Encodes old.place.left here.place.left values
  pub few : length values + length here.place.left ≤ length old.place.left
  pub written : here.done ≡ old.done ++ flat_map F.bytes values
  pub rest : here.rest ≡ old.rest

pub going : {V : Type 0} (F : Format V) (old : Rewriting) → Going F old old
going F old =
    let k : length old.place.left - 0 ≡ length old.place.left = omega arith in
    record { values = []; so_far = rw k (after_no_items (until_end F.at (length old.place.left) old.place)); progress = record { prefix = []; parts = refl; encodes = refl }; few = omega arith; written = sym (append-nil old.done); rest = refl }

pub going_bytes : {V : Type 0} {F : Format V} (old here : Rewriting) → IsBytes old.place.left → Going F old here → IsBytes here.place.left
going_bytes old here fits w = progress_bytes old.place.left here.place.left fits w.progress

-- one more was rewritten
pub record GoesOn {V : Type 0} (F : Format V) (old here next : Rewriting) : Type 0 where
  pub going : Going F old next
  pub fewer : length next.place.left < length here.place.left

pub goes_on : {V : Type 0} {F : Format V} → IsLawful F → TakesBytes F.Encodes → (old here next : Rewriting) → IsBytes old.place.left → Going F old here → 0 < length here.place.left → rewriting_after F here ≡ Some next → GoesOn F old here next
goes_on {V} {F} r some old here next fits w more e =
    let one = is_after F here next e in
    let left = progress_bytes old.place.left here.place.left fits w.progress in
    let n = place_next r some old.place.left here.place next.place w.values one.value fits left w.progress one.given.is_read in
    let len : length (w.values ++ one.value ∷ []) ≡ length w.values + 1 = omega (arith, length-append w.values (one.value ∷ [])) in
    let k : length old.place.left - length w.values - 1 ≡ length old.place.left - length (w.values ++ one.value ∷ []) = omega (arith, len) in
    record {
      going = record {
        values = w.values ++ one.value ∷ [];
        so_far = ap (λ (m : ℕ). after_items (w.values ++ one.value ∷ []) (until_end F.at m next.place)) (sym k) ∙ sym (until_more F.at (length old.place.left - length w.values) here.place w.values one.value next.place more (omega (arith, w.few)) one.given.is_read) ∙ w.so_far;
        progress = n.progress;
        few = omega (arith, len, w.few, n.fewer);
        written = one.given.written ∙ ap (λ (t : List ℕ). t ++ F.bytes one.value) w.written ∙ flat_map_more F.bytes old.done w.values one.value;
        rest = one.given.rest ∙ w.rest;
      };
      fewer = n.fewer;
    }

-- what stays of what is left after what stays
pub stayed_on : (n m : ℕ) (p : Rewriting) → skipped m (skipped n p) ≡ skipped (n + m) p
stayed_on n m p =
    let done : (p.done ++ take n p.place.left) ++ take m (drop n p.place.left) ≡ p.done ++ take (n + m) p.place.left = append_assoc p.done (take n p.place.left) (take m (drop n p.place.left)) ∙ ap (λ (t : List ℕ). p.done ++ t) (sym (take-add n m p.place.left)) in
    let left : drop m (drop n p.place.left) ≡ drop (n + m) p.place.left = drop-drop m n p.place.left in
    rw (done, left) refl

pub reads_shorter : {V : Type 0} {F : Format V} → IsLawful F → (values : List V) (bytes left : List ℕ) → IsBytes bytes → ReadsShort F values bytes left → length left ≤ length bytes
reads_shorter law [] bytes left fits reads = omega (arith, ap (length {A = ℕ}) reads)
reads_shorter {V} {F} law (v ∷ values) bytes left fits (next, (read, reads)) =
    let one = step law (place true bytes) v (place true next) fits read in
    let again = reads_shorter law values next left (bytes_after one.prefix next (subst IsBytes one.parts fits)) reads in
    omega (arith, again, ap (length {A = ℕ}) one.parts, length-append one.prefix next)

-- values that are read in their minimal encodings stay
run_stays : {V : Type 0} {F : Format V} → IsLawful F → TakesBytes F.Encodes → (old here : Rewriting) (values : List V) (left : List ℕ) → IsBytes old.place.left → Going F old here → ReadsShort F values here.place.left left → Going F old (skipped (length here.place.left - length left) here)
run_stays {V} {F} law some old here [] left fits going reads =
    let none : length here.place.left - length left ≡ 0 = omega (arith, ap (length {A = ℕ}) reads) in
    rw (none, append-nil here.done) going
run_stays {V} {F} law some old here (v ∷ values) left fits going (next, (read, reads)) =
    let bytes = going_bytes old here fits going in
    let one = step law (place true here.place.left) v (place true next) bytes read in
    let sizes : length here.place.left ≡ length one.prefix + length next = ap (length {A = ℕ}) one.parts ∙ length-append one.prefix next in
    let count = length here.place.left - length next in
    let passed = without_value F here v (skipped count here) (kept_is law here v (place true next) bytes read refl) in
    let more = goes_on law some old here (skipped count here) fits going (omega (arith, sizes, takes_some F.Encodes some one.prefix v one.encodes)) passed in
    let left_is : drop count here.place.left ≡ next = ap (drop count) one.parts ∙ drop_at one.prefix next count (omega (arith, sizes)) in
    let again = run_stays law some old (skipped count here) values left fits more.going (rw left_is reads) in
    let shorter = reads_shorter law values next left (subst IsBytes left_is (going_bytes old (skipped count here) fits more.going)) reads in
    let rest : length (drop count here.place.left) - length left ≡ length next - length left = ap (λ (t : List ℕ). length t - length left) left_is in
    let all : count + (length next - length left) ≡ length here.place.left - length left = omega (arith, sizes, shorter) in
    subst (Going F old) (ap (λ (m : ℕ). skipped m (skipped count here)) rest ∙ stayed_on count (length next - length left) here ∙ ap (λ (m : ℕ). skipped m here) all) again

-- a run of items is passed
pub run_passed : {V : Type 0} {F : Format V} → IsLawful F → TakesBytes F.Encodes → (old here next : Rewriting) (bytes : List ℕ) (run : ℕ) → IsBytes old.place.left → Going F old here → bytes ≡ here.place.left → BeginsShort F bytes run → next ≡ skipped run here → Going F old next
run_passed {V} {F} law some old here next bytes run fits going is begins next-is = by (subst (λ (l : List ℕ). BeginsShort F l run) is begins) where
  by : BeginsShort F here.place.left run → Going F old next
  by b =
      let n : length here.place.left - length (drop run here.place.left) ≡ run = omega (arith, length-drop run here.place.left, b.within) in
      rw next-is (rw n at (run_stays law some old here b.values (drop run here.place.left) fits going b.reads))

pub all_gone : {V : Type 0} (F : Format V) (old here : Rewriting) → Going F old here → here.place.left ≡ [] → rewriting_after (to_end F) old ≡ Some here
all_gone F old here w none =
    after_is (to_end F) old here w.values (sym w.so_far ∙ until_all F.at (length old.place.left - length w.values) here.place w.values none) w.written w.rest

-- items that are read from bytes are read from their first bytes alone
record IsFirst {V : Type 0} (F : Format V) (values : List V) (bytes left : List ℕ) : Type 0 where
  pub first : List ℕ
  pub parts : bytes ≡ first ++ left
  pub reads : ReadsShort F values first []

first_read : {V : Type 0} {F : Format V} → IsLawful F → (values : List V) (bytes left : List ℕ) → IsBytes bytes → ReadsShort F values bytes left → IsFirst F values bytes left
first_read law [] bytes left fits reads = record { first = []; parts = reads; reads = refl }
first_read {V} {F} law (v ∷ values) bytes left fits (next, (read, reads)) =
    let one = step law (place true bytes) v (place true next) fits read in
    let more = first_read law values next left (bytes_after one.prefix next (subst IsBytes one.parts fits)) reads in
    let again = law.reads.complete one.prefix v more.first true one.encodes ∙ ap (λ (t : Bool). Some (v, place t more.first)) (sym one.tells) in
    record {
      first = one.prefix ++ more.first;
      parts = one.parts ∙ ap (λ (l : List ℕ). one.prefix ++ l) more.parts ∙ sym (append_assoc one.prefix more.first left);
      reads = (more.first, (again, more.reads));
    }

run_first : {V : Type 0} {F : Format V} → IsLawful F → (bytes : List ℕ) (run : ℕ) → IsBytes bytes → BeginsShort F bytes run → BeginsShort F (take run bytes) run
run_first {V} {F} law bytes run fits begins =
    let one = first_read law begins.values bytes (drop run bytes) fits begins.reads in
    let size : length one.first ≡ run = omega (arith, ap (length {A = ℕ}) one.parts, length-append one.first (drop run bytes), length-drop run bytes, begins.within) in
    let first : take run bytes ≡ one.first = ap (take run) one.parts ∙ take_at one.first (drop run bytes) run size in
    let none : drop run one.first ≡ [] = drop_all run one.first (omega (arith, size)) in
    rw first (record { values = begins.values; within = omega (arith, size); reads = rw none one.reads })

-- the items of a run
pub record ReadsRun {V : Type 0} (F : Format V) (bytes : List ℕ) : Type 0 where
  pub values : List V
  pub read : (to_end F).at (place true bytes) ≡ Some (values, place true [])

pub run_read : {V : Type 0} {F : Format V} → IsLawful F → TakesBytes F.Encodes → (bytes : List ℕ) (run : ℕ) → IsBytes bytes → BeginsShort F bytes run → ReadsRun F (take run bytes)
run_read {V} {F} law some bytes run fits begins =
    let first = take run bytes in
    let old = rewriting [] (place true first) (rest_of [] 0) in
    let here = skipped run old in
    let size : length first ≤ run = omega (arith, length-take run bytes) in
    let none : drop run first ≡ [] = drop_all run first size in
    let passed = run_passed law some old old here first run (IsBytes-take bytes run fits) (going F old) refl (run_first law bytes run fits begins) refl in
    let one = is_after (to_end F) old here (all_gone F old here passed none) in
    record { values = one.value; read = one.given.is_read ∙ ap (λ (l : List ℕ). Some (one.value, place true l)) none }

-- one isn't whole
pub stops : {V : Type 0} {F : Format V} → IsLawful F → (old here new next : Rewriting) (fault : Fault) (left passed : ℕ) → IsBytes old.place.left → Going F old here → 0 < length here.place.left → left ≡ length here.place.left → Rewrites F here new (Err fault) → RewritesAll F old next (Err record { left = left; passed = passed; fault = fault })
stops r old here new next faults.Memory left passed fits w more len none = absurd none
stops {V} {F} r old here new next (faults.Malformed m) left passed fits w more len none =
    let bytes = progress_bytes old.place.left here.place.left fits w.progress in (
      record { values = w.values; prefix = w.progress.prefix; rest = here.place.left; parts = w.progress.parts; encodes = w.progress.encodes; none = plain_none r here.place bytes none; len = sym len; some = omega (arith, len) },
      (sym w.so_far ∙ until_none F.at (length old.place.left - length w.values) here.place w.values more none, tt),
    )
