-- A loop that reads items at a place as long as there are bytes.
use Rattle.std.proofs.Common.{◌≡◌, ℕ, zero, suc, ◌+◌, ◌<◌, ◌≤◌, true, false, List, [], ◌∷◌, ◌++◌, length, Option, Some, None, Err, refl, sym, ap, ◌∙◌, append_assoc, length-append, arith}
use Rattle.std.proofs.lemmas.List.{append-nil}
use Rattle.wasm_codec.specs.declared.reader.cursor.Fault.{Fault}
use Rattle.wasm_codec.specs.declared.reader.cursor.Fault.TheVariants as faults
use Rattle.wasm_codec.specs.formats.Grammar.{IsBytes, TakesBytes, Joined}
use Rattle.wasm_codec.specs.Outcomes.{UnlessMemory, EncodesSome, IsAfterLongest, IsLongestPrefix, IsMalformed}
use Rattle.wasm_codec.specs.Reading.{PlainReader, ReadsPlain}
use Rattle.wasm_codec.specs.Places.{Place, Reader, Reads}
use Rattle.wasm_codec.specs.Lawful.{IsLawful}
use Rattle.wasm_codec.specs.formats.Combinators.{Format}
use Rattle.wasm_codec.specs.formats.Bodies.{at_end, until_end, to_end}
use Rattle.wasm_codec.proofs.ListReading.{Progress, begin}
use Rattle.wasm_codec.proofs.PlaceLists.{after_items, regroup_items, after_no_items, step, plain_reads, plain_none}
use Rattle.wasm_codec.proofs.Joining.{Joined-more, Joined-longest}
use Rattle.wasm_codec.proofs.BodyLaws.{not_ended, some_bytes}

until_goes_on : {A : Type 0} (read : Reader A) (prefix : List A) (n : ℕ) (p : Place) (v : A) (after : Place) (total : Option (List A × Place)) → at_end p.left ≡ false → read p ≡ Some (v, after)
    → after_items prefix (until_end read (suc n) p) ≡ total → after_items (prefix ++ v ∷ []) (until_end read n after) ≡ total
unfolding until_end
until_goes_on read prefix n p v after total some h so_far =
    let one : after_items prefix (until_end read (suc n) p) ≡ after_items (prefix ++ v ∷ []) (until_end read n after) = rw (some, h) (regroup_items prefix v (until_end read n after)) in
    sym one ∙ so_far

until_stops : {A : Type 0} (read : Reader A) (prefix : List A) (n : ℕ) (p : Place) (total : Option (List A × Place)) → at_end p.left ≡ false → read p ≡ None
    → after_items prefix (until_end read n p) ≡ total → total ≡ None
unfolding until_end
until_stops read prefix zero p total some h so_far =
    let one : after_items prefix (until_end read zero p) ≡ None = rw some refl in
    sym so_far ∙ one
until_stops read prefix (suc n) p total some h so_far =
    let one : after_items prefix (until_end read (suc n) p) ≡ None = rw (some, h) refl in
    sym so_far ∙ one

until_ends : {A : Type 0} (read : Reader A) (prefix : List A) (n : ℕ) (p : Place) (total : Option (List A × Place)) → at_end p.left ≡ true
    → after_items prefix (until_end read n p) ≡ total → total ≡ Some (prefix, p)
unfolding until_end
until_ends {A} read prefix zero p total is so_far =
    let one : after_items prefix (until_end read zero p) ≡ Some (prefix, p) = rw is (ap (λ (vs : List A). Some (vs, p)) (append-nil prefix)) in
    sym so_far ∙ one
until_ends {A} read prefix (suc n) p total is so_far =
    let one : after_items prefix (until_end read (suc n) p) ≡ Some (prefix, p) = rw is (ap (λ (vs : List A). Some (vs, p)) (append-nil prefix)) in
    sym so_far ∙ one

-- these items were read, and what is read in all is what the format reads
pub record PassedSome {V : Type 0} (F : Format V) (old here : Place) (vs : List V) : Type 0 where
  pub progress : Progress F.Encodes old.left here.left vs
  pub most : ℕ
  pub enough : length here.left ≤ most
  pub so_far : after_items vs (until_end F.at most here) ≡ (to_end F).at old

pub none_passed : {V : Type 0} (F : Format V) (old : Place) → PassedSome F old old []
none_passed F old = record { progress = begin F.Encodes old.left; most = length old.left; enough = omega arith; so_far = after_no_items (until_end F.at (length old.left) old) }

-- One item more was read.
pub record PassedNext {V : Type 0} (F : Format V) (old here next : Place) (vs : List V) : Type 0 where
  pub passed : PassedSome F old next vs
  pub fewer : length next.left < length here.left

pub one_passed : {V : Type 0} {F : Format V} → IsLawful F → TakesBytes F.Encodes → (old here next : Place) (vs : List V) (v : V) → IsBytes here.left → PassedSome F old here vs → F.at here ≡ Some (v, next) → PassedNext F old here next (vs ++ v ∷ [])
one_passed {V} {F} r takes old here next vs v fits w e =
    let one = step r here v next fits e in
    let lt = some_bytes F.Encodes takes one.prefix v one.encodes in
    let fewer : length next.left < length here.left = omega (arith, lt, ap (length {A = ℕ}) one.parts, length-append one.prefix next.left) in
    let progress : Progress F.Encodes old.left next.left (vs ++ v ∷ []) = record {
      prefix = w.progress.prefix ++ one.prefix;
      parts = w.progress.parts ∙ ap (λ (t : List ℕ). w.progress.prefix ++ t) one.parts ∙ sym (append_assoc w.progress.prefix one.prefix next.left);
      encodes = Joined-more F.Encodes w.progress.prefix vs one.prefix v w.progress.encodes one.encodes;
    } in
    record { passed = by progress fewer w.most w.enough w.so_far; fewer = fewer }
  where
    by : Progress F.Encodes old.left next.left (vs ++ v ∷ []) → length next.left < length here.left → (most : ℕ) → length here.left ≤ most → after_items vs (until_end F.at most here) ≡ (to_end F).at old → PassedSome F old next (vs ++ v ∷ [])
    by progress fewer zero le so_far = absurd (omega arith)
    by progress fewer (suc n) le so_far = record { progress = progress; most = n; enough = omega arith; so_far = until_goes_on F.at vs n here v next ((to_end F).at old) (not_ended here.left (omega arith)) e so_far }

-- an item was missing
pub wanting : {V : Type 0} (F : Format V) (old here new : Place) (vs : List V) (fault : Fault) → PassedSome F old here vs → 0 < length here.left → Reads F.at here new (Err fault) → Reads (to_end F).at old new (Err fault)
wanting F old here new vs faults.Memory w lt none = tt
wanting F old here new vs (faults.Malformed m) w lt none = until_stops F.at vs w.most here ((to_end F).at old) (not_ended here.left lt) none w.so_far

gone : (bytes : List ℕ) → length bytes ≤ 0 → at_end bytes ≡ true
gone [] le = refl
gone (b ∷ bytes) le = absurd (omega arith)

pub all_passed : {V : Type 0} (F : Format V) (old here : Place) (vs : List V) → PassedSome F old here vs → length here.left ≤ 0 → (to_end F).at old ≡ Some (vs, here)
all_passed F old here vs w le = until_ends F.at vs w.most here ((to_end F).at old) (gone here.left le) w.so_far

-- what was passed before it is the longest prefix that is whole
pub longest_passed : {V : Type 0} {F : Format V} (X : Type 0) → IsLawful F → TakesBytes F.Encodes → (old here new : Place) (vs : List V) (fault : Fault) → IsBytes here.left → PassedSome F old here vs → Reads F.at here new (Err fault) → new ≡ here
    → UnlessMemory {X = X} (Err fault) (IsAfterLongest (EncodesSome (Joined F.Encodes)) old.left new.left)
longest_passed X r takes old here new vs faults.Memory fits w none stays = tt
longest_passed {F = F} X r takes old here new vs (faults.Malformed m) fits w none stays =
    let prefix : IsLongestPrefix (EncodesSome (Joined F.Encodes)) old.left (length w.progress.prefix) = Joined-longest (plain_reads r.reads) takes old.left w.progress.prefix here.left vs w.progress.parts w.progress.encodes (plain_none r here fits none) in
    record {
      prefix = w.progress.prefix;
      parts = w.progress.parts ∙ ap (λ (p : Place). w.progress.prefix ++ p.left) (sym stays);
      whole = (vs, w.progress.encodes);
      longest = prefix.longest;
    }

pub whole_passed : {V : Type 0} {F : Format V} (old here : Place) (vs : List V) → PassedSome F old here vs → length here.left ≤ 0 → IsAfterLongest (EncodesSome (Joined F.Encodes)) old.left here.left
whole_passed old here vs w le = record {
  prefix = w.progress.prefix;
  parts = w.progress.parts;
  whole = (vs, w.progress.encodes);
  longest = λ other after e whole. omega (arith, le, ap (length {A = ℕ}) w.progress.parts, length-append w.progress.prefix here.left, ap (length {A = ℕ}) e, length-append other after);
}

pub none_left : (bytes : List ℕ) → length bytes ≤ 0 → bytes ≡ []
none_left [] le = refl
none_left (b ∷ bytes) le = absurd (omega arith)

-- This number of items was read.
pub record PassedCount {V : Type 0} (F : Format V) (old here : Place) (count : ℕ) : Type 0 where
  pub values : List V
  pub passed : PassedSome F old here values
  pub count_is : length values ≡ count

pub none_counted : {V : Type 0} (F : Format V) (old : Place) → PassedCount F old old 0
none_counted F old = record { values = []; passed = none_passed F old; count_is = refl }

-- One item more was read and counted.
pub record CountedNext {V : Type 0} (F : Format V) (old here next : Place) (count : ℕ) : Type 0 where
  pub counted : PassedCount F old next count
  pub fewer : length next.left < length here.left

pub one_counted : {V : Type 0} {F : Format V} → IsLawful F → TakesBytes F.Encodes → (old here next : Place) (count : ℕ) (v : V) → IsBytes here.left → PassedCount F old here count → F.at here ≡ Some (v, next) → CountedNext F old here next (count + 1)
one_counted r takes old here next count v fits w e =
    let one = one_passed r takes old here next w.values v fits w.passed e in
    record {
      counted = record { values = w.values ++ v ∷ []; passed = one.passed; count_is = omega (arith, w.count_is, length-append w.values (v ∷ [])) };
      fewer = one.fewer;
    }

-- a malformed item isn't read
pub unread : {V : Type 0} (read : PlainReader V) (left new : List ℕ) (fault : Fault) → ReadsPlain read left new (Err fault) → IsMalformed fault → read left ≡ None
unread read left new faults.Memory e malformed = absurd malformed
unread read left new (faults.Malformed m) e malformed = e

-- a fault that names no item isn't in one
pub none_named : (item : Option ℕ) (index : ℕ) → item ≡ None → item ≡ Some index → ⊥
none_named item index none e = absurd cc
