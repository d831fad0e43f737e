-- Loops that read at a place: so many items, items to the end, normal forms, and minimal encodings alone.
use Rattle.std.proofs.Common.{◌≡◌, ℕ, suc, ◌+◌, ◌-◌, ◌<◌, ◌≤◌, Bool, true, false, cond, List, [], ◌∷◌, ◌++◌, length, Option, Some, None, Result, Ok, Err, refl, sym, ap, ◌∙◌, append_assoc, inl, inr, arith}
use Rattle.std.proofs.lemmas.List.{append-nil}
use Rattle.std.proofs.lemmas.Bool.{eqb-true}
use Rattle.std.proofs.Math.Bool.{and-true}
use Rattle.wasm_codec.specs.declared.reader.cursor.Fault.{Fault}
use Rattle.wasm_codec.specs.declared.reader.cursor.Fault.TheVariants as faults
use Rattle.wasm_codec.specs.formats.Grammar.{Grammar, IsBytes}
use Rattle.wasm_codec.specs.Reading.{ReadsPlain, ◌>>=◌}
use Rattle.wasm_codec.specs.Encoding.{IsMinimalOrLonger}
use Rattle.wasm_codec.proofs.Laws.{BeginsWith-is, one_reading, bind_some, some, some_is}
use Rattle.wasm_codec.specs.Reading.{BeginsWith, IsReadBy as ListReads}
use Rattle.wasm_codec.specs.formats.Grammar.{TakesBytes}
use Rattle.wasm_codec.proofs.ListReading.{Progress, Next, next}
use Rattle.wasm_codec.specs.Places.{Place, place, Reader, Reads, keeps, times_at, counted_at}
use Rattle.wasm_codec.specs.formats.Combinators.{Format, only_minimal, minimal_only}
use Rattle.wasm_codec.proofs.FormatLaws.{BeginsWith-at, keeps_same}
use Rattle.wasm_codec.specs.Lawful.{ReadsPlaces, IsLawful, plain, IsPrefixFree}

-- ---- so many items

-- items that were read, and those that are still read
abbrev pub after_items : {A : Type 0} → List A → Option (List A × Place) → Option (List A × Place)
after_items prefix read = read >>= λ x. Some (prefix ++ x.0, x.1)

pub regroup_items : {A : Type 0} (prefix : List A) (v : A) (read : Option (List A × Place)) → after_items prefix (read >>= λ x. Some (v ∷ x.0, x.1)) ≡ after_items (prefix ++ v ∷ []) read
regroup_items {A} prefix v (Some x) = ap (λ (vs : List A). Some (vs, x.1)) (simp append_assoc)
regroup_items prefix v None = refl

pub items_go_on : {A : Type 0} (read : Reader A) (prefix : List A) (count i : ℕ) (p : Place) (v : A) (after : Place) (total : Option (List A × Place)) → i < count → read p ≡ Some (v, after)
    → after_items prefix (times_at read (count - i) p) ≡ total → after_items (prefix ++ v ∷ []) (times_at read (count - (i + 1)) after) ≡ total
unfolding times_at
items_go_on read prefix count i p v after total lt h so_far =
    let k : count - i ≡ suc (count - (i + 1)) = omega arith in
    let one : after_items prefix (times_at read (count - i) p) ≡ after_items (prefix ++ v ∷ []) (times_at read (count - (i + 1)) after) = rw (k, h) (regroup_items prefix v (times_at read (count - (i + 1)) after)) in
    sym one ∙ so_far

items_end : {A : Type 0} (read : Reader A) (prefix : List A) (count i : ℕ) (p : Place) (total : Option (List A × Place)) → i < count → read p ≡ None
    → after_items prefix (times_at read (count - i) p) ≡ total → total ≡ None
unfolding times_at
items_end read prefix count i p total lt h so_far =
    let k : count - i ≡ suc (count - (i + 1)) = omega arith in
    let one : after_items prefix (times_at read (count - i) p) ≡ None = rw (k, h) refl in
    sym so_far ∙ one

-- an item was missing
pub items_fail : {A V : Type 0} (fault : Fault) (read : Reader A) (whole : Reader V) (prefix : List A) (count i : ℕ) (p new old : Place) (total : Option (List A × Place)) → i < count → Reads read p new (Err fault)
    → after_items prefix (times_at read (count - i) p) ≡ total → (total ≡ None → whole old ≡ None) → Reads whole old new (Err fault)
items_fail faults.Memory read whole prefix count i p new old total lt h so_far is = tt
items_fail (faults.Malformed m) read whole prefix count i p new old total lt h so_far is = is (items_end read prefix count i p total lt h so_far)

pub items_all : {A : Type 0} (read : Reader A) (prefix : List A) (count i : ℕ) (p : Place) (total : Option (List A × Place)) → count ≤ i → after_items prefix (times_at read (count - i) p) ≡ total → total ≡ Some (prefix, p)
unfolding times_at
items_all {A} read prefix count i p total le so_far =
    let k : count - i ≡ 0 = omega arith in
    let one : after_items prefix (times_at read (count - i) p) ≡ Some (prefix, p) = rw k (ap (λ (vs : List A). Some (vs, p)) (append-nil prefix)) in
    sym so_far ∙ one

pub after_no_items : {A : Type 0} (read : Option (List A × Place)) → after_items [] read ≡ read
after_no_items (Some x) = refl
after_no_items None = refl

-- the count was read, and these items after it; what is read in all is the list
pub record Passed {V : Type 0} (number : Reader ℕ) (F : Format V) (old here : Place) (count i : ℕ) (vs : List V) : Type 0 where
  pub begun : Place
  pub counted : number old ≡ Some (count, begun)
  pub so_far : after_items vs (times_at F.at (count - i) here) ≡ counted_at number F.at old

pub passed_none : {V : Type 0} (number : Reader ℕ) (F : Format V) (old here : Place) (count : ℕ) → number old ≡ Some (count, here) → Passed number F old here count 0 []
passed_none number F old here count e =
    let k : count - 0 ≡ count = omega arith in
    record { begun = here; counted = e; so_far = rw (e, k) (after_no_items (times_at F.at count here)) }

pub passed_more : {V : Type 0} (number : Reader ℕ) (F : Format V) (old here next : Place) (count i : ℕ) (vs : List V) (v : V) → Passed number F old here count i vs → i < count → F.at here ≡ Some (v, next) → Passed number F old next count (i + 1) (vs ++ v ∷ [])
passed_more number F old here next count i vs v w lt e = record { begun = w.begun; counted = w.counted; so_far = items_go_on F.at vs count i here v next (counted_at number F.at old) lt e w.so_far }

pub passed_fault : {V : Type 0} (number : Reader ℕ) (F : Format V) (old here new : Place) (count i : ℕ) (vs : List V) (fault : Fault) → Passed number F old here count i vs → i < count → Reads F.at here new (Err fault) → Reads (counted_at number F.at) old new (Err fault)
passed_fault number F old here new count i vs fault w lt none = items_fail fault F.at (counted_at number F.at) vs count i here new old (counted_at number F.at old) lt none w.so_far (λ e. e)

pub passed_all : {V : Type 0} (number : Reader ℕ) (F : Format V) (old here : Place) (count i : ℕ) (vs : List V) → Passed number F old here count i vs → count ≤ i → counted_at number F.at old ≡ Some (vs, here)
passed_all number F old here count i vs w le = items_all F.at vs count i here (counted_at number F.at old) le w.so_far

pub no_count : {V : Type 0} (number : Reader ℕ) (F : Format V) (old new : Place) (fault : Fault) → Reads number old new (Err fault) → Reads (counted_at number F.at) old new (Err fault)
no_count number F old new faults.Memory none = tt
no_count number F old new (faults.Malformed m) none = rw none refl

-- ---- items to the end

pub plain_reads : {V : Type 0} {G : Grammar V} {bytes : V → List ℕ} {read : Reader V} → ReadsPlaces G bytes read → ListReads G (plain read)
plain_reads {V} {G} {bytes} {read} r = record {
  sound = λ l v rest fits e.
      let p = bind_some (read (place true l)) (λ x. Some (x.0, x.1.left)) (v, rest) e in
      BeginsWith-is G l p.0.0 v p.0.1.left rest p.2 (r.sound (place true l) p.0.0 p.0.1 fits p.1);
  complete = λ prefix v rest g. rw (r.complete prefix v rest true g) refl;
}

pub prefix_free : {V : Type 0} {F : Format V} → IsLawful F → IsPrefixFree F.Encodes
prefix_free {V} {F} r a b rest v w g h e = sym (one_reading (plain_reads r.reads) a b [] rest v w g h (append-nil a ∙ e)).2

-- one item was read, and the place tells whether it was the minimal encoding
pub record Step {V : Type 0} (F : Format V) (p : Place) (v : V) (q : Place) : Type 0 where
  pub prefix : List ℕ
  pub encodes : F.Encodes prefix v
  pub parts : p.left ≡ prefix ++ q.left
  pub tells : q.minimal ≡ keeps p.minimal prefix (F.bytes v)

pub step : {V : Type 0} {F : Format V} → IsLawful F → (p : Place) (v : V) (q : Place) → IsBytes p.left → F.at p ≡ Some (v, q) → Step F p v q
step {V} {F} r p v q fits e =
    let one = r.reads.sound p v q fits e in
    let again : F.at p ≡ Some (v, place (keeps p.minimal one.prefix (F.bytes v)) q.left) = ap (λ (l : List ℕ). F.at (place p.minimal l)) one.parts ∙ r.reads.complete one.prefix v q.left p.minimal one.encodes in
    let same = some_is (v, q) (v, place (keeps p.minimal one.prefix (F.bytes v)) q.left) (sym e ∙ again) in
    record { prefix = one.prefix; encodes = one.encodes; parts = one.parts; tells = ap (λ (x : V × Place). x.1.minimal) same }

pub plain_some : {V : Type 0} {F : Format V} → IsLawful F → (p : Place) (v : V) (q : Place) → IsBytes p.left → F.at p ≡ Some (v, q) → plain F.at p.left ≡ Some (v, q.left)
plain_some {V} {F} r p v q fits e =
    let one = r.reads.sound p v q fits e in
    ap (plain F.at) one.parts ∙ (plain_reads r.reads).complete one.prefix v q.left one.encodes

pub plain_none : {V : Type 0} {F : Format V} → IsLawful F → (p : Place) → IsBytes p.left → F.at p ≡ None → plain F.at p.left ≡ None
plain_none {V} {F} r p fits none = by (plain F.at p.left) refl where
  clash : (o : Option (V × Place)) (x : V × Place) → o ≡ None → o ≡ Some x → ⊥
  clash o x e f = absurd cc

  by : (o : Option (V × List ℕ)) → plain F.at p.left ≡ o → o ≡ None
  by None e = refl
  by (Some x) e =
      let one = (plain_reads r.reads).sound p.left x.0 x.1 fits e in
      absurd (clash (F.at p) (x.0, place (keeps p.minimal one.prefix (F.bytes x.0)) x.1) none (ap (λ (l : List ℕ). F.at (place p.minimal l)) one.parts ∙ r.reads.complete one.prefix x.0 x.1 p.minimal one.encodes))

-- and what wasn't read: so the laws of loops over bytes serve loops over places
pub plain_fault : {V : Type 0} {F : Format V} → IsLawful F → (p q : Place) → IsBytes p.left → (fault : Fault) → Reads F.at p q (Err fault) → ReadsPlain (plain F.at) p.left q.left (Err fault)
plain_fault r p q fits faults.Memory e = tt
plain_fault r p q fits (faults.Malformed m) e = plain_none r p fits e

pub plain_code : {V : Type 0} {F : Format V} → IsLawful F → (p q : Place) → IsBytes p.left → (result : Result V Fault) → Reads F.at p q result → ReadsPlain (plain F.at) p.left q.left result
plain_code r p q fits (Ok v) e = plain_some r p v q fits e
plain_code r p q fits (Err fault) e = plain_fault r p q fits fault e

pub place_next : {V : Type 0} {F : Format V} → IsLawful F → TakesBytes F.Encodes → (bytes : List ℕ) (p q : Place) (vs : List V) (v : V) → IsBytes bytes → IsBytes p.left → Progress F.Encodes bytes p.left vs → F.at p ≡ Some (v, q) → Next F.Encodes bytes p.left q.left vs v
place_next r some bytes p q vs v fits left g e = next (plain_reads r.reads) some bytes p.left q.left vs v fits g (plain_some r p v q left e)

-- ---- normal forms

pub is_minimal : (prefix encoding : List ℕ) → IsMinimalOrLonger prefix encoding → keeps true prefix encoding ≡ true → prefix ≡ encoding
is_minimal prefix encoding (inl e) test = e
is_minimal prefix encoding (inr lt) test = let e = eqb-true (length prefix) (length encoding) test in absurd (omega (arith, e))

-- ---- minimal encodings alone

pub Lawful-minimal_only : {A : Type 0} {F : Format A} → IsLawful F → IsLawful (minimal_only F)
Lawful-minimal_only {A} {F} r = record {
  reads = record { sound = sound; complete = complete };
  minimal = record {
    encodes = λ v fits. (r.minimal.encodes v fits, refl);
    again = λ bytes v g. (r.minimal.again bytes v g.0, refl);
    least = λ bytes v g. inl g.1;
  };
  in_range = λ bytes v g. r.in_range bytes v g.0;
  are_bytes = λ bytes v g. r.are_bytes bytes v g.0;
  begins = λ bytes v g. r.begins bytes v g.0;
} where
  sound : (p : Place) (v : A) (q : Place) → IsBytes p.left → (minimal_only F).at p ≡ Some (v, q) → BeginsWith (minimal_only F).Encodes p.left v q.left
  sound p v q fits e =
      let f = bind_some (F.at (place true p.left)) (λ x. only_minimal p.minimal x) (v, q) e in
      by f.0.0 f.0.1 (step r (place true p.left) f.0.0 f.0.1 fits f.1) f.0.1.minimal refl f.2
    where
      by : (w : A) (after : Place) → Step F (place true p.left) w after → (t : Bool) → after.minimal ≡ t → cond t (some {A = A × Place} (w, place p.minimal after.left)) None ≡ Some (v, q) → BeginsWith (minimal_only F).Encodes p.left v q.left
      by w after one true is e =
          let same : one.prefix ≡ F.bytes w = is_minimal one.prefix (F.bytes w) (r.minimal.least one.prefix w one.encodes) (sym one.tells ∙ is) in
          BeginsWith-at (minimal_only F).Encodes p.left w v (place p.minimal after.left) q e (record { prefix = one.prefix; encodes = (one.encodes, same); parts = one.parts })
      by w after one false is e = absurd cc

  complete : (prefix : List ℕ) (v : A) (rest : List ℕ) (s : Bool) → (minimal_only F).Encodes prefix v → (minimal_only F).at (place s (prefix ++ rest)) ≡ Some (v, place (keeps s prefix (F.bytes v)) rest)
  complete prefix v rest s g =
      let whole : keeps true prefix (F.bytes v) ≡ true = ap (λ (f : List ℕ). keeps true f (F.bytes v)) g.1 ∙ keeps_same true (F.bytes v) in
      rw (r.reads.complete prefix v rest true g.0, whole, and-true s) refl
