-- The laws of counted lists.
use Rattle.std.proofs.Common.{◌≡◌, ℕ, zero, suc, ◌+◌, ◌-◌, ◌<◌, ◌≤◌, List, [], ◌∷◌, ◌++◌, length, Option, Some, None, Err, refl, sym, ap, subst, ◌∙◌, append_assoc, arith}
use Rattle.std.proofs.lemmas.List.{append-nil}
use Rattle.wasm_codec.specs.declared.reader.cursor.Fault.{Fault}
use Rattle.wasm_codec.specs.declared.reader.cursor.Fault.TheVariants as faults
use Rattle.std.specs.List.{flat_map, AllByRecursion}
use Rattle.wasm_codec.specs.formats.Grammar.{Grammar, IsBytes, Joined, Counted}
use Rattle.wasm_codec.specs.Reading.{PlainReader, ◌>>=◌, plain_times_at, plain_counted_at, ReadsPlain, BeginsWith, IsReadBy}
use Rattle.wasm_codec.proofs.Laws.{bind_some, BeginsWith-is, IsBytes-after, in_a_row, read_in_row, least_then}
use Rattle.wasm_codec.proofs.Joining.{WritesMinimally-joined}
use Rattle.wasm_codec.specs.Lawful.{WritesMinimally}

-- as many items as were asked for
abbrev Times : {A : Type 0} → Grammar A → ℕ → Grammar (List A)
Times G n bytes vs = (length vs ≡ n) × Joined G bytes vs

BeginsWith-more : {A : Type 0} {G : Grammar A} (n : ℕ) (bytes middle rest : List ℕ) (a : A) (vs : List A) → BeginsWith G bytes a middle → BeginsWith (Times G n) middle vs rest → BeginsWith (Times G (suc n)) bytes (a ∷ vs) rest
BeginsWith-more n bytes middle rest a vs one two = record {
  prefix = one.prefix ++ two.prefix;
  encodes = (ap suc two.encodes.0, (one.prefix, two.prefix, refl, one.encodes, two.encodes.1));
  parts = in_a_row bytes one.prefix middle two.prefix rest one.parts two.parts;
}

times_sound : {A : Type 0} {G : Grammar A} {read : PlainReader A} → IsReadBy G read → (n : ℕ) (bytes : List ℕ) (vs : List A) (rest : List ℕ) → IsBytes bytes → plain_times_at read n bytes ≡ Some (vs, rest) → BeginsWith (Times G n) bytes vs rest
unfolding plain_times_at
times_sound {A} {G} {read} r zero bytes vs rest fits e =
    let whole : BeginsWith (Times G zero) bytes [] bytes = record { prefix = []; encodes = (refl, refl); parts = refl } in
    BeginsWith-is (Times G zero) bytes [] vs bytes rest e whole
times_sound {A} {G} {read} r (suc n) bytes vs rest fits e =
    let p = bind_some (read bytes) (λ v. plain_times_at read n v.1 >>= λ ws. Some (v.0 ∷ ws.0, ws.1)) (vs, rest) e in
    let q = bind_some (plain_times_at read n p.0.1) (λ ws. Some (p.0.0 ∷ ws.0, ws.1)) (vs, rest) p.2 in
    let one = r.sound bytes p.0.0 p.0.1 fits p.1 in
    let two = times_sound r n p.0.1 q.0.0 q.0.1 (IsBytes-after bytes p.0.1 p.0.0 one fits) q.1 in
    BeginsWith-is (Times G (suc n)) bytes (p.0.0 ∷ q.0.0) vs q.0.1 rest q.2 (BeginsWith-more n bytes p.0.1 q.0.1 p.0.0 q.0.0 one two)

times_complete : {A : Type 0} {G : Grammar A} {read : PlainReader A} → IsReadBy G read → (prefix : List ℕ) (vs : List A) (rest : List ℕ) → Joined G prefix vs → plain_times_at read (length vs) (prefix ++ rest) ≡ Some (vs, rest)
unfolding plain_times_at
times_complete r prefix [] rest g = rw g refl
times_complete {A} {G} {read} r prefix (v ∷ vs) rest g =
    let p : read (prefix ++ rest) ≡ Some (v, g.1 ++ rest) = read_in_row read prefix g.0 g.1 rest v g.2 (r.complete g.0 v (g.1 ++ rest) g.3) in
    rw (p, times_complete r g.1 vs rest g.4) refl

pub IsReadBy-counted : {A : Type 0} {Count : Grammar ℕ} {G : Grammar A} {count : PlainReader ℕ} {read : PlainReader A} → IsReadBy Count count → IsReadBy G read → IsReadBy (Counted Count G) (plain_counted_at count read)
IsReadBy-counted {A} {Count} {G} {count} {read} r s = record {
  sound = λ bytes vs rest fits e.
      let p = bind_some (count bytes) (λ n. plain_times_at read n.0 n.1) (vs, rest) e in
      let one = r.sound bytes p.0.0 p.0.1 fits p.1 in
      let two = times_sound s p.0.0 p.0.1 vs rest (IsBytes-after bytes p.0.1 p.0.0 one fits) p.2 in
      record {
        prefix = one.prefix ++ two.prefix;
        encodes = (one.prefix, two.prefix, refl, subst (λ (n : ℕ). Count one.prefix n) (sym two.encodes.0) one.encodes, two.encodes.1);
        parts = in_a_row bytes one.prefix p.0.1 two.prefix rest one.parts two.parts;
      };
  complete = λ prefix vs rest g.
      let p : count (prefix ++ rest) ≡ Some (length vs, g.1 ++ rest) = read_in_row count prefix g.0 g.1 rest (length vs) g.2 (r.complete g.0 (length vs) (g.1 ++ rest) g.3) in
      rw p (times_complete s g.1 vs rest g.4);
}

-- ---- a loop that reads so many items

-- items that were read, and those that are still read
abbrev pub after_items : {A : Type 0} → List A → Option (List A × List ℕ) → Option (List A × List ℕ)
after_items prefix read = read >>= λ x. Some (prefix ++ x.0, x.1)

regroup_items : {A : Type 0} (prefix : List A) (v : A) (read : Option (List A × List ℕ)) → after_items prefix (read >>= λ x. Some (v ∷ x.0, x.1)) ≡ after_items (prefix ++ v ∷ []) read
regroup_items {A} prefix v (Some x) = ap (λ (vs : List A). Some (vs, x.1)) (simp append_assoc)
regroup_items prefix v None = refl

pub items_go_on : {A : Type 0} (read : PlainReader A) (prefix : List A) (count i : ℕ) (bytes : List ℕ) (v : A) (after : List ℕ) (total : Option (List A × List ℕ)) → i < count → read bytes ≡ Some (v, after)
    → after_items prefix (plain_times_at read (count - i) bytes) ≡ total → after_items (prefix ++ v ∷ []) (plain_times_at read (count - (i + 1)) after) ≡ total
unfolding plain_times_at
items_go_on read prefix count i bytes v after total lt h so_far =
    let k : count - i ≡ suc (count - (i + 1)) = omega arith in
    let one : after_items prefix (plain_times_at read (count - i) bytes) ≡ after_items (prefix ++ v ∷ []) (plain_times_at read (count - (i + 1)) after) = rw (k, h) (regroup_items prefix v (plain_times_at read (count - (i + 1)) after)) in
    sym one ∙ so_far

items_end : {A : Type 0} (read : PlainReader A) (prefix : List A) (count i : ℕ) (bytes : List ℕ) (total : Option (List A × List ℕ)) → i < count → read bytes ≡ None
    → after_items prefix (plain_times_at read (count - i) bytes) ≡ total → total ≡ None
unfolding plain_times_at
items_end read prefix count i bytes total lt h so_far =
    let k : count - i ≡ suc (count - (i + 1)) = omega arith in
    let one : after_items prefix (plain_times_at read (count - i) bytes) ≡ None = rw (k, h) refl in
    sym so_far ∙ one

-- an item was missing
pub items_fail : {A V : Type 0} (fault : Fault) (read : PlainReader A) (whole : PlainReader V) (prefix : List A) (count i : ℕ) (bytes new old : List ℕ) (total : Option (List A × List ℕ)) → i < count → ReadsPlain read bytes new (Err fault)
    → after_items prefix (plain_times_at read (count - i) bytes) ≡ total → (total ≡ None → whole old ≡ None) → ReadsPlain whole old new (Err fault)
items_fail faults.Memory read whole prefix count i bytes new old total lt h so_far is = tt
items_fail (faults.Malformed m) read whole prefix count i bytes new old total lt h so_far is = is (items_end read prefix count i bytes total lt h so_far)

pub items_all : {A : Type 0} (read : PlainReader A) (prefix : List A) (count i : ℕ) (bytes : List ℕ) (total : Option (List A × List ℕ)) → count ≤ i → after_items prefix (plain_times_at read (count - i) bytes) ≡ total → total ≡ Some (prefix, bytes)
unfolding plain_times_at
items_all {A} read prefix count i bytes total le so_far =
    let k : count - i ≡ 0 = omega arith in
    let one : after_items prefix (plain_times_at read (count - i) bytes) ≡ Some (prefix, bytes) = rw k (ap (λ (vs : List A). Some (vs, bytes)) (append-nil prefix)) in
    sym so_far ∙ one

pub WritesMinimally-counted : {A : Type 0} {Count : Grammar ℕ} {G : Grammar A} {C : ℕ → Type 0} {F : A → Type 0} {count : ℕ → List ℕ} {encoding : A → List ℕ}
    → WritesMinimally Count C count → WritesMinimally G F encoding → WritesMinimally (Counted Count G) (λ vs. C (length vs) × AllByRecursion F vs) (λ vs. count (length vs) ++ flat_map encoding vs)
WritesMinimally-counted {count = count} {encoding} r s = record {
  encodes = λ vs fits. (count (length vs), flat_map encoding vs, refl, r.encodes (length vs) fits.0, (WritesMinimally-joined s).encodes vs fits.1);
  again = λ bytes vs g. (count (length vs), flat_map encoding vs, refl, r.again g.0 (length vs) g.3, (WritesMinimally-joined s).again g.1 vs g.4);
  least = λ bytes vs g. least_then bytes g.0 g.1 (count (length vs)) (flat_map encoding vs) g.2 (r.least g.0 (length vs) g.3) ((WritesMinimally-joined s).least g.1 vs g.4);
}
