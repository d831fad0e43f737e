-- The laws of lists, a count and then the items, and of the loops that read one, over any grammar of the items.
use Rattle.std.proofs.Common.{◌≡◌, ℕ, suc, ◌+◌, ◌-◌, ◌<◌, ◌≤◌, ◌⊎◌, List, [], ◌∷◌, ◌++◌, length, Option, Some, None, Result, Ok, Err, refl, sym, ap, subst, ◌∙◌, append_assoc, length-append, inl, inr, arith}
use Rattle.std.proofs.lemmas.List.{append-nil, append_cancel_left}
use Rattle.std.proofs.lemmas.Bool.{cases_lt}
use Rattle.wasm_codec.specs.declared.reader.cursor.Fault.{Fault}
use Rattle.wasm_codec.specs.declared.reader.cursor.Fault.TheVariants as faults
use Rattle.wasm_codec.specs.formats.Grammar.{Grammar, IsBytes, TakesBytes, Joined, Counted}
use Rattle.wasm_codec.specs.Reading.{PlainReader, plain_times_at, plain_counted_at, ReadsPlain, BeginsWith, IsReadBy, FindsAt}
use Rattle.wasm_codec.specs.Outcomes.{UnlessMemory, IsAfterLongest}
use Rattle.wasm_codec.specs.Lists.{EncodesList, list_at, IsCountedPrefix}
use Rattle.wasm_codec.proofs.Laws.{BeginsWith-is, IsBytes-back, one_reading, some, some_is}
use Rattle.wasm_codec.proofs.Joining.{Joined-split, next as comes_next}
use Rattle.wasm_codec.proofs.Counting.{IsReadBy-counted, after_items, items_go_on, items_fail, items_all}
use Rattle.wasm_codec.proofs.ListReading.{Progress, begin, next}
use Rattle.wasm_codec.proofs.FormatLaws.{Lawful-u32}
use Rattle.wasm_codec.proofs.PlaceLists.{plain_reads}

pub IsReadBy-list : {V : Type 0} {G : Grammar V} {read : PlainReader V} → IsReadBy G read → IsReadBy (EncodesList G) (list_at read)
IsReadBy-list r = IsReadBy-counted (plain_reads Lawful-u32.reads) r

-- The function reads exactly the items that are encoded, and each takes bytes.
pub record ItemLaws {V : Type 0} (G : Grammar V) (read : PlainReader V) : Type 0 where
  pub finds : IsReadBy G read
  pub some : TakesBytes G

-- The laws are known of the items, if there are any.
abbrev pub KnownOf : {V : Type 0} → Grammar V → PlainReader V → ℕ → Type 0
KnownOf G read count = (count ≡ 0) ⊎ ItemLaws G read

-- ---- what is read of a list is what is encoded

-- without a count there is no list
pub finds_none : {V : Type 0} {Count : Grammar ℕ} {number : PlainReader ℕ} → IsReadBy Count number → (G : Grammar V) (read : PlainReader V) (bytes : List ℕ) → number bytes ≡ None → FindsAt (Counted Count G) (plain_counted_at number read) bytes
finds_none {V} {Count} {number} counts G read bytes none = record { sound = λ v rest e. absurd (clash v rest e); complete = λ v rest one. absurd (unread v rest one) } where
  clash : (v : List V) (rest : List ℕ) → plain_counted_at number read bytes ≡ Some (v, rest) → ⊥
  clash v rest e = let wanting : plain_counted_at number read bytes ≡ None = rw none refl in absurd cc

  unread : (v : List V) (rest : List ℕ) → BeginsWith (Counted Count G) bytes v rest → ⊥
  unread v rest one =
      let g = one.encodes in
      let row : bytes ≡ g.0 ++ (g.1 ++ rest) = one.parts ∙ ap (λ (t : List ℕ). t ++ rest) g.2 ∙ append_assoc g.0 g.1 rest in
      let counted : number bytes ≡ Some (length v, g.1 ++ rest) = ap number row ∙ counts.complete g.0 (length v) (g.1 ++ rest) g.3 in
      absurd cc

-- no items, whatever encodes them
no_items_found : {V : Type 0} {Count : Grammar ℕ} {number : PlainReader ℕ} → IsReadBy Count number → (G : Grammar V) (read : PlainReader V) (bytes left : List ℕ) → IsBytes bytes → number bytes ≡ Some (0, left) → FindsAt (Counted Count G) (plain_counted_at number read) bytes
unfolding plain_times_at
no_items_found {V} {Count} {number} counts G read bytes left fits count = record { sound = λ v rest e. found v rest e; complete = λ v rest one. read_back v rest one } where
  here : plain_counted_at number read bytes ≡ Some ([], left)
  here = rw count refl

  found : (v : List V) (rest : List ℕ) → plain_counted_at number read bytes ≡ Some (v, rest) → BeginsWith (Counted Count G) bytes v rest
  found v rest e =
      let one = counts.sound bytes 0 left fits count in
      let whole : BeginsWith (Counted Count G) bytes [] left = record { prefix = one.prefix; encodes = (one.prefix, [], sym (append-nil one.prefix), one.encodes, refl); parts = one.parts } in
      BeginsWith-is (Counted Count G) bytes [] v left rest (sym here ∙ e) whole

  is_empty : (v : List V) (back rest : List ℕ) → some {A = ℕ × List ℕ} (0, left) ≡ some (length v, back ++ rest) → Joined G back v → some {A = List V × List ℕ} ([], left) ≡ some (v, rest)
  is_empty [] back rest e g =
      let same : left ≡ back ++ rest = ap (λ (p : ℕ × List ℕ). p.1) (some_is (0, left) (0, back ++ rest) e) in
      ap (λ (t : List ℕ). some {A = List V × List ℕ} ([], t)) (same ∙ ap (λ (t : List ℕ). t ++ rest) g)
  is_empty (w ∷ v) back rest e g =
      let same : 0 ≡ suc (length v) = ap (λ (p : ℕ × List ℕ). p.0) (some_is (0, left) (suc (length v), back ++ rest) e) in absurd (omega arith)

  read_back : (v : List V) (rest : List ℕ) → BeginsWith (Counted Count G) bytes v rest → plain_counted_at number read bytes ≡ Some (v, rest)
  read_back v rest one =
      let g = one.encodes in
      let row : bytes ≡ g.0 ++ (g.1 ++ rest) = one.parts ∙ ap (λ (t : List ℕ). t ++ rest) g.2 ∙ append_assoc g.0 g.1 rest in
      let counted : number bytes ≡ Some (length v, g.1 ++ rest) = ap number row ∙ counts.complete g.0 (length v) (g.1 ++ rest) g.3 in
      here ∙ is_empty v g.1 rest (sym count ∙ counted) g.4

-- what is read at bytes that begin with a count
pub finds_list : {V : Type 0} {Count : Grammar ℕ} {number : PlainReader ℕ} {G : Grammar V} {read : PlainReader V} → IsReadBy Count number → (bytes left : List ℕ) (count : ℕ) → IsBytes bytes → number bytes ≡ Some (count, left) → KnownOf G read count → FindsAt (Counted Count G) (plain_counted_at number read) bytes
finds_list {G = G} {read} counts bytes left count fits e (inl none) = no_items_found counts G read bytes left fits (e ∙ ap (λ (n : ℕ). Some (n, left)) none)
finds_list {number = number} {G} {read} counts bytes left count fits e (inr laws) = record {
  sound = λ v rest h. (IsReadBy-counted counts laws.finds).sound bytes v rest fits h;
  complete = λ v rest one. ap (plain_counted_at number read) one.parts ∙ (IsReadBy-counted counts laws.finds).complete one.prefix v rest one.encodes;
}

-- ---- the longest whole prefix of a list

-- the count was read, and these items; these bytes are left
pub record Taken {V : Type 0} (Count : Grammar ℕ) (G : Grammar V) (bytes left : List ℕ) (count : ℕ) (vs : List V) : Type 0 where
  pub head : List ℕ
  pub after : List ℕ
  pub counted : Count head count
  pub parts : bytes ≡ head ++ after
  pub progress : Progress G after left vs
  pub few : length vs ≤ count

taken_none : {V : Type 0} {Count : Grammar ℕ} {number : PlainReader ℕ} → IsReadBy Count number → (G : Grammar V) (bytes left : List ℕ) (count : ℕ) → IsBytes bytes → number bytes ≡ Some (count, left) → Taken Count G bytes left count []
taken_none counts G bytes left count fits e =
    let one = counts.sound bytes count left fits e in
    record { head = one.prefix; after = left; counted = one.encodes; parts = one.parts; progress = begin G left; few = omega arith }

-- one item more was read
taken_more : {V : Type 0} {Count : Grammar ℕ} {G : Grammar V} {read : PlainReader V} → ItemLaws G read → (bytes left rest : List ℕ) (count : ℕ) (vs : List V) (v : V) → IsBytes bytes → Taken Count G bytes left count vs → length vs < count → read left ≡ Some (v, rest) → Taken Count G bytes rest count (vs ++ v ∷ [])
taken_more {V} laws bytes left rest count vs v fits t lt e =
    let after : IsBytes t.after = IsBytes-back t.head t.after (rw t.parts at fits) in
    record { head = t.head; after = t.after; counted = t.counted; parts = t.parts; progress = (next laws.finds laws.some t.after left rest vs v after t.progress e).progress; few = omega (arith, length-append vs (v ∷ [])) }

-- no longer prefix is a whole one: no item is next, or the items are as many as the count says
abbrev IsStopped : {V : Type 0} → PlainReader V → List ℕ → ℕ → List V → Type 0
IsStopped read left count vs = (read left ≡ None) ⊎ (length vs ≡ count)

no_items : {V : Type 0} (G : Grammar V) (back : List ℕ) (more : List V) → length more ≤ 0 → Joined G back more → length back ≤ 0
no_items G back [] le g = rw g (omega arith)
no_items G back (v ∷ more) le g = absurd (omega arith)

no_longer : {V : Type 0} {G : Grammar V} {read : PlainReader V} (left prefix back rest : List ℕ) (count : ℕ) (vs others : List V) → KnownOf G read count → IsStopped read left count vs → Joined G prefix vs → Joined G back others → prefix ++ left ≡ back ++ rest → length others ≤ count → length back ≤ length prefix
no_longer {G = G} left prefix back rest count vs others (inl none) stop g h e few = let z = no_items G back others (omega (arith, none)) h in omega arith
no_longer {V} {G} {read} left prefix back rest count vs others (inr laws) stop g h e few = elim (cases_lt (length prefix) (length back)) [
  | inr le ↦ le
  | inl lt ↦
      let s = Joined-split laws.finds laws.some prefix back left rest vs others g h e (omega arith) in
      let more : 0 < length s.back = omega (arith, ap (length {A = ℕ}) s.bytes, length-append prefix s.back) in
      let row : left ≡ s.back ++ rest = append_cancel_left prefix left (s.back ++ rest) (e ∙ ap (λ (t : List ℕ). t ++ rest) s.bytes ∙ append_assoc prefix s.back rest) in
      absurd (clash s.back s.more s.encodes more row s.items stop)
] where
  clash : (longer : List ℕ) (more : List V) → Joined G longer more → 0 < length longer → left ≡ longer ++ rest → others ≡ vs ++ more → IsStopped read left count vs → ⊥
  clash longer more k some row items (inl none) = comes_next laws.finds longer rest more k some (sym (ap read row) ∙ none)
  clash longer more k some row items (inr full) = let z = no_items G longer more (omega (arith, ap (length {A = V}) items, length-append vs more)) k in absurd (omega arith)

after_taken : {V : Type 0} {Count : Grammar ℕ} {number : PlainReader ℕ} {G : Grammar V} {read : PlainReader V} → IsReadBy Count number → (bytes left : List ℕ) (count : ℕ) (vs : List V) → KnownOf G read count → Taken Count G bytes left count vs → IsStopped read left count vs → IsAfterLongest (IsCountedPrefix Count G) bytes left
after_taken {V} {Count} {number} {G} {read} counts bytes left count vs known t stop = record {
  prefix = t.head ++ t.progress.prefix;
  parts = t.parts ∙ ap (λ (b : List ℕ). t.head ++ b) t.progress.parts ∙ sym (append_assoc t.head t.progress.prefix left);
  whole = inr (record { count = count; items = vs; head = t.head; back = t.progress.prefix; parts = refl; counted = t.counted; few = t.few; encoded = t.progress.encodes });
  longest = λ other after e w. longest other after e w;
} where
  longest : (other after : List ℕ) → bytes ≡ other ++ after → IsCountedPrefix Count G other → length other ≤ length (t.head ++ t.progress.prefix)
  longest other after e (inl none) = rw none (omega arith)
  longest other after e (inr h) =
      let row : t.head ++ t.after ≡ h.head ++ (h.back ++ after) = sym t.parts ∙ e ∙ ap (λ (b : List ℕ). b ++ after) h.parts ∙ append_assoc h.head h.back after in
      let one = one_reading counts t.head h.head t.after (h.back ++ after) count h.count t.counted h.counted row in
      let le = no_longer left t.progress.prefix h.back after count vs h.items known stop t.progress.encodes h.encoded (sym t.progress.parts ∙ one.2) (omega (arith, h.few, one.1)) in
      omega (arith, le, length-append t.head t.progress.prefix, ap (length {A = ℕ}) h.parts, length-append h.head h.back, ap (length {A = ℕ}) one.0)

-- without a count nothing is whole but nothing
pub after_none : {V : Type 0} {Count : Grammar ℕ} {number : PlainReader ℕ} → IsReadBy Count number → (G : Grammar V) (bytes : List ℕ) → number bytes ≡ None → IsAfterLongest (IsCountedPrefix Count G) bytes bytes
after_none {Count = Count} {number} counts G bytes none = record {
  prefix = [];
  parts = refl;
  whole = inl refl;
  longest = λ other after e w. longest other after e w;
} where
  longest : (other after : List ℕ) → bytes ≡ other ++ after → IsCountedPrefix Count G other → length other ≤ 0
  longest other after e (inl empty) = rw empty (omega arith)
  longest other after e (inr h) =
      let row : bytes ≡ h.head ++ (h.back ++ after) = e ∙ ap (λ (b : List ℕ). b ++ after) h.parts ∙ append_assoc h.head h.back after in
      let read : number bytes ≡ Some (h.count, h.back ++ after) = ap number row ∙ counts.complete h.head h.count (h.back ++ after) h.counted in
      absurd cc

-- ---- a loop that reads the items of a list

-- so many items were read after the count
pub record Gone {V : Type 0} (Count : Grammar ℕ) (number : PlainReader ℕ) (G : Grammar V) (read : PlainReader V) (bytes left : List ℕ) (count i : ℕ) (vs : List V) : Type 0 where
  pub counts : IsReadBy Count number
  pub fits : IsBytes bytes
  pub begun : List ℕ
  pub counted : number bytes ≡ Some (count, begun)
  pub so_far : after_items vs (plain_times_at read (count - i) left) ≡ plain_counted_at number read bytes
  pub taken : Taken Count G bytes left count vs
  pub len : length vs ≡ i
  pub known : KnownOf G read i

after_no_items : {A : Type 0} (read : Option (List A × List ℕ)) → after_items [] read ≡ read
after_no_items (Some x) = refl
after_no_items None = refl

pub gone_none : {V : Type 0} {Count : Grammar ℕ} {number : PlainReader ℕ} → IsReadBy Count number → (G : Grammar V) (read : PlainReader V) (bytes left : List ℕ) (count : ℕ) → IsBytes bytes → number bytes ≡ Some (count, left) → Gone Count number G read bytes left count 0 []
gone_none {number = number} counts G read bytes left count fits e =
    let k : count - 0 ≡ count = omega arith in
    record { counts = counts; fits = fits; begun = left; counted = e; so_far = rw (e, k) (after_no_items (plain_times_at read count left)); taken = taken_none counts G bytes left count fits e; len = refl; known = inl refl }

pub gone_more : {V : Type 0} {Count : Grammar ℕ} {number : PlainReader ℕ} {G : Grammar V} {read : PlainReader V} → IsReadBy G read → TakesBytes G → (bytes left rest : List ℕ) (count i : ℕ) (vs : List V) (v : V) → Gone Count number G read bytes left count i vs → i < count → read left ≡ Some (v, rest) → Gone Count number G read bytes rest count (i + 1) (vs ++ v ∷ [])
gone_more {V} {Count} {number} {G} {read} finds some bytes left rest count i vs v w lt e =
    let laws : ItemLaws G read = record { finds = finds; some = some } in
    record {
      counts = w.counts;
      fits = w.fits;
      begun = w.begun;
      counted = w.counted;
      so_far = items_go_on read vs count i left v rest (plain_counted_at number read bytes) lt e w.so_far;
      taken = taken_more laws bytes left rest count vs v w.fits w.taken (omega (arith, w.len)) e;
      len = omega (arith, length-append vs (v ∷ []), w.len);
      known = inr laws;
    }

-- The facts about a call that read a list, or refused it.
pub record Answered {X V : Type 0} (Count : Grammar ℕ) (number : PlainReader ℕ) (G : Grammar V) (read : PlainReader V) (old new : List ℕ) (r : Result X Fault) : Type 0 where
  pub finds : UnlessMemory r (FindsAt (Counted Count G) (plain_counted_at number read) old)
  pub prefix : UnlessMemory r (IsAfterLongest (IsCountedPrefix Count G) old new)

-- the count is missing or malformed
pub count_wanting : {X V : Type 0} {Count : Grammar ℕ} {number : PlainReader ℕ} → IsReadBy Count number → (G : Grammar V) (read : PlainReader V) (old new : List ℕ) (fault : Fault) → ReadsPlain number old new (Err fault) → new ≡ old → Answered {X = X} Count number G read old new (Err fault)
count_wanting counts G read old new faults.Memory none stays = record { finds = tt; prefix = tt }
count_wanting counts G read old new (faults.Malformed m) none stays = record { finds = finds_none counts G read old none; prefix = rw stays (after_none counts G old none) }

pub unread_count : {V : Type 0} (number : PlainReader ℕ) (read : PlainReader V) (old new : List ℕ) (fault : Fault) → ReadsPlain number old new (Err fault) → ReadsPlain (plain_counted_at number read) old new (Err fault)
unread_count number read old new faults.Memory none = tt
unread_count number read old new (faults.Malformed m) none = rw none refl

-- an item is missing or malformed
pub item_wanting : {X V : Type 0} {Count : Grammar ℕ} {number : PlainReader ℕ} {G : Grammar V} {read : PlainReader V} → IsReadBy G read → TakesBytes G → (old left new : List ℕ) (count i : ℕ) (vs : List V) (fault : Fault) → Gone Count number G read old left count i vs → i < count → ReadsPlain read left new (Err fault) → new ≡ left → Answered {X = X} Count number G read old new (Err fault)
item_wanting finds some old left new count i vs faults.Memory w lt none stays = record { finds = tt; prefix = tt }
item_wanting {G = G} {read} finds some old left new count i vs (faults.Malformed m) w lt none stays =
    let known : KnownOf G read count = inr (record { finds = finds; some = some }) in
    record {
      finds = finds_list w.counts old w.begun count w.fits w.counted known;
      prefix = rw stays (after_taken w.counts old left count vs known w.taken (inl none));
    }

pub unread_item : {V : Type 0} {Count : Grammar ℕ} {number : PlainReader ℕ} {G : Grammar V} {read : PlainReader V} (old left new : List ℕ) (count i : ℕ) (vs : List V) (fault : Fault) → Gone Count number G read old left count i vs → i < count → ReadsPlain read left new (Err fault) → ReadsPlain (plain_counted_at number read) old new (Err fault)
unread_item {number = number} {read = read} old left new count i vs fault w lt none = items_fail fault read (plain_counted_at number read) vs count i left new old (plain_counted_at number read old) lt none w.so_far (λ e. e)

-- as many items as the count says
pub all_read : {V : Type 0} {Count : Grammar ℕ} {number : PlainReader ℕ} {G : Grammar V} {read : PlainReader V} (old left : List ℕ) (count i : ℕ) (vs : List V) → Gone Count number G read old left count i vs → count ≤ i → plain_counted_at number read old ≡ Some (vs, left)
all_read {number = number} {read = read} old left count i vs w le = items_all read vs count i left (plain_counted_at number read old) le w.so_far

pub all_answered : {X V : Type 0} {Count : Grammar ℕ} {number : PlainReader ℕ} {G : Grammar V} {read : PlainReader V} (old left : List ℕ) (count i : ℕ) (vs : List V) (x : X) → Gone Count number G read old left count i vs → i ≡ count → Answered Count number G read old left (Ok x)
all_answered {G = G} {read} old left count i vs x w full =
    let known : KnownOf G read count = subst (KnownOf G read) full w.known in
    record {
      finds = finds_list w.counts old w.begun count w.fits w.counted known;
      prefix = after_taken w.counts old left count vs known w.taken (inr (w.len ∙ full));
    }

-- ---- to the end of the bytes

whole : {V : Type 0} (G : Grammar V) (bytes : List ℕ) (v : V) → G bytes v → BeginsWith G bytes v []
whole G bytes v g = record { prefix = bytes; encodes = g; parts = sym (append-nil bytes) }

-- nothing is left over
pub whole_given : {V : Type 0} {G : Grammar V} {read : PlainReader V} (bytes left : List ℕ) (v : V) → FindsAt G read bytes → read bytes ≡ Some (v, left) → length left ≤ 0 → G bytes v
whole_given {G = G} bytes [] v f e none =
    let one = f.sound v [] e in
    subst (λ (t : List ℕ). G t v) (sym (one.parts ∙ append-nil one.prefix)) one.encodes
whole_given bytes (b ∷ left) v f e none = absurd (omega arith)

-- where something is left over the bytes encode nothing
pub left_unencoded : {V : Type 0} {G : Grammar V} {read : PlainReader V} (bytes left : List ℕ) (v : V) → FindsAt G read bytes → read bytes ≡ Some (v, left) → 0 < length left → (w : V) → G bytes w → ⊥
left_unencoded {V} {G} bytes left v f e more w g =
    let same : (v, left) ≡ (w, []) = some_is (v, left) (w, []) (sym e ∙ f.complete w [] (whole G bytes w g)) in
    absurd (omega (arith, ap (λ (p : V × List ℕ). length p.1) same))

-- nor where nothing is read
pub none_unencoded : {V : Type 0} {G : Grammar V} {read : PlainReader V} (bytes : List ℕ) → FindsAt G read bytes → read bytes ≡ None → (w : V) → G bytes w → ⊥
none_unencoded {V} {G} {read} bytes f none w g = absurd (clash (read bytes) (w, []) none (f.complete w [] (whole G bytes w g))) where
  clash : (o : Option (V × List ℕ)) (x : V × List ℕ) → o ≡ None → o ≡ Some x → ⊥
  clash o x e f = absurd cc
