-- The numbers in a refusal count the parts before the one that is refused.
use Rattle.std.proofs.Common.{◌≡◌, ℕ, ◌+◌, ◌-◌, ◌<◌, ◌≤◌, Bool, List, [], ◌∷◌, ◌++◌, length, Option, drop, Some, None, Err, refl, sym, ap, subst, ◌∙◌, append_assoc, length-append, inl, inr, arith}
use Rattle.std.proofs.lemmas.List.{drop_at}
use Rattle.wasm_codec.specs.declared.reader.cursor.Fault.{Fault}
use Rattle.wasm_codec.specs.declared.reader.cursor.Fault.TheVariants as faults
use Rattle.wasm_codec.specs.declared.reader.ReadError.TheVariants as errors
use Rattle.wasm_codec.specs.declared.reader.DecodeError.{DecodeError}
use Rattle.wasm_codec.specs.declared.reader.DecodeError.TheVariants as decode_errors
use Rattle.wasm_codec.specs.formats.Grammar.{Grammar, IsBytes, Joined, TakesBytes}
use Rattle.wasm_codec.specs.formats.Combinators.{Format, minimal_if, u32}
use Rattle.wasm_codec.specs.Reading.{PlainReader}
use Rattle.wasm_codec.specs.Outcomes.{EncodesSome, IfInItem, HoldsAtRefusal, HoldsOfRefusal, IsAfterLongest, IsLongestPrefix, IsMalformed, UnlessMemory, NamesItem, error_of, item_of, named_item, read_error_of}
use Rattle.wasm_codec.specs.Lists.{BreaksAtItem, BreaksInBody, CountsItems, CountsRead, HasItemsBefore, HasJoinedBefore, IsCountedAt}
use Rattle.wasm_codec.specs.Lawful.{IsLawful, plain}
use Rattle.wasm_codec.specs.Rewriter.{IsOpen, Rewrites, StopsAt, StopsBehind, StopsInItem, Rewriting, rewriting_after, rewritten_at, skipped}
use Rattle.wasm_codec.specs.declared.reader.malformed.Stop.{Stop}
use Rattle.wasm_codec.specs.formats.Bodies.{body_at}
use Rattle.wasm_codec.specs.formats.Numbers.{EncodesU32}
use Rattle.wasm_codec.specs.Places.{Place}
use Rattle.wasm_codec.proofs.BodyLaws.{body_sound}
use Rattle.wasm_codec.proofs.FormatLaws.{Lawful-u32}
use Rattle.wasm_codec.proofs.Laws.{IsBytes-after, some_is}
use Rattle.wasm_codec.proofs.ListLaws.{Gone, gone_more, gone_none}
use Rattle.wasm_codec.proofs.ListRewriting.{longest_from}
use Rattle.wasm_codec.proofs.ListReading.{Progress, begin, progress_bytes}
use Rattle.wasm_codec.proofs.PlaceLists.{place_next, plain_none, plain_reads, plain_some}
use Rattle.wasm_codec.proofs.RewriterLaws.{is_after, is_given}
use Rattle.wasm_codec.proofs.BodyRewriting.{joined_stopped}

-- ---- a loop that reads the items of a list

pub gone_before : {V : Type 0} {Count : Grammar ℕ} {number : PlainReader ℕ} {G : Grammar V} {read : PlainReader V} (bytes left : List ℕ) (count i : ℕ) (vs : List V) → Gone Count number G read bytes left count i vs → HasItemsBefore Count G bytes count i (length bytes - length left)
gone_before bytes left count i vs w =
    let t = w.taken in
    record {
      head = t.head;
      back = t.progress.prefix;
      rest = left;
      items = vs;
      parts = t.parts ∙ ap (λ (l : List ℕ). t.head ++ l) t.progress.parts;
      at_is = omega (arith, ap (length {A = ℕ}) t.parts, length-append t.head t.after, ap (length {A = ℕ}) t.progress.parts, length-append t.progress.prefix left);
      counted = t.counted;
      few = t.few;
      encoded = t.progress.encodes;
      index_is = w.len;
    }

-- the count is malformed
pub count_fault : (X Y : Type 0) {V : Type 0} (strict : Bool) (F : Format V) (old new : List ℕ) (fault : Fault) → new ≡ old → NamesItem {X = Y} None (Err fault) → CountsRead {X = X} strict F old new (Err fault)
count_fault X Y strict F old new faults.Memory stays none = tt
count_fault X Y strict F old new (faults.Malformed m) stays none = rw none (inl (omega (arith, ap (length {A = ℕ}) stays)))

-- an item is malformed
pub item_fault : (X Y : Type 0) {V : Type 0} (strict : Bool) (F : Format V) {number : PlainReader ℕ} {read : PlainReader V} (old here new : List ℕ) (count i : ℕ) (vs : List V) (fault : Fault) → Gone (minimal_if strict u32).Encodes number (minimal_if strict F).Encodes read old here count i vs → i < count → new ≡ here
    → NamesItem {X = Y} (Some i) (Err fault) → CountsRead {X = X} strict F old new (Err fault)
item_fault X Y strict F old here new count i vs faults.Memory w lt stays some = tt
item_fault X Y strict F old here new count i vs (faults.Malformed m) w lt stays some = rw (some, stays) (count, lt, gone_before old here count i vs w)

-- the list is whole
pub all_before : {V : Type 0} {Count : Grammar ℕ} {number : PlainReader ℕ} {G : Grammar V} {read : PlainReader V} (bytes left : List ℕ) (count i : ℕ) (vs : List V) → Gone Count number G read bytes left count i vs → i ≡ count → IsCountedAt Count G bytes (length bytes - length left) None
all_before {Count = Count} {G = G} bytes left count i vs w full = inr (count, subst (λ (n : ℕ). HasItemsBefore Count G bytes count n (length bytes - length left)) full (gone_before bytes left count i vs w))

-- ---- the error of a call

refused_at : (at other : ℕ) → errors.Refused at ≡ errors.Refused other → at ≡ other
refused_at at other e = grind (arith, e)

pub counts_refused : {V : Type 0} (strict : Bool) (F : Format V) (bytes : List ℕ) (error : DecodeError) (at : ℕ) (item : Option ℕ) → read_error_of error ≡ errors.Refused at → item_of error ≡ item → IsCountedAt (minimal_if strict u32).Encodes (minimal_if strict F).Encodes bytes at item → HoldsOfRefusal error (CountsItems strict F bytes)
counts_refused strict F bytes decode_errors.Memory at item error named counts = tt
counts_refused strict F bytes (decode_errors.Malformed refusal) at item error named counts = rw (refused_at refusal.at at error, named) counts

-- the count is refused
pub counts_nothing : {V : Type 0} (strict : Bool) (F : Format V) (bytes : List ℕ) (error : DecodeError) (fault : Fault) → read_error_of error ≡ error_of fault 0 → item_of error ≡ None → HoldsOfRefusal error (CountsItems strict F bytes)
counts_nothing strict F bytes decode_errors.Memory fault is none = tt
counts_nothing strict F bytes (decode_errors.Malformed refusal) (faults.Malformed m) is none = rw (refused_at refusal.at 0 is, none) (inl refl)
counts_nothing strict F bytes (decode_errors.Malformed refusal) faults.Memory is none = absurd cc

-- an item is refused
pub counts_before : {V : Type 0} (strict : Bool) (F : Format V) (bytes : List ℕ) (error same : DecodeError) (fault : Fault) (at index count : ℕ) → read_error_of error ≡ read_error_of same → read_error_of same ≡ error_of fault at → item_of error ≡ named_item same index → index < count
    → HasItemsBefore (minimal_if strict u32).Encodes (minimal_if strict F).Encodes bytes count index at → HoldsOfRefusal error (CountsItems strict F bytes)
counts_before strict F bytes decode_errors.Memory same fault at index count is was named lt before = tt
counts_before strict F bytes (decode_errors.Malformed refusal) decode_errors.Memory fault at index count is was named lt before = absurd cc
counts_before strict F bytes (decode_errors.Malformed refusal) (decode_errors.Malformed other) (faults.Malformed m) at index count is was named lt before = rw (refused_at refusal.at at (is ∙ was), named) (count, lt, before)
counts_before strict F bytes (decode_errors.Malformed refusal) (decode_errors.Malformed other) faults.Memory at index count is was named lt before = absurd cc

-- ---- items without a count

pub joined_before : {V : Type 0} (G : Grammar V) (bytes left : List ℕ) (vs : List V) (passed n : ℕ) → Progress G bytes left vs → length vs ≡ passed → n ≡ length left → HasJoinedBefore G bytes passed (length bytes - n)
joined_before G bytes left vs passed n p count len = record {
  prefix = p.prefix;
  rest = left;
  items = vs;
  parts = p.parts;
  at_is = omega (arith, ap (length {A = ℕ}) p.parts, length-append p.prefix left, len);
  encoded = p.encodes;
  index_is = count;
}

-- this number of items was rewritten
pub record Counted {V : Type 0} (F : Format V) (old here : List ℕ) (passed : ℕ) : Type 0 where
  pub values : List V
  pub progress : Progress F.Encodes old here values
  pub count : length values ≡ passed

pub counted_none : {V : Type 0} (F : Format V) (old : List ℕ) → Counted F old old 0
counted_none F old = record { values = []; progress = begin F.Encodes old; count = refl }

pub counted_more : {V : Type 0} {F : Format V} → IsLawful F → TakesBytes F.Encodes → (old here next : Rewriting) (passed : ℕ) → IsBytes old.place.left → Counted F old.place.left here.place.left passed → rewriting_after F here ≡ Some next → Counted F old.place.left next.place.left (passed + 1)
counted_more {V} {F} r some old here next passed fits c e =
    let one = is_after F here next e in
    let n = place_next r some old.place.left here.place next.place c.values one.value fits (progress_bytes old.place.left here.place.left fits c.progress) c.progress one.given.is_read in
    record { values = c.values ++ one.value ∷ []; progress = n.progress; count = omega (arith, length-append c.values (one.value ∷ []), c.count) }

-- nothing was skipped
pub counted_skipped : {V : Type 0} (F : Format V) (old here next : Rewriting) (passed run : ℕ) → run ≡ 0 → next ≡ skipped run here → Counted F old.place.left here.place.left passed → Counted F old.place.left next.place.left passed
counted_skipped F old here next passed run none is c = rw (is, none) c

pub counted_before : {V : Type 0} (F : Format V) (old here : List ℕ) (passed n : ℕ) → Counted F old here passed → n ≡ length here → HasJoinedBefore F.Encodes old passed (length old - n)
counted_before F old here passed n c len = joined_before F.Encodes old here c.values passed n c.progress c.count len

-- the error of a call that stops at an item
pub stop_prefix : {V : Type 0} (F : Format V) (bytes : List ℕ) (stop : Stop) → StopsBehind F bytes stop → HoldsAtRefusal (error_of stop.fault (length bytes - stop.left)) (IsLongestPrefix (EncodesSome (Joined F.Encodes)) bytes)
stop_prefix F bytes stop s = by stop.fault s.prefix where
  by : (fault : Fault) → (IsMalformed fault → IsLongestPrefix (EncodesSome (Joined F.Encodes)) bytes (length bytes - stop.left)) → HoldsAtRefusal (error_of fault (length bytes - stop.left)) (IsLongestPrefix (EncodesSome (Joined F.Encodes)) bytes)
  by faults.Memory prefix = tt
  by (faults.Malformed m) prefix = prefix tt

pub stop_within : {V : Type 0} (F : Format V) (bytes : List ℕ) (stop : Stop) → StopsBehind F bytes stop → HoldsAtRefusal (error_of stop.fault (length bytes - stop.left)) (λ at. at < length bytes)
stop_within F bytes stop s = by stop.fault s.some s.within where
  by : (fault : Fault) → (IsMalformed fault → 0 < stop.left) → (IsMalformed fault → stop.left ≤ length bytes) → HoldsAtRefusal (error_of fault (length bytes - stop.left)) (λ at. at < length bytes)
  by faults.Memory some within = tt
  by (faults.Malformed m) some within = omega (arith, some tt, within tt)

-- no item is read after these
pub stops_behind : {V : Type 0} (F : Format V) (bytes left : List ℕ) (stop : Stop) → (IsMalformed stop.fault → IsAfterLongest (EncodesSome (Joined F.Encodes)) bytes left) → stop.left ≡ length left → 0 < length left → StopsBehind F bytes stop
stops_behind F bytes left stop longest len some = record {
  prefix = λ malformed. subst (λ (n : ℕ). IsLongestPrefix (EncodesSome (Joined F.Encodes)) bytes (length bytes - n)) (sym len) (longest_from (EncodesSome (Joined F.Encodes)) bytes left (longest malformed));
  some = λ malformed. omega (arith, len);
  within = λ malformed. let l = longest malformed in omega (arith, len, ap (length {A = ℕ}) l.parts, length-append l.prefix left);
}

pub unless_malformed : (X : Type 0) {P : Type 0} (fault : Fault) → UnlessMemory {X = X} (Err fault) P → IsMalformed fault → P
unless_malformed X faults.Memory p malformed = absurd malformed
unless_malformed X (faults.Malformed m) p malformed = p

pub stops_at : {V : Type 0} {F : Format V} → IsLawful F → TakesBytes F.Encodes → (bytes : List ℕ) (stop : Stop) → StopsAt F bytes stop.left → StopsBehind F bytes stop
stops_at r some bytes stop s = record {
  prefix = λ malformed. joined_stopped r some bytes stop.left s;
  some = λ malformed. s.some;
  within = λ malformed. omega (arith, s.len, ap (length {A = ℕ}) s.parts, length-append s.prefix s.rest);
}

-- ---- where a list breaks off

pub breaks_here : {V : Type 0} (N : Format ℕ) (F : Format V) (bytes left : List ℕ) (count i : ℕ) (vs : List V) → Gone N.Encodes (plain N.at) F.Encodes (plain F.at) bytes left count i vs → i < count → plain F.at left ≡ None → BreaksAtItem N F bytes i
unfolding gone_before
breaks_here N F bytes left count i vs w lt none = record { count = count; at = length bytes - length left; before = gone_before bytes left count i vs w; few = lt; broken = none }

-- an item that is read is malformed
pub breaks_at_read : (X Y : Type 0) {V : Type 0} (N : Format ℕ) (F : Format V) (bytes left : List ℕ) (count i : ℕ) (vs : List V) (fault : Fault) → Gone N.Encodes (plain N.at) F.Encodes (plain F.at) bytes left count i vs → i < count → (IsMalformed fault → plain F.at left ≡ None) → NamesItem {X = Y} (Some i) (Err fault) → IfInItem {X = X} (Err fault) (BreaksAtItem N F bytes)
breaks_at_read X Y N F bytes left count i vs faults.Memory w lt none names = λ index e. absurd cc
breaks_at_read X Y N F bytes left count i vs (faults.Malformed m) w lt none names = λ index e.
    subst (BreaksAtItem N F bytes) (some_is i index (sym names ∙ e)) (breaks_here N F bytes left count i vs w lt (none tt))

-- the count is malformed
pub breaks_nowhere : (X Y : Type 0) {V : Type 0} (N : Format ℕ) (F : Format V) (bytes : List ℕ) (fault : Fault) → NamesItem {X = Y} None (Err fault) → IfInItem {X = X} (Err fault) (BreaksAtItem N F bytes)
breaks_nowhere X Y N F bytes faults.Memory none = λ index e. absurd cc
breaks_nowhere X Y N F bytes (faults.Malformed m) none = λ index e. absurd cc

-- this number of items of a list was rewritten
pub record ListPassed {V : Type 0} (F : Format V) (bytes left : List ℕ) (count i : ℕ) : Type 0 where
  pub values : List V
  pub gone : Gone EncodesU32 (plain u32.at) F.Encodes (plain F.at) bytes left count i values
  pub fits : IsBytes left

pub list_passed_none : {V : Type 0} (F : Format V) (old here : Rewriting) (count : ℕ) → IsBytes old.place.left → rewritten_at u32 old ≡ Some (count, here) → ListPassed F old.place.left here.place.left count 0
list_passed_none F old here count fits e =
    let g = is_given u32 old count here e in
    let one = Lawful-u32.reads.sound old.place count here.place fits g.is_read in
    record {
      values = [];
      gone = gone_none (plain_reads Lawful-u32.reads) F.Encodes (plain F.at) old.place.left here.place.left count fits (plain_some Lawful-u32 old.place count here.place fits g.is_read);
      fits = IsBytes-after old.place.left here.place.left count one fits;
    }

pub list_passed_more : {V : Type 0} {F : Format V} → IsLawful F → TakesBytes F.Encodes → (bytes : List ℕ) (here next : Rewriting) (count i : ℕ) → ListPassed F bytes here.place.left count i → i < count → rewriting_after F here ≡ Some next → ListPassed F bytes next.place.left count (i + 1)
list_passed_more {F = F} r some bytes here next count i w lt e =
    let one = is_after F here next e in
    let sound = r.reads.sound here.place one.value next.place w.fits one.given.is_read in
    record {
      values = w.values ++ one.value ∷ [];
      gone = gone_more (plain_reads r.reads) some bytes here.place.left next.place.left count i w.values one.value w.gone lt (plain_some r here.place one.value next.place w.fits one.given.is_read);
      fits = IsBytes-after here.place.left next.place.left one.value sound w.fits;
    }

-- an item that is rewritten is malformed
pub breaks_at_rewritten : (X Y : Type 0) {V : Type 0} {F : Format V} → IsLawful F → (bytes : List ℕ) (here new : Rewriting) (count i : ℕ) (fault : Fault) → ListPassed F bytes here.place.left count i → i < count → Rewrites F here new (Err fault) → NamesItem {X = Y} (Some i) (Err fault) → IfInItem {X = X} (Err fault) (BreaksAtItem u32 F bytes)
breaks_at_rewritten X Y r bytes here new count i faults.Memory w lt none names = absurd none
breaks_at_rewritten X Y {F = F} r bytes here new count i (faults.Malformed m) w lt none names = breaks_at_read X Y u32 F bytes here.place.left count i w.values (faults.Malformed m) w.gone lt (λ _. plain_none r here.place w.fits none) names

-- ---- inside a body

pub in_body : (Breaks : List ℕ → ℕ → Type 0) (old : Place) (body : List ℕ) (after : Place) → IsBytes old.left → body_at old ≡ Some (body, after) → (i : ℕ) → Breaks body i → BreaksInBody Breaks old.left i
in_body Breaks old body after fits e i breaks =
    let b = body_sound old body after fits e in
    record { size = b.size; body = body; rest = after.left; parts = b.parts ∙ append_assoc b.size body after.left; sized = b.counts; breaks = breaks }

-- a fault in a body that is rewritten
pub breaks_in_opened : (X Y : Type 0) (Breaks : List ℕ → ℕ → Type 0) (old mid : Rewriting) (mark size behind : ℕ) (fault : Fault) → IsBytes old.place.left → IsOpen old mid mark size behind → IfInItem {X = X} (Err fault) (Breaks mid.place.left) → IfInItem {X = Y} (Err fault) (BreaksInBody Breaks old.place.left)
breaks_in_opened X Y Breaks old mid mark size behind fault fits o h =
    let inside : IfInItem {X = X} (Err fault) (Breaks o.body) = subst (λ (l : List ℕ). IfInItem {X = X} (Err fault) (Breaks l)) (ap (λ (r : Rewriting). r.place.left) o.within) h in
    λ index e. in_body Breaks old.place o.body o.after fits o.is_read index (inside index e)

-- ---- the part at which a loop stops

pub stops_in_item : (X : Type 0) (P : List ℕ → ℕ → Type 0) (bytes prefix left : List ℕ) (n passed : ℕ) (fault : Fault) → bytes ≡ prefix ++ left → n ≡ length left → IfInItem {X = X} (Err fault) (P left) → StopsInItem P bytes (record { left = n; passed = passed; fault = fault })
stops_in_item X P bytes prefix left n passed fault parts len h =
    let rest : drop (length bytes - n) bytes ≡ left = rw (parts) (drop_at prefix left (length (prefix ++ left) - n) (omega (arith, len, length-append prefix left))) in
    λ index e. rw rest (h index e)
