-- All items that an iterator gives, from those that each call gives.
use Rattle.std.proofs.Common.{◌≡◌, ℕ, zero, suc, ◌+◌, ◌-◌, ◌<◌, ◌≤◌, Bool, true, false, List, [], ◌∷◌, ◌++◌, length, Option, Some, None, Result, Ok, Err, inl, inr, refl, sym, ap, subst, IfSome, option_map, ◌^◌, ◌∙◌, append_assoc, length-append, arith}
use Rattle.std.proofs.lemmas.List.{append-nil}
use Rattle.wasm_codec.specs.declared.reader.DecodeError.{DecodeError}
use Rattle.wasm_codec.specs.declared.reader.DecodeError.TheVariants as decode_errors
use Rattle.wasm_codec.specs.Lawful.{IsLawful, plain}
use Rattle.wasm_codec.specs.Outcomes.{EncodesSome, HoldsAtRefusal, IsAfterLongest, IsLongestPrefix, error_of, read_error_of}
use Rattle.wasm_codec.specs.Reading.{◌>>=◌, BeginsWith, IsReadBy, PlainReader, plain_counted_at}
use Rattle.wasm_codec.specs.formats.Combinators.{Format, minimal_if, only_minimal, u32}
use Rattle.wasm_codec.specs.formats.Grammar.{Grammar, IsBytes, Joined, TakesBytes}
use Rattle.wasm_codec.specs.Places.{Place, Reads, WasMinimalIf, keeps, place}
use Rattle.wasm_codec.specs.declared.reader.cursor.Fault.{Fault}
use Rattle.wasm_codec.specs.declared.reader.cursor.Fault.TheVariants as faults
use Rattle.wasm_codec.proofs.BodyLaws.{some_bytes}
use Rattle.wasm_codec.specs.Lists.{IsListPrefixMinimalIf, ListMinimalIf}
use Rattle.wasm_codec.specs.declared.reader.malformed.Malformed.{Malformed}
use Rattle.wasm_codec.specs.declared.reader.malformed.Reason.TheVariants as reasons
use Rattle.wasm_codec.proofs.FormatLaws.{Lawful-u32}
use Rattle.wasm_codec.proofs.ListLaws.{Gone, all_answered, all_read, count_wanting, gone_more, gone_none, item_wanting, left_unencoded, none_unencoded, unread_item, whole_given}
use Rattle.wasm_codec.proofs.ListReading.{progress_bytes}
use Rattle.wasm_codec.proofs.Joining.{Joined-longest}
use Rattle.wasm_codec.proofs.Laws.{IsBytes-back}
use Rattle.wasm_codec.proofs.MinimalIfLaws.{Lawful-minimal_if}
use Rattle.wasm_codec.proofs.PlaceLists.{plain_none, plain_reads, plain_some, step}
use Rattle.wasm_lists.specs.ItemReading.{BeginsWithNone, EncodesNoList, GivesNext, GivesError, GivesItem, GivesToEnd, GivesList, GivesNone, GaveItems, GaveItemsThen, HasMore, IsStuck, NoneDue, OneLess, Reading, RefusesItems, shifted, values_of}

-- ---- one item

-- an item that was read, and minimally if only minimal encodings are read
read_minimally : {V : Type 0} (F : Format V) (strict : Bool) (here next : Place) (v : V) → WasMinimalIf strict here → F.at here ≡ Some (v, next) → WasMinimalIf strict next → (minimal_if strict F).at here ≡ Some (v, next)
read_minimally {V} F true here next v was e minimal =
    let from : place true here.left ≡ here = ap (λ (m : Bool). place m here.left) (sym was) in
    ap (λ (p : Place). F.at p >>= λ x. only_minimal here.minimal x) from ∙ ap (λ (o : Option (V × Place)). o >>= λ x. only_minimal here.minimal x) e ∙ rw minimal (ap (λ (m : Bool). Some (v, place m next.left)) was)
read_minimally F false here next v was e minimal = e

some_minimally : {V : Type 0} (F : Format V) (strict : Bool) → TakesBytes F.Encodes → TakesBytes (minimal_if strict F).Encodes
some_minimally F true some v e = some v e.0
some_minimally F false some v e = some v e

-- ---- one call

-- the state that the fields of an iterator stand for
abbrev pub reading_of : ℕ → ℕ → Place → Option ℕ → ℕ → Bool → Bool → Reading
reading_of start len here count passed strict ended = record {
  offset = start + (len - length here.left);
  left = here.left;
  due = option_map (λ c. c - passed) count;
  strict = strict;
  ended = ended;
}

-- the item after this number is counted
abbrev pub IsNotLast : Option ℕ → ℕ → Type 0
IsNotLast count passed = IfSome count (λ c. (passed < c) × (c < 2 ^ 32))

one_due : (count : Option ℕ) (passed next : ℕ) → IsNotLast count passed → (passed + 1 < 2 ^ 32 → next ≡ passed + 1) → OneLess (option_map (λ c. c - passed) count) (option_map (λ c. c - next) count)
one_due None passed next some is = refl
one_due (Some c) passed next some is =
    let e = is (omega (arith, some.0, some.1)) in
    (c - next, omega (arith, some.0, e), refl)

pub not_last : (count : Option ℕ) (passed : ℕ) (left : List ℕ) → IfSome count (λ c. (passed ≤ c) × (c < 2 ^ 32)) → HasMore (option_map (λ c. c - passed) count) left → IsNotLast count passed
not_last None passed left le more = tt
not_last (Some c) passed left le more = (omega (arith, more), le.1)

-- the number after it isn't beyond the last
pub next_counted : (count : Option ℕ) (passed after : ℕ) → IsNotLast count passed → (passed + 1 < 2 ^ 32 → after ≡ passed + 1) → IfSome count (λ c. (after ≤ c) × (c < 2 ^ 32))
next_counted None passed after some is = tt
next_counted (Some c) passed after some is =
    let e = is (omega (arith, some.0, some.1)) in
    (omega (arith, some.0, e), some.1)

-- an item was given, and fewer bytes are left
pub record GivenOne {V : Type 0} (G : Grammar V) (old : Reading) (offset : ℕ) (v : V) (new : Reading) : Type 0 where
  pub gives : GivesItem G old offset v new
  pub fewer : length new.left < length old.left

pub one_given : {V : Type 0} {F : Format V} → IsLawful F → TakesBytes F.Encodes → (start len : ℕ) (here next : Place) (count : Option ℕ) (passed after : ℕ) (strict : Bool) (v : V) → IsBytes here.left → length here.left ≤ len
    → IsNotLast count passed → (passed + 1 < 2 ^ 32 → after ≡ passed + 1) → F.at here ≡ Some (v, next)
    → GivenOne F.Encodes (reading_of start len here count passed strict false) (start + (len - length here.left)) v (reading_of start len next count after strict false)
one_given {V} {F} r takes start len here next count passed after strict v fits le some is e =
    let one = step r here v next fits e in
    let lt = some_bytes F.Encodes takes one.prefix v one.encodes in
    let all = ap (length {A = ℕ}) one.parts ∙ length-append one.prefix next.left in
    record {
      gives = record {
        begins = record { prefix = one.prefix; encodes = one.encodes; parts = one.parts };
        offset_is = refl;
        moves = omega (arith, le, lt, all);
        due = one_due count passed after some is;
        going = refl;
        goes_on = refl;
        strict = refl;
      };
      fewer = omega (arith, lt, all);
    }

stuck_at : {V : Type 0} {G : Grammar V} (due : Option ℕ) (left : List ℕ) → HasMore due left → BeginsWithNone G left → IsStuck G due left
stuck_at None left more none = (more, none)
stuck_at (Some zero) left more none = absurd (omega (arith, more))
stuck_at (Some (suc n)) left more none = none

unlike : {A : Type 0} (o : Option A) (x : A) → o ≡ None → o ≡ Some x → ⊥
unlike o x e f = absurd cc

-- bytes from which nothing is read begin with no item
pub nothing_begins : {V : Type 0} {F : Format V} → IsLawful F → (here : Place) → F.at here ≡ None → BeginsWithNone F.Encodes here.left
nothing_begins {V} {F} r here none v rest begins =
    let found = r.reads.complete begins.prefix v rest here.minimal begins.encodes in
    unlike (F.at here) (v, place (keeps here.minimal begins.prefix (F.bytes v)) rest) none (ap (λ (l : List ℕ). F.at (place here.minimal l)) begins.parts ∙ found)

-- an item is given that was read in any encoding, and is minimal if only minimal encodings are read
pub one_read : {V : Type 0} {F : Format V} → IsLawful F → TakesBytes F.Encodes → (start len : ℕ) (here next : Place) (count : Option ℕ) (passed after : ℕ) (strict : Bool) (v : V) → IsBytes here.left → length here.left ≤ len
    → IsNotLast count passed → (passed + 1 < 2 ^ 32 → after ≡ passed + 1) → WasMinimalIf strict here → F.at here ≡ Some (v, next) → WasMinimalIf strict next
    → GivenOne (minimal_if strict F).Encodes (reading_of start len here count passed strict false) (start + (len - length here.left)) v (reading_of start len next count after strict false)
one_read {V} {F} r takes start len here next count passed after strict v fits le some is was e minimal =
    one_given (Lawful-minimal_if strict r) (some_minimally F strict takes) start len here next count passed after strict v fits le some is (read_minimally F strict here next v was e minimal)

pub one_failed : {V : Type 0} {F : Format V} → IsLawful F → (start len : ℕ) (here new next : Place) (count : Option ℕ) (passed : ℕ) (strict : Bool) (fault : Fault) (error : DecodeError)
    → HasMore (option_map (λ c. c - passed) count) here.left → Reads F.at here new (Err fault) → read_error_of error ≡ shifted start (error_of fault (len - length here.left))
    → GivesError F.Encodes (reading_of start len here count passed strict false) error (reading_of start len next count passed strict true)
one_failed {V} {F} r start len here new next count passed strict faults.Memory error some reads is = record {
  at = rw is tt;
  stuck = rw is tt;
  going = refl;
  ends = refl;
}
one_failed {V} {F} r start len here new next count passed strict (faults.Malformed m) error some reads is = record {
  at = rw is (omega arith);
  stuck = rw is (stuck_at (option_map (λ c. c - passed) count) here.left some (nothing_begins r here reads));
  going = refl;
  ends = refl;
}

-- ---- all calls

-- this many items fewer are to come
abbrev pub LessBy : ℕ → Option ℕ → Option ℕ → Type 0
LessBy k None after = after ≡ None
LessBy k (Some n) after = (m : ℕ) × (n ≡ k + m) × (after ≡ Some m)

none_less : (due : Option ℕ) → LessBy 0 due due
none_less None = refl
none_less (Some n) = (n, omega arith, refl)

more_less : (k : ℕ) (due next last : Option ℕ) → OneLess due next → LessBy k next last → LessBy (suc k) due last
more_less k None next last one more = subst (λ (d : Option ℕ). LessBy k d last) one more
more_less k (Some n) next last one more =
    let h : LessBy k (Some one.0) last = subst (λ (d : Option ℕ). LessBy k d last) one.2 more in
    (h.0, omega (arith, one.1, h.1), h.2)

-- what calls without an error came to
pub record Ran {V : Type 0} (G : Grammar V) (old here : Reading) (vs : List V) : Type 0 where
  pub begins : BeginsWith (Joined G) old.left vs here.left
  pub moves : here.offset + length here.left ≡ old.offset + length old.left
  pub due : LessBy (length vs) old.due here.due
  pub going : here.ended ≡ false
  pub strict : here.strict ≡ old.strict

begins_more : {V : Type 0} (G : Grammar V) (bytes : List ℕ) (v : V) (middle : List ℕ) (vs : List V) (left : List ℕ) → BeginsWith G bytes v middle → BeginsWith (Joined G) middle vs left → BeginsWith (Joined G) bytes (v ∷ vs) left
begins_more G bytes v middle vs left one more = record {
  prefix = one.prefix ++ more.prefix;
  encodes = (one.prefix, more.prefix, refl, one.encodes, more.encodes);
  parts = one.parts ∙ ap (λ (t : List ℕ). one.prefix ++ t) more.parts ∙ sym (append_assoc one.prefix more.prefix left);
}

pub ran : {X V : Type 0} (view : X → V) (F : Format V) (strict : Bool) (items : List (ℕ × X)) (old here : Reading) → old.strict ≡ strict → old.ended ≡ false → GaveItems view F old items here → Ran (minimal_if strict F).Encodes old here (values_of view items)
ran {X} {V} view F strict [] old here is going same = subst (λ (t : Reading). Ran (minimal_if strict F).Encodes old t []) same (record {
  begins = record { prefix = []; encodes = refl; parts = refl };
  moves = refl;
  due = none_less old.due;
  going = going;
  strict = refl;
})
ran {X} {V} view F strict (item ∷ items) old here is going run =
    let G = (minimal_if strict F).Encodes in
    let next = run.0 in
    let one : GivesItem G old item.0 (view item.1) next = subst (λ (b : Bool). GivesItem (minimal_if b F).Encodes old item.0 (view item.1) next) is run.1 in
    let more = ran view F strict items next here (one.strict ∙ is) one.goes_on run.2 in
    record {
      begins = begins_more G old.left (view item.1) next.left (values_of view items) here.left one.begins more.begins;
      moves = more.moves ∙ one.moves;
      due = more_less (length (values_of view items)) old.due next.due here.due one.due more.due;
      going = more.going;
      strict = more.strict ∙ one.strict;
    }

not_both : (b : Bool) → b ≡ true → b ≡ false → ⊥
not_both b is isnt = absurd cc

-- the reading function finds nothing, as the bytes begin with no item
none_read : {V : Type 0} {G : Grammar V} {read : PlainReader V} → IsReadBy G read → (bytes : List ℕ) → IsBytes bytes → BeginsWithNone G bytes → read bytes ≡ None
none_read {V} {G} {read} r bytes fits none = by (read bytes) refl where
  by : (o : Option (V × List ℕ)) → read bytes ≡ o → o ≡ None
  by None e = refl
  by (Some x) e = absurd (none x.0 x.1 (r.sound bytes x.0 x.1 fits e))

-- bytes that go on after their longest prefix encode nothing
not_whole : {V : Type 0} {G : Grammar V} {read : PlainReader V} → IsReadBy G read → TakesBytes G → (bytes prefix left : List ℕ) (vs : List V) → bytes ≡ prefix ++ left → Joined G prefix vs → read left ≡ None → 0 < length left → (ws : List V) → Joined G bytes ws → ⊥
not_whole r some bytes prefix left vs parts g none more ws whole =
    let longest = Joined-longest r some bytes prefix left vs parts g none in
    absurd (omega (arith, longest.longest bytes [] (sym (append-nil bytes)) (ws, whole), ap (length {A = ℕ}) parts, length-append prefix left))

-- after an error nothing is given
silent : {X V : Type 0} (view : X → V) (F : Format V) (items : List (ℕ × X)) (error : DecodeError) (start here : Reading) → GaveItemsThen view F start items (Some (Err error)) here
    → (next : Option (Result (ℕ × X) DecodeError)) (there : Reading) → GivesNext view F here next there → next ≡ None
silent view F items error start here run None there given = refl
silent view F items error start here run (Some (Ok item)) there given = absurd (not_both here.ended run.2.ends given.going)
silent view F items error start here run (Some (Err again)) there given = absurd (not_both here.ended run.2.ends given.going)

takes_minimal_if : {V : Type 0} (F : Format V) → TakesBytes F.Encodes → (strict : Bool) → TakesBytes (minimal_if strict F).Encodes
takes_minimal_if F takes true v e = takes v e.0
takes_minimal_if F takes false v e = takes v e

-- calls of an iterator up to the end of the bytes
pub gives_items : {X V : Type 0} (view : X → V) (F : Format V) → IsLawful F → TakesBytes F.Encodes → (bytes : List ℕ) (start : Reading) → IsBytes bytes → start.left ≡ bytes → start.due ≡ None → start.ended ≡ false → GivesToEnd view F bytes start
gives_items {X} {V} view F lawful takes bytes start fits all due going = record {
  so_far = λ items here run. so_far items here run;
  whole = λ items here run. whole items here run;
  refused = λ items error here run. refused items error here run;
  silent = λ items error here run next there given. silent view F items error start here run next there given;
} where
  G : Grammar V
  G = (minimal_if start.strict F).Encodes

  passed : (items : List (ℕ × X)) (here : Reading) → GaveItems view F start items here → Ran G start here (values_of view items)
  passed items here run = ran view F start.strict items start here refl going run

  so_far : (items : List (ℕ × X)) (here : Reading) → GaveItems view F start items here → BeginsWith (Joined G) bytes (values_of view items) here.left
  so_far items here run = subst (λ (t : List ℕ). BeginsWith (Joined G) t (values_of view items) here.left) all (passed items here run).begins

  none_due : (k : ℕ) (first last : Option ℕ) → first ≡ None → LessBy k first last → last ≡ None
  none_due k first last e less = subst (λ (d : Option ℕ). LessBy k d last) e less

  whole : (items : List (ℕ × X)) (here : Reading) → GaveItemsThen view F start items None here → Joined G bytes (values_of view items)
  whole items here run =
      let begins = so_far items run.0 run.1 in
      let going = (passed items run.0 run.1).going in
      elim run.2.done [
        | inl ended ↦ absurd (not_both run.0.ended ended going)
        | inr done ↦ subst (λ (t : List ℕ). Joined G t (values_of view items)) (sym (begins.parts ∙ ap (λ (t : List ℕ). begins.prefix ++ t) done.0 ∙ append-nil begins.prefix)) begins.encodes
      ]

  refused_by : (items : List (ℕ × X)) (middle here : Reading) → GaveItems view F start items middle → (error : DecodeError) → GivesError G middle error here → HoldsAtRefusal (read_error_of error) (RefusesItems G start.offset bytes)
  refused_by items middle here run decode_errors.Memory given = tt
  refused_by items middle here run (decode_errors.Malformed refusal) given =
      let vs = values_of view items in
      let begins = so_far items middle run in
      let reads = plain_reads (Lawful-minimal_if start.strict lawful).reads in
      let stuck : IsStuck G None middle.left = subst (λ (d : Option ℕ). IsStuck G d middle.left) (none_due (length vs) start.due middle.due due (passed items middle run).due) given.stuck in
      let none = none_read reads middle.left (IsBytes-back begins.prefix middle.left (rw begins.parts at fits)) stuck.1 in
      let longest = Joined-longest reads (takes_minimal_if F takes start.strict) bytes begins.prefix middle.left vs begins.parts begins.encodes none in
      let lengths = ap (length {A = ℕ}) begins.parts ∙ length-append begins.prefix middle.left in
      let offset : refusal.at ≡ start.offset + length begins.prefix = omega (arith, given.at, (passed items middle run).moves, ap (length {A = ℕ}) all, lengths) in
      let len : length begins.prefix ≡ refusal.at - start.offset = omega (arith, offset) in
      record {
        behind = omega (arith, offset);
        longest = subst (λ (n : ℕ). IsLongestPrefix (EncodesSome (Joined G)) bytes n) len longest;
        none = not_whole reads (takes_minimal_if F takes start.strict) bytes begins.prefix middle.left vs begins.parts begins.encodes none stuck.0;
      }

  refused : (items : List (ℕ × X)) (error : DecodeError) (here : Reading) → GaveItemsThen view F start items (Some (Err error)) here
      → HoldsAtRefusal (read_error_of error) (RefusesItems G start.offset bytes)
  refused items error here run = refused_by items run.0 here run.1 error (subst (λ (b : Bool). GivesError (minimal_if b F).Encodes run.0 error here) (passed items run.0 run.1).strict run.2)

-- ---- the items of a list

-- the parts of a law about lists, minimally encoded if `strict`
abbrev CountOf : Bool → Grammar ℕ
CountOf strict = (minimal_if strict u32).Encodes

abbrev count_of : Bool → PlainReader ℕ
count_of strict = plain (minimal_if strict u32).at

abbrev GoneBy : {V : Type 0} → Bool → Format V → List ℕ → List ℕ → ℕ → ℕ → List V → Type 0
GoneBy strict F bytes left count i vs = Gone (CountOf strict) (count_of strict) (minimal_if strict F).Encodes (plain (minimal_if strict F).at) bytes left count i vs

-- what calls without an error came to, in a list
record RanList {V : Type 0} (strict : Bool) (F : Format V) (bytes : List ℕ) (count : ℕ) (old here : Reading) (all : List V) : Type 0 where
  index : ℕ
  gone : GoneBy strict F bytes here.left count index all
  due : here.due ≡ Some (count - index)
  few : index ≤ count
  moves : here.offset + length here.left ≡ old.offset + length old.left
  going : here.ended ≡ false
  strictly : here.strict ≡ strict

ran_list : {X V : Type 0} (view : X → V) (F : Format V) → IsLawful F → TakesBytes F.Encodes → (strict : Bool) (bytes : List ℕ) (count i : ℕ) (before : List V) (items : List (ℕ × X)) (old here : Reading)
    → old.strict ≡ strict → old.ended ≡ false → old.due ≡ Some (count - i) → i ≤ count → GoneBy strict F bytes old.left count i before → GaveItems view F old items here
    → RanList strict F bytes count old here (before ++ values_of view items)
ran_list {X} {V} view F lawful takes strict bytes count i before [] old here is going due few gone same =
    rw (append-nil before) (subst (λ (t : Reading). RanList strict F bytes count old t before) same (record { index = i; gone = gone; due = due; few = few; moves = refl; going = going; strictly = is }))
ran_list {X} {V} view F lawful takes strict bytes count i before (item ∷ items) old here is going due few gone run =
    let G = (minimal_if strict F).Encodes in
    let read = plain (minimal_if strict F).at in
    let next = run.0 in
    let v = view item.1 in
    let one : GivesItem G old item.0 v next = subst (λ (b : Bool). GivesItem (minimal_if b F).Encodes old item.0 v next) is run.1 in
    let less : OneLess (Some (count - i)) next.due = subst (λ (d : Option ℕ). OneLess d next.due) due one.due in
    let reads = plain_reads (Lawful-minimal_if strict lawful).reads in
    let found : read old.left ≡ Some (v, next.left) = ap read one.begins.parts ∙ reads.complete one.begins.prefix v next.left one.begins.encodes in
    let lt : i < count = omega (arith, less.1) in
    let more = gone_more reads (takes_minimal_if F takes strict) bytes old.left next.left count i before v gone lt found in
    let left : less.0 ≡ count - (i + 1) = omega (arith, less.1) in
    let rest = ran_list view F lawful takes strict bytes count (i + 1) (before ++ v ∷ []) items next here (one.strict ∙ is) one.goes_on (less.2 ∙ ap (λ (n : ℕ). Some n) left) (omega (arith, lt)) more run.2 in
    record {
      index = rest.index;
      gone = subst (λ (all : List V). GoneBy strict F bytes here.left count rest.index all) (append_assoc before (v ∷ []) (values_of view items)) rest.gone;
      due = rest.due;
      few = rest.few;
      moves = rest.moves ∙ one.moves;
      going = rest.going;
      strictly = rest.strictly;
    }

-- where the longest whole prefix of bytes that begin at an offset ends
record EndsLongest (Whole : List ℕ → Type 0) (bytes : List ℕ) (start at : ℕ) : Type 0 where
  behind : start ≤ at
  longest : IsLongestPrefix Whole bytes (at - start)

longest_of : (Whole : List ℕ → Type 0) (bytes left : List ℕ) (start at : ℕ) → IsAfterLongest Whole bytes left → at + length left ≡ start + length bytes → EndsLongest Whole bytes start at
longest_of Whole bytes left start at after e =
    let lengths = ap (length {A = ℕ}) after.parts ∙ length-append after.prefix left in
    let len : length after.prefix ≡ at - start = omega (arith, e, lengths) in
    record {
      behind = omega (arith, e, lengths);
      longest = record { prefix = after.prefix; rest = left; parts = after.parts; len_is = len; whole = after.whole; longest = λ other more parts whole. omega (arith, after.longest other more parts whole, len) };
    }

-- a fault, whatever it says
some_fault : Malformed
some_fault = record { reason = reasons.Unexplained; left = 0; body = None; section = None; item = None; local_group = None; instruction = None }

-- bytes without a count encode no list
pub no_list : {V : Type 0} {F : Format V} → IsLawful F → (strict : Bool) (bytes : List ℕ) (minimal : Bool) → IsBytes bytes → (minimal_if strict u32).at (place minimal bytes) ≡ None → (start : ℕ) → EncodesNoList strict F start bytes start
no_list {V} {F} lawful strict bytes minimal fits none start =
    let number = Lawful-minimal_if strict Lawful-u32 in
    let counts = plain_reads number.reads in
    let G = (minimal_if strict F).Encodes in
    let read = plain (minimal_if strict F).at in
    let unread : count_of strict bytes ≡ None = plain_none number (place minimal bytes) fits none in
    let answered = count_wanting {X = Unit {0}} counts G read bytes bytes (faults.Malformed some_fault) unread refl in
    let nothing : plain_counted_at (count_of strict) read bytes ≡ None = rw unread refl in
    let ends = longest_of (IsListPrefixMinimalIf strict F) bytes bytes start start answered.prefix refl in
    record { behind = ends.behind; longest = ends.longest; none = none_unencoded bytes answered.finds nothing }

-- calls of an iterator over a list, after its count
pub gives_list : {X V : Type 0} (view : X → V) (F : Format V) → IsLawful F → TakesBytes F.Encodes → (offset : ℕ) (bytes : List ℕ) (start : Reading) (count : ℕ) → IsBytes bytes → count_of start.strict bytes ≡ Some (count, start.left)
    → start.due ≡ Some count → start.offset + length start.left ≡ offset + length bytes → start.ended ≡ false → GivesList view F offset bytes start
gives_list {X} {V} view F lawful takes offset bytes start count fits counted due place_is going = record {
  count = count;
  due = due;
  counted = (plain_reads (Lawful-minimal_if start.strict Lawful-u32).reads).sound bytes count start.left fits counted;
  place = place_is;
  so_far = λ items here run. (ran view F start.strict items start here refl going run).begins;
  whole = λ items here run. whole items run.0 here (passed items run.0 run.1) run.2;
  refused = λ items error here run. refused items run.0 here (passed items run.0 run.1) error (subst (λ (b : Bool). GivesError (minimal_if b F).Encodes run.0 error here) (passed items run.0 run.1).strictly run.2);
  silent = λ items error here run next there given. silent view F items error start here run next there given;
} where
  G : Grammar V
  G = (minimal_if start.strict F).Encodes

  read : PlainReader V
  read = plain (minimal_if start.strict F).at

  passed : (items : List (ℕ × X)) (here : Reading) → GaveItems view F start items here → RanList start.strict F bytes count start here (values_of view items)
  passed items here run =
      let none = gone_none (plain_reads (Lawful-minimal_if start.strict Lawful-u32).reads) G read bytes start.left count fits counted in
      let all : count ≡ count - 0 = omega arith in
      ran_list view F lawful takes start.strict bytes count 0 [] items start here refl going (due ∙ ap (λ (n : ℕ). Some n) all) (omega arith) none run

  full : (items : List (ℕ × X)) (here : Reading) (r : RanList start.strict F bytes count start here (values_of view items)) → NoneDue here.due → r.index ≡ count
  full items here r none =
      let zero_left : count - r.index ≡ 0 = subst NoneDue r.due none in
      omega (arith, zero_left, r.few)

  whole : (items : List (ℕ × X)) (here last : Reading) → RanList start.strict F bytes count start here (values_of view items) → GivesNone here last → ListMinimalIf start.strict F bytes (values_of view items)
  whole items here last r given = elim given.done [
    | inl ended ↦ absurd (not_both here.ended ended r.going)
    | inr done ↦
        let all = full items here r done.1 in
        let answered = all_answered {X = Unit {0}} bytes here.left count r.index (values_of view items) tt r.gone all in
        whole_given bytes here.left (values_of view items) answered.finds (all_read bytes here.left count r.index (values_of view items) r.gone (omega (arith, all))) (omega (arith, ap (length {A = ℕ}) done.0))
  ]

  at_of : (items : List (ℕ × X)) (here : Reading) (at : ℕ) → RanList start.strict F bytes count start here (values_of view items) → at ≡ here.offset → at + length here.left ≡ offset + length bytes
  at_of items here at r is = omega (arith, is, r.moves, place_is)

  stuck_in : (items : List (ℕ × X)) (here : Reading) (at n : ℕ) (r : RanList start.strict F bytes count start here (values_of view items)) → count - r.index ≡ n → at ≡ here.offset → IsStuck G (Some n) here.left → EncodesNoList start.strict F offset bytes at
  stuck_in items here at zero r n at_is more =
      let vs = values_of view items in
      let all : r.index ≡ count = omega (arith, n, r.few) in
      let answered = all_answered {X = Unit {0}} bytes here.left count r.index vs tt r.gone all in
      let ends = longest_of (IsListPrefixMinimalIf start.strict F) bytes here.left offset at answered.prefix (at_of items here at r at_is) in
      record {
        behind = ends.behind;
        longest = ends.longest;
        none = left_unencoded bytes here.left vs answered.finds (all_read bytes here.left count r.index vs r.gone (omega (arith, all))) more;
      }
  stuck_in items here at (suc m) r n at_is none =
      let vs = values_of view items in
      let reads = plain_reads (Lawful-minimal_if start.strict lawful).reads in
      let lt : r.index < count = omega (arith, n) in
      let fits_left : IsBytes here.left = progress_bytes r.gone.taken.after here.left (IsBytes-back r.gone.taken.head r.gone.taken.after (rw r.gone.taken.parts at fits)) r.gone.taken.progress in
      let unread : read here.left ≡ None = none_read reads here.left fits_left none in
      let answered = item_wanting {X = Unit {0}} reads (takes_minimal_if F takes start.strict) bytes here.left here.left count r.index vs (faults.Malformed some_fault) r.gone lt unread refl in
      let nothing : plain_counted_at (count_of start.strict) read bytes ≡ None = unread_item bytes here.left here.left count r.index vs (faults.Malformed some_fault) r.gone lt unread in
      let ends = longest_of (IsListPrefixMinimalIf start.strict F) bytes here.left offset at answered.prefix (at_of items here at r at_is) in
      record {
        behind = ends.behind;
        longest = ends.longest;
        none = none_unencoded bytes answered.finds nothing;
      }

  refused : (items : List (ℕ × X)) (here last : Reading) → RanList start.strict F bytes count start here (values_of view items) → (error : DecodeError) → GivesError G here error last → HoldsAtRefusal (read_error_of error) (EncodesNoList start.strict F offset bytes)
  refused items here last r decode_errors.Memory given = tt
  refused items here last r (decode_errors.Malformed refusal) given =
      stuck_in items here refusal.at (count - r.index) r refl given.at (subst (λ (d : Option ℕ). IsStuck G d here.left) r.due given.stuck)

small_number : (strict : Bool) (n : ℕ) → (minimal_if strict u32).InRange n → n < 2 ^ 32
small_number true n lt = lt
small_number false n lt = lt

-- what was read as the count of a list
pub record CountRead (strict : Bool) (bytes : List ℕ) (count : ℕ) (left : List ℕ) : Type 0 where
  pub found : count_of strict bytes ≡ Some (count, left)
  pub shorter : length left ≤ length bytes
  pub small : count < 2 ^ 32

pub count_read : (strict : Bool) (bytes : List ℕ) (next : Place) (count : ℕ) → IsBytes bytes → (minimal_if strict u32).at (place true bytes) ≡ Some (count, next) → CountRead strict bytes count next.left
count_read strict bytes next count fits e =
    let number = Lawful-minimal_if strict Lawful-u32 in
    let one = step number (place true bytes) count next fits e in
    record {
      found = plain_some number (place true bytes) count next fits e;
      shorter = omega (arith, ap (length {A = ℕ}) one.parts, length-append one.prefix next.left);
      small = small_number strict count (number.in_range one.prefix count one.encodes);
    }

-- the count wasn't read
pub count_missing : {V : Type 0} {F : Format V} → IsLawful F → (strict : Bool) (bytes : List ℕ) (new : Place) (fault : Fault) (error : DecodeError) → IsBytes bytes → Reads (minimal_if strict u32).at (place true bytes) new (Err fault)
    → (start : ℕ) → read_error_of error ≡ shifted start (error_of fault 0) → HoldsAtRefusal (read_error_of error) (EncodesNoList strict F start bytes)
count_missing lawful strict bytes new faults.Memory error fits reads start is = rw is tt
count_missing {F = F} lawful strict bytes new (faults.Malformed m) error fits reads start is = rw is (subst (λ (at : ℕ). EncodesNoList strict F start bytes at) (omega arith) (no_list lawful strict bytes true fits reads start))
