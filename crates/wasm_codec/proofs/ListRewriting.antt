-- The laws of lists that are rewritten from the beginning, with nothing left over.
use Rattle.std.specs.Borrow.{GName}
use Rattle.std.proofs.Common.{◌≡◌, ℕ, ◌+◌, ◌-◌, ◌<◌, ◌≤◌, true, List, [], ◌∷◌, ◌++◌, length, Some, None, Err, refl, sym, ap, subst, ◌∙◌, length-append, arith}
use Rattle.std.proofs.lemmas.List.{append-nil, flat_map_more}
use Rattle.std.specs.List.{flat_map}
use Rattle.wasm_codec.specs.declared.reader.cursor.Fault.{Fault}
use Rattle.wasm_codec.specs.declared.reader.malformed.Malformed.{Malformed}
use Rattle.wasm_codec.specs.declared.reader.cursor.Fault.TheVariants as faults
use Rattle.wasm_codec.specs.formats.Grammar.{IsBytes, TakesBytes}
use Rattle.wasm_codec.specs.Outcomes.{error_of, IsLongestPrefix, IsAfterLongest, IsNormalForm}
use Rattle.wasm_codec.specs.Lawful.{IsLawful, plain}
use Rattle.wasm_codec.specs.Lists.{EncodesList, IsListPrefix, list_at, items_bytes}
use Rattle.wasm_codec.specs.formats.Numbers.{EncodesU32}
use Rattle.wasm_codec.specs.Leb128.{unsigned_leb128}
use Rattle.wasm_codec.specs.Places.{place}
use Rattle.wasm_codec.specs.formats.Combinators.{Format, u32}
use Rattle.wasm_codec.specs.Rewriter.{RewritesList, Rewriting, rest_of, rewriting, rewritten_at, rewriting_after, Gives, Rewrites, RefusesList}
use Rattle.wasm_codec.proofs.FormatLaws.{Lawful-u32}
use Rattle.wasm_codec.proofs.Laws.{IsBytes-after}
use Rattle.wasm_codec.proofs.ListLaws.{Gone, gone_none, gone_more, all_read, whole_given, left_unencoded, none_unencoded, Answered, count_wanting, item_wanting, all_answered, unread_count, unread_item}
use Rattle.wasm_codec.proofs.PlaceLists.{plain_reads, plain_some, plain_none}
use Rattle.wasm_codec.proofs.RewriterLaws.{is_given, is_after}

-- so many items after the count were rewritten
pub record ListGoing {V : Type 0} (F : Format V) (bytes : List ℕ) (here : Rewriting) (count i : ℕ) : Type 0 where
  pub values : List V
  pub gone : Gone EncodesU32 (plain u32.at) F.Encodes (plain F.at) bytes here.place.left count i values
  pub written : here.done ≡ unsigned_leb128 count ++ flat_map F.bytes values
  pub bytes_left : IsBytes here.place.left

pub list_begun : {V : Type 0} (F : Format V) (bytes : List ℕ) (start here : Rewriting) (count : ℕ) → IsBytes bytes → {g : GName} → start ≡ rewriting [] (place true bytes) (rest_of [] g) → rewritten_at u32 start ≡ Some (count, here) → ListGoing F bytes here count 0
list_begun F bytes start here count fits start-is e =
    let g = is_given u32 start count here e in
    let read : u32.at (place true bytes) ≡ Some (count, here.place) = ap (λ (s : Rewriting). u32.at s.place) (sym start-is) ∙ g.is_read in
    let plainly : plain u32.at bytes ≡ Some (count, here.place.left) = plain_some Lawful-u32 (place true bytes) count here.place fits read in
    let one = Lawful-u32.reads.sound (place true bytes) count here.place fits read in
    record {
      values = [];
      gone = gone_none (plain_reads Lawful-u32.reads) F.Encodes (plain F.at) bytes here.place.left count fits plainly;
      written = g.written ∙ ap (λ (s : Rewriting). s.done ++ unsigned_leb128 count) start-is ∙ sym (append-nil (unsigned_leb128 count));
      bytes_left = IsBytes-after bytes here.place.left count one fits;
    }

pub left_within : {V : Type 0} (F : Format V) (bytes : List ℕ) (here : Rewriting) (count i : ℕ) → ListGoing F bytes here count i → length here.place.left ≤ length bytes
left_within F bytes here count i w =
    let t = w.gone.taken in
    omega (arith, ap (length {A = ℕ}) t.parts, length-append t.head t.after, ap (length {A = ℕ}) t.progress.parts, length-append t.progress.prefix here.place.left)

pub list_more : {V : Type 0} {F : Format V} → IsLawful F → TakesBytes F.Encodes → (bytes : List ℕ) (here next : Rewriting) (count i : ℕ) → ListGoing F bytes here count i → i < count → rewriting_after F here ≡ Some next → ListGoing F bytes next count (i + 1)
list_more {V} {F} r some bytes here next count i w lt e =
    let one = is_after F here next e in
    let sound = r.reads.sound here.place one.value next.place w.bytes_left one.given.is_read in
    record {
      values = w.values ++ one.value ∷ [];
      gone = gone_more (plain_reads r.reads) some bytes here.place.left next.place.left count i w.values one.value w.gone lt (plain_some r here.place one.value next.place w.bytes_left one.given.is_read);
      written = one.given.written ∙ ap (λ (t : List ℕ). t ++ F.bytes one.value) w.written ∙ flat_map_more F.bytes (unsigned_leb128 count) w.values one.value;
      bytes_left = IsBytes-after here.place.left next.place.left one.value sound w.bytes_left;
    }

pub longest_from : (Whole : List ℕ → Type 0) (bytes left : List ℕ) → IsAfterLongest Whole bytes left → IsLongestPrefix Whole bytes (length bytes - length left)
longest_from Whole bytes left a =
    let len : length a.prefix ≡ length bytes - length left = omega (arith, ap (length {A = ℕ}) a.parts, length-append a.prefix left) in
    record { prefix = a.prefix; rest = left; parts = a.parts; len_is = len; whole = a.whole; longest = λ other after e w. omega (arith, a.longest other after e w, len) }

refused_by : {V : Type 0} (F : Format V) (bytes left : List ℕ) {m : Malformed} → Answered {X = List V} EncodesU32 (plain u32.at) F.Encodes (plain F.at) bytes left (Err (faults.Malformed m)) → list_at (plain F.at) bytes ≡ None → RefusesList F bytes (length bytes - length left)
refused_by F bytes left a none = record { prefix = longest_from (IsListPrefix F.Encodes) bytes left a.prefix; unencoded = none_unencoded bytes a.finds none }

pub no_count_there : {V : Type 0} (F : Format V) (bytes : List ℕ) (start new : Rewriting) (fault : Fault) → IsBytes bytes → {g : GName} → start ≡ rewriting [] (place true bytes) (rest_of [] g) → Gives u32 start new (Err fault) → RefusesList F bytes 0
no_count_there F bytes start new faults.Memory fits start-is none = absurd none
no_count_there {V} F bytes start new (faults.Malformed m) fits start-is none =
    let read : plain u32.at bytes ≡ None = plain_none Lawful-u32 (place true bytes) fits (ap (λ (s : Rewriting). u32.at s.place) (sym start-is) ∙ none) in
    let a = count_wanting {X = List V} (plain_reads Lawful-u32.reads) F.Encodes (plain F.at) bytes bytes (faults.Malformed m) read refl in
    let at : length bytes - length bytes ≡ 0 = omega arith in
    subst (RefusesList F bytes) at (refused_by F bytes bytes a (unread_count (plain u32.at) (plain F.at) bytes bytes (faults.Malformed m) read))

pub no_item_there : {V : Type 0} {F : Format V} → IsLawful F → TakesBytes F.Encodes → (bytes : List ℕ) (here new : Rewriting) (count i : ℕ) (fault : Fault) → ListGoing F bytes here count i → i < count → Rewrites F here new (Err fault) → RefusesList F bytes (length bytes - length here.place.left)
no_item_there r some bytes here new count i faults.Memory w lt none = absurd none
no_item_there {V} {F} r some bytes here new count i (faults.Malformed m) w lt none =
    let read = plain_none r here.place w.bytes_left none in
    let a = item_wanting {X = List V} (plain_reads r.reads) some bytes here.place.left here.place.left count i w.values (faults.Malformed m) w.gone lt read refl in
    refused_by F bytes here.place.left a (unread_item bytes here.place.left here.place.left count i w.values (faults.Malformed m) w.gone lt read)

-- the same, as the error of a call
pub no_count_error : {X V : Type 0} (written : X → List ℕ) (F : Format V) (bytes : List ℕ) (start new : Rewriting) (fault : Fault) → IsBytes bytes → {g : GName} → start ≡ rewriting [] (place true bytes) (rest_of [] g) → Gives u32 start new (Err fault) → RewritesList F bytes written (Err (error_of fault 0))
no_count_error written F bytes start new faults.Memory fits start-is none = absurd none
no_count_error written F bytes start new (faults.Malformed m) fits start-is none = no_count_there F bytes start new (faults.Malformed m) fits start-is none

pub no_item_error : {X V : Type 0} (written : X → List ℕ) {F : Format V} → IsLawful F → TakesBytes F.Encodes → (bytes : List ℕ) (here new : Rewriting) (count i at : ℕ) (fault : Fault) → ListGoing F bytes here count i → i < count → at ≡ length bytes - length here.place.left → Rewrites F here new (Err fault) → RewritesList F bytes written (Err (error_of fault at))
no_item_error written r some bytes here new count i at faults.Memory w lt is none = absurd none
no_item_error written {F = F} r some bytes here new count i at (faults.Malformed m) w lt is none = subst (RefusesList F bytes) (sym is) (no_item_there r some bytes here new count i (faults.Malformed m) w lt none)

pub left_over : {V : Type 0} (F : Format V) (bytes : List ℕ) (here : Rewriting) (count i : ℕ) → ListGoing F bytes here count i → i ≡ count → 0 < length here.place.left → RefusesList F bytes (length bytes - length here.place.left)
left_over {V} F bytes here count i w full more =
    let a = all_answered {X = List V} bytes here.place.left count i w.values w.values w.gone full in
    record {
      prefix = longest_from (IsListPrefix F.Encodes) bytes here.place.left a.prefix;
      unencoded = left_unencoded bytes here.place.left w.values a.finds (all_read bytes here.place.left count i w.values w.gone (omega (arith, full))) more;
    }

pub list_given : {V : Type 0} (F : Format V) (bytes : List ℕ) (here : Rewriting) (count i : ℕ) → ListGoing F bytes here count i → i ≡ count → length here.place.left ≤ 0 → IsNormalForm (EncodesList F.Encodes) (items_bytes F.bytes) bytes here.done
list_given {V} F bytes here count i w full none =
    let a = all_answered {X = List V} bytes here.place.left count i w.values w.values w.gone full in
    record {
      value = w.values;
      encoded = whole_given bytes here.place.left w.values a.finds (all_read bytes here.place.left count i w.values w.gone (omega (arith, full))) none;
      is_minimal = w.written ∙ ap (λ (n : ℕ). unsigned_leb128 n ++ flat_map F.bytes w.values) (sym (w.gone.len ∙ full));
    }
