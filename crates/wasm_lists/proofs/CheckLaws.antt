-- Items, and the count before them, that are rewritten only if they are minimally encoded.
use Rattle.std.specs.Borrow.{GName}
use Rattle.std.proofs.Common.{◌≡◌, ℕ, ◌+◌, ◌-◌, ◌<◌, ◌≤◌, true, false, List, [], ◌++◌, length, Option, Some, None, Result, Ok, Err, IfOk, IfErr, refl, sym, ap, subst, ◌∙◌, append_assoc, length-append, inl, inr, arith}
use Rattle.std.specs.Prelude.{is_some}
use Rattle.wasm_codec.specs.formats.Grammar.{Grammar, IsBytes, Joined, TakesBytes}
use Rattle.wasm_codec.specs.Outcomes.{HoldsAtRefusal, HoldsOfRefusal, IsLongestPrefix, IsNormalForm, EncodesSome}
use Rattle.wasm_codec.specs.Lawful.{IsLawful}
use Rattle.wasm_codec.specs.Lists.{CountsItems, HasItemsBefore, IsCountedAt, EncodesList, IsListPrefix, IsCountedPrefix, ListMinimalIf, IsListPrefixMinimalIf, items_bytes}
use Rattle.wasm_codec.specs.formats.Numbers.{EncodesU32}
use Rattle.wasm_codec.specs.Places.{Place, place, keeps}
use Rattle.wasm_codec.specs.Rewriter.{rest_of, Rewriting, rewriting, rewriting_after, Rewrites, RewritesAll, StopsAt, StopsBehind}
use Rattle.wasm_codec.specs.declared.reader.cursor.Fault.{Fault}
use Rattle.wasm_codec.specs.declared.reader.cursor.Fault.TheVariants as faults
use Rattle.wasm_codec.specs.declared.reader.ReadError.{ReadError}
use Rattle.wasm_codec.specs.declared.reader.ReadError.TheVariants as errors
use Rattle.wasm_codec.specs.declared.reader.DecodeError.{DecodeError}
use Rattle.wasm_codec.specs.declared.reader.DecodeError.TheVariants as decode_errors
use Rattle.wasm_codec.specs.formats.Combinators.{Format, minimal_only, u32}
use Rattle.wasm_codec.proofs.FormatLaws.{Lawful-u32, not_longer}
use Rattle.wasm_codec.proofs.Laws.{one_reading}
use Rattle.wasm_codec.proofs.PlaceLists.{step, plain_reads, Lawful-minimal_only}
use Rattle.wasm_codec.proofs.RewriterLaws.{is_after, after_is}
use Rattle.wasm_codec.proofs.BodyRewriting.{joined_given}
use Rattle.wasm_codec.proofs.RefusalNumbers.{stops_at}
use Rattle.wasm_codec.specs.declared.reader.malformed.Stop.{Stop}

clash : {A : Type 0} (o : Option A) (x : A) → o ≡ None → o ≡ Some x → ⊥
clash o x e f = absurd cc

-- ---- one item

-- An item was rewritten: what was read, and what was written.
pub record Item {V : Type 0} (F : Format V) (old new : Rewriting) : Type 0 where
  pub value : V
  pub prefix : List ℕ
  pub encodes : F.Encodes prefix value
  pub parts : old.place.left ≡ prefix ++ new.place.left
  pub tells : new.place.minimal ≡ keeps old.place.minimal prefix (F.bytes value)
  pub written : new.done ≡ old.done ++ F.bytes value
  pub rest : new.rest ≡ old.rest
  pub read_len : length old.place.left ≡ length prefix + length new.place.left
  pub written_len : length new.done ≡ length old.done + length (F.bytes value)
  pub no_longer : length (F.bytes value) ≤ length prefix

pub an_item : {V : Type 0} {F : Format V} → IsLawful F → (old new : Rewriting) → IsBytes old.place.left → rewriting_after F old ≡ Some new → Item F old new
an_item {V} {F} r old new fits e =
    let a = is_after F old new e in
    let s = step r old.place a.value new.place fits a.given.is_read in
    record {
      value = a.value;
      prefix = s.prefix;
      encodes = s.encodes;
      parts = s.parts;
      tells = s.tells;
      written = a.given.written;
      rest = a.given.rest;
      read_len = omega (arith, ap (length {A = ℕ}) s.parts, length-append s.prefix new.place.left);
      written_len = omega (arith, ap (length {A = ℕ}) a.given.written, length-append old.done (F.bytes a.value));
      no_longer = not_longer s.prefix (F.bytes a.value) (r.minimal.least s.prefix a.value s.encodes);
    }

-- as many bytes were written as were read
pub item_taken : {V : Type 0} {F : Format V} → IsLawful F → (old new : Rewriting) → IsBytes old.place.left → rewriting_after F old ≡ Some new → length old.place.left - length new.place.left ≤ length new.done - length old.done → rewriting_after (minimal_only F) old ≡ Some new
item_taken {V} {F} r old new fits e as_many =
    let i = an_item r old new fits e in
    let same : i.prefix ≡ F.bytes i.value = elim (r.minimal.least i.prefix i.value i.encodes) [ inl p ↦ p | inr longer ↦ absurd (omega (arith, i.read_len, i.written_len)) ] in
    let read : (minimal_only F).at (place old.place.minimal (i.prefix ++ new.place.left)) ≡ Some (i.value, place (keeps old.place.minimal i.prefix (F.bytes i.value)) new.place.left) = (Lawful-minimal_only r).reads.complete i.prefix i.value new.place.left old.place.minimal (i.encodes, same) in
    let there : (minimal_only F).at old.place ≡ Some (i.value, new.place) = ap (λ (l : List ℕ). (minimal_only F).at (place old.place.minimal l)) i.parts ∙ read ∙ ap (λ (s : _). Some (i.value, place s new.place.left)) (sym i.tells) in
    after_is (minimal_only F) old new i.value there i.written i.rest

none_unless : {V : Type 0} (F : Format V) → IsLawful F → (p : Place) → IsBytes p.left → ((prefix rest : List ℕ) (v : V) → F.Encodes prefix v → prefix ≡ F.bytes v → p.left ≡ prefix ++ rest → ⊥) → (minimal_only F).at p ≡ None
none_unless {V} F r p fits never = by ((minimal_only F).at p) refl where
  by : (o : Option (V × Place)) → (minimal_only F).at p ≡ o → o ≡ None
  by None e = refl
  by (Some x) e =
      let one = (Lawful-minimal_only r).reads.sound p x.0 x.1 fits e in
      absurd (never one.prefix x.1.left x.0 one.encodes.0 one.encodes.1 one.parts)

-- fewer bytes were written than were read
pub item_refused : {V : Type 0} {F : Format V} → IsLawful F → (old new : Rewriting) → IsBytes old.place.left → rewriting_after F old ≡ Some new → length new.done - length old.done < length old.place.left - length new.place.left → (minimal_only F).at old.place ≡ None
item_refused {V} {F} r old new fits e fewer =
    let i = an_item r old new fits e in
    none_unless F r old.place fits (λ prefix rest v g minimal parts.
    let one = one_reading (plain_reads r.reads) i.prefix prefix new.place.left rest i.value v i.encodes g (sym i.parts ∙ parts) in
    absurd (omega (arith, i.read_len, i.written_len, ap (length {A = ℕ}) one.0, ap (length {A = ℕ}) minimal, ap (λ (w : V). length (F.bytes w)) one.1)))

-- nothing is read there
pub nothing_there : {V : Type 0} {F : Format V} → IsLawful F → (p : Place) → IsBytes p.left → F.at p ≡ None → (minimal_only F).at p ≡ None
nothing_there {V} {F} r p fits none = none_unless F r p fits (λ prefix rest v g minimal parts.
    clash (F.at p) (v, place (keeps p.minimal prefix (F.bytes v)) rest) none (ap (λ (l : List ℕ). F.at (place p.minimal l)) parts ∙ r.reads.complete prefix v rest p.minimal g))

pub refused_again : {V : Type 0} {F : Format V} → IsLawful F → (old mid new : Rewriting) → IsBytes old.place.left → (fault : Fault) → Rewrites F old mid (Err fault) → Rewrites (minimal_only F) old new (Err fault)
refused_again r old mid new fits (faults.Malformed m) none = nothing_there r old.place fits none
refused_again r old mid new fits faults.Memory none = none

-- ---- a count, and then items

-- the count that the bytes begin with is in its minimal encoding
counted_short : (bytes prefix rest : List ℕ) (n : ℕ) → IsBytes bytes → is_some ((minimal_only u32).at (place true bytes)) ≡ true → EncodesU32 prefix n → bytes ≡ prefix ++ rest → (minimal_only u32).Encodes prefix n
counted_short bytes prefix rest n fits there g parts = by ((minimal_only u32).at (place true bytes)) refl there where
  by : (o : Option (ℕ × Place)) → (minimal_only u32).at (place true bytes) ≡ o → is_some o ≡ true → (minimal_only u32).Encodes prefix n
  by None e is = absurd cc
  by (Some x) e is =
      let one = (Lawful-minimal_only Lawful-u32).reads.sound (place true bytes) x.0 x.1 fits e in
      let same = one_reading (plain_reads Lawful-u32.reads) one.prefix prefix x.1.left rest x.0 n one.encodes.0 g (sym one.parts ∙ parts) in
      (g, sym same.0 ∙ one.encodes.1 ∙ ap u32.bytes same.1)

short_prefix : {V : Type 0} (G : Grammar V) (bytes prefix rest : List ℕ) → IsBytes bytes → is_some ((minimal_only u32).at (place true bytes)) ≡ true → bytes ≡ prefix ++ rest → IsListPrefix G prefix → IsCountedPrefix (minimal_only u32).Encodes G prefix
short_prefix G bytes prefix rest fits there parts (inl none) = inl none
short_prefix G bytes prefix rest fits there parts (inr h) = inr (record {
  count = h.count;
  items = h.items;
  head = h.head;
  back = h.back;
  parts = h.parts;
  counted = counted_short bytes h.head (h.back ++ rest) h.count fits there h.counted (parts ∙ ap (λ (t : List ℕ). t ++ rest) h.parts ∙ append_assoc h.head h.back rest);
  few = h.few;
  encoded = h.encoded;
})

wide_prefix : {V : Type 0} (G : Grammar V) (prefix : List ℕ) → IsCountedPrefix (minimal_only u32).Encodes G prefix → IsListPrefix G prefix
wide_prefix G prefix (inl none) = inl none
wide_prefix G prefix (inr h) = inr (record { count = h.count; items = h.items; head = h.head; back = h.back; parts = h.parts; counted = h.counted.0; few = h.few; encoded = h.encoded })

pub list_taken : {V : Type 0} (F : Format V) (bytes given : List ℕ) → IsBytes bytes → is_some ((minimal_only u32).at (place true bytes)) ≡ true → IsNormalForm (EncodesList (minimal_only F).Encodes) (items_bytes F.bytes) bytes given → EncodesSome (ListMinimalIf true F) bytes
list_taken F bytes given fits there n =
    let g = n.encoded in
    (n.value, (g.0, g.1, g.2, counted_short bytes g.0 g.1 (length n.value) fits there g.3 g.2, g.4))

list_prefix : {V : Type 0} (F : Format V) (bytes : List ℕ) (at : ℕ) → IsBytes bytes → is_some ((minimal_only u32).at (place true bytes)) ≡ true → IsLongestPrefix (IsListPrefix (minimal_only F).Encodes) bytes at → IsLongestPrefix (IsListPrefixMinimalIf true F) bytes at
list_prefix F bytes at fits there l = record {
  prefix = l.prefix;
  rest = l.rest;
  parts = l.parts;
  len_is = l.len_is;
  whole = short_prefix (minimal_only F).Encodes bytes l.prefix l.rest fits there l.parts l.whole;
  longest = λ other after e w. l.longest other after e (wide_prefix (minimal_only F).Encodes other w);
}

list_unencoded : {V : Type 0} (F : Format V) (bytes : List ℕ) → ((items : List V) → EncodesList (minimal_only F).Encodes bytes items → ⊥) → (items : List V) → ListMinimalIf true F bytes items → ⊥
list_unencoded F bytes none items g = none items (g.0, g.1, g.2, g.3.0, g.4)

-- there is no such count
no_count : (bytes prefix rest : List ℕ) (n : ℕ) → is_some ((minimal_only u32).at (place true bytes)) ≡ false → (minimal_only u32).Encodes prefix n → bytes ≡ prefix ++ rest → ⊥
no_count bytes prefix rest n none g parts =
    let read = ap (λ (l : List ℕ). (minimal_only u32).at (place true l)) parts ∙ (Lawful-minimal_only Lawful-u32).reads.complete prefix n rest true g in
    let there : true ≡ false = sym (ap is_some read) ∙ none in
    absurd cc

pub no_list_prefix : {V : Type 0} (F : Format V) (bytes : List ℕ) → is_some ((minimal_only u32).at (place true bytes)) ≡ false → IsLongestPrefix (IsListPrefixMinimalIf true F) bytes 0
no_list_prefix {V} F bytes none = record {
  prefix = [];
  rest = bytes;
  parts = refl;
  len_is = refl;
  whole = inl refl;
  longest = λ other after e w. longest other after e w;
} where
  longest : (other after : List ℕ) → bytes ≡ other ++ after → IsListPrefixMinimalIf true F other → length other ≤ 0
  longest other after e (inl empty) = rw empty (omega arith)
  longest other after e (inr h) = absurd (no_count bytes h.head (h.back ++ after) h.count none h.counted (e ∙ ap (λ (t : List ℕ). t ++ after) h.parts ∙ append_assoc h.head h.back after))

pub no_list : {V : Type 0} (F : Format V) (bytes : List ℕ) → is_some ((minimal_only u32).at (place true bytes)) ≡ false → (items : List V) → ListMinimalIf true F bytes items → ⊥
no_list F bytes none items g = no_count bytes g.0 g.1 (length items) none g.3 g.2

-- the same at a refusal
pub refused_prefix : {V : Type 0} (F : Format V) (bytes : List ℕ) (error : ReadError) → IsBytes bytes → is_some ((minimal_only u32).at (place true bytes)) ≡ true → HoldsAtRefusal error (IsLongestPrefix (IsListPrefix (minimal_only F).Encodes) bytes) → HoldsAtRefusal error (IsLongestPrefix (IsListPrefixMinimalIf true F) bytes)
refused_prefix F bytes errors.Memory fits there l = tt
refused_prefix F bytes (errors.Refused at) fits there l = list_prefix F bytes at fits there l

pub refused_unencoded : {V : Type 0} (F : Format V) (bytes : List ℕ) (error : ReadError) → HoldsAtRefusal error (λ _. (items : List V) → EncodesList (minimal_only F).Encodes bytes items → ⊥) → HoldsAtRefusal error (λ _. (items : List V) → ListMinimalIf true F bytes items → ⊥)
refused_unencoded F bytes errors.Memory none = tt
refused_unencoded F bytes (errors.Refused at) none = list_unencoded F bytes none

-- the items before the part that is refused, after a count in its minimal encoding
items_before : {V : Type 0} (G : Grammar V) (bytes : List ℕ) (count index at : ℕ) → IsBytes bytes → is_some ((minimal_only u32).at (place true bytes)) ≡ true → HasItemsBefore EncodesU32 G bytes count index at → HasItemsBefore (minimal_only u32).Encodes G bytes count index at
items_before G bytes count index at fits there h = record {
  head = h.head;
  back = h.back;
  rest = h.rest;
  items = h.items;
  parts = h.parts;
  at_is = h.at_is;
  counted = counted_short bytes h.head (h.back ++ h.rest) count fits there h.counted h.parts;
  few = h.few;
  encoded = h.encoded;
  index_is = h.index_is;
}

counted_at : {V : Type 0} (G : Grammar V) (bytes : List ℕ) (at : ℕ) (item : Option ℕ) → IsBytes bytes → is_some ((minimal_only u32).at (place true bytes)) ≡ true → IsCountedAt EncodesU32 G bytes at item → IsCountedAt (minimal_only u32).Encodes G bytes at item
counted_at G bytes at (Some index) fits there (count, lt, before) = (count, lt, items_before G bytes count index at fits there before)
counted_at G bytes at None fits there (inl first) = inl first
counted_at G bytes at None fits there (inr (count, before)) = inr (count, items_before G bytes count count at fits there before)

pub refused_counts : {V : Type 0} (F : Format V) (bytes : List ℕ) (error : DecodeError) → IsBytes bytes → is_some ((minimal_only u32).at (place true bytes)) ≡ true → HoldsOfRefusal error (CountsItems false (minimal_only F) bytes) → HoldsOfRefusal error (CountsItems true F bytes)
refused_counts F bytes decode_errors.Memory fits there counts = tt
refused_counts F bytes (decode_errors.Malformed refusal) fits there counts = counted_at (minimal_only F).Encodes bytes refusal.at refusal.item fits there counts

-- ---- items without a count

pub all_taken : {V : Type 0} {F : Format V} → IsLawful F → TakesBytes F.Encodes → (start end : Rewriting) (bytes : List ℕ) (result : Result (Unit {0}) Stop) → IsBytes start.place.left → {g : GName} → start ≡ rewriting [] (place true bytes) (rest_of [] g) → RewritesAll F start end result → IfOk result (λ _. EncodesSome (Joined F.Encodes) bytes)
all_taken r some start end bytes (Err stop) fits is all = tt
all_taken r some start end bytes (Ok done) fits is all = let n = joined_given r some start end bytes (subst IsBytes (ap (λ (s : Rewriting). s.place.left) is) fits) is all.0 all.1 in (n.value, n.encoded)

pub all_stopped : {V : Type 0} {F : Format V} → IsLawful F → TakesBytes F.Encodes → (start end : Rewriting) (bytes : List ℕ) (result : Result (Unit {0}) Stop) → {g : GName} → start ≡ rewriting [] (place true bytes) (rest_of [] g) → RewritesAll F start end result → IfErr result (StopsBehind F bytes)
all_stopped r some start end bytes (Ok done) is all = tt
all_stopped {F = F} r some start end bytes (Err stop) is all = stops_at r some bytes stop (subst (λ (s : Rewriting). StopsAt F s.place.left stop.left) is all.0)
