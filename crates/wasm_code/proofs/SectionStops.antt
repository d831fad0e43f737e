-- Modules that stop at a section: the longest prefix that is whole, and the number of the sections in it.
use Rattle.std.proofs.Common.{◌≡◌, ℕ, ◌+◌, ◌-◌, ◌<◌, ◌≤◌, List, ◌++◌, drop, drop-drop, length, length-append, Option, Some, None, IfSome, refl, sym, ap, subst, ◌∙◌, arith}
use Rattle.std.proofs.lemmas.List.{drop_at}
use Rattle.wasm_codec.specs.declared.reader.cursor.Fault.{Fault}
use Rattle.wasm_codec.specs.declared.reader.cursor.Fault.TheVariants as faults
use Rattle.wasm_codec.specs.declared.reader.malformed.Stop.{Stop}
use Rattle.wasm_codec.specs.declared.reader.DecodeError.{DecodeError}
use Rattle.wasm_codec.specs.declared.reader.DecodeError.TheVariants as decode_errors
use Rattle.wasm_codec.specs.declared.reader.ReadError.TheVariants as errors
use Rattle.wasm_codec.specs.declared.reader.refusal.SectionPlace.{SectionPlace}
use Rattle.wasm_codec.specs.formats.Grammar.{Grammar, Joined}
use Rattle.wasm_codec.specs.formats.Combinators.{Format, minimal_only}
use Rattle.wasm_codec.specs.declared.reader.refusal.Refusal.{Refusal}
use Rattle.wasm_lists.specs.declared.longer.LongerItem.{LongerItem}
use Rattle.wasm_lists.specs.Longer.{CountsFirst, TellsFirst}
use Rattle.wasm_code.specs.Longer.{IsLongerAt}
use Rattle.wasm_codec.specs.Outcomes.{EncodesSome, HoldsAtRefusal, HoldsOfRefusal, IfRefusedInItem, IsLongestPrefix, IsMalformed, IsNumbered, error_of, item_of, item_of_fault, read_error_of}
use Rattle.wasm_codec.specs.Lists.{HasJoinedBefore}
use Rattle.wasm_codec.specs.Rewriter.{CountsPassed, StopsBehind, StopsInItem}
use Rattle.wasm_code.specs.formats.Sections.{header}
use Rattle.wasm_code.specs.formats.Modules.{module_of}
use Rattle.wasm_code.specs.Modules.{CountsSections, HasSectionsBefore, IsModulePrefixOf}
use Rattle.wasm_code.proofs.ModuleFormatLaws.{headed_longest, headed_none_whole}

-- ---- the longest whole prefix

behind_header : (bytes body : List ℕ) (left : ℕ) → bytes ≡ header ++ body → left ≤ length body → 8 + (length body - left) ≡ length bytes - left
behind_header bytes body left e le = omega (arith, le, ap (length {A = ℕ}) e, length-append header body)

pub stop_longest : {V : Type 0} (F : Format V) (bytes body : List ℕ) (stop : Stop) → bytes ≡ header ++ body → StopsBehind F body stop → HoldsAtRefusal (error_of stop.fault (length bytes - stop.left)) (IsLongestPrefix (IsModulePrefixOf F) bytes)
stop_longest F bytes body stop e s = by stop.fault s.prefix s.within where
  by : (fault : Fault) → (IsMalformed fault → IsLongestPrefix (EncodesSome (Joined F.Encodes)) body (length body - stop.left)) → (IsMalformed fault → stop.left ≤ length body) → HoldsAtRefusal (error_of fault (length bytes - stop.left)) (IsLongestPrefix (IsModulePrefixOf F) bytes)
  by faults.Memory prefix within = tt
  by (faults.Malformed m) prefix within = subst (IsLongestPrefix (IsModulePrefixOf F) bytes) (behind_header bytes body stop.left e (within tt)) (headed_longest bytes body (length body - stop.left) e (prefix tt))

pub stop_unencoded : {V : Type 0} (F : Format V) (bytes body : List ℕ) (stop : Stop) → bytes ≡ header ++ body → StopsBehind F body stop → HoldsAtRefusal (error_of stop.fault (length bytes - stop.left)) (λ _. (sections : List V) → (module_of F).Encodes bytes sections → ⊥)
stop_unencoded {V} F bytes body stop e s = by stop.fault s.prefix s.some s.within where
  by : (fault : Fault) → (IsMalformed fault → IsLongestPrefix (EncodesSome (Joined F.Encodes)) body (length body - stop.left)) → (IsMalformed fault → 0 < stop.left) → (IsMalformed fault → stop.left ≤ length body) → HoldsAtRefusal (error_of fault (length bytes - stop.left)) (λ _. (sections : List V) → (module_of F).Encodes bytes sections → ⊥)
  by faults.Memory prefix some within = tt
  by (faults.Malformed m) prefix some within = headed_none_whole bytes body (length body - stop.left) e (omega (arith, some tt, within tt)) (prefix tt)

-- ---- the number of the section

sections_before : {V : Type 0} (G : Grammar V) (bytes body : List ℕ) (number left : ℕ) → bytes ≡ header ++ body → left ≤ length body → HasJoinedBefore G body number (length body - left) → HasSectionsBefore G bytes number (length bytes - left)
sections_before G bytes body number left e le h = record {
  body = h.prefix;
  rest = h.rest;
  sections = h.items;
  parts = e ∙ ap (λ (t : List ℕ). header ++ t) h.parts;
  at_is = omega (arith, h.at_is, behind_header bytes body left e le);
  encoded = h.encoded;
  number_is = h.index_is;
}

refused_at : (at other : ℕ) → errors.Refused at ≡ errors.Refused other → at ≡ other
refused_at at other e = grind (arith, e)

if_numbered : (P : ℕ → Type 0) (place : Option SectionPlace) (number : ℕ) → IfSome place (λ p. p.number ≡ number) → P number → IfSome place (λ p. P p.number)
if_numbered P None number is h = tt
if_numbered P (Some p) number is h = subst P (sym is) h

pub counts_sections : {V : Type 0} (F : Format V) (bytes body : List ℕ) (stop : Stop) (error : DecodeError) → bytes ≡ header ++ body → read_error_of error ≡ error_of stop.fault (length bytes - stop.left) → IsNumbered stop.passed error → (IsMalformed stop.fault → stop.left ≤ length body) → CountsPassed F body stop
    → HoldsOfRefusal error (CountsSections F bytes)
counts_sections F bytes body stop decode_errors.Memory e is number within passed = tt
counts_sections {V} F bytes body stop (decode_errors.Malformed refusal) e is number within passed = by stop.fault is within passed where
  by : (fault : Fault) → errors.Refused refusal.at ≡ error_of fault (length bytes - stop.left) → (IsMalformed fault → stop.left ≤ length body) → (IsMalformed fault → HasJoinedBefore F.Encodes body stop.passed (length body - stop.left)) → CountsSections F bytes refusal
  by faults.Memory is within passed = absurd cc
  by (faults.Malformed m) is within passed =
      let before = sections_before F.Encodes bytes body stop.passed stop.left e (within tt) (passed tt) in
      if_numbered (λ n. HasSectionsBefore F.Encodes bytes n refusal.at) refusal.section stop.passed number (rw (refused_at refusal.at (length bytes - stop.left) is) before)

-- the header is missing
pub counts_none : {V : Type 0} (F : Format V) (bytes : List ℕ) (error : DecodeError) → HoldsOfRefusal error (λ refusal. refusal.section ≡ None) → HoldsOfRefusal error (CountsSections F bytes)
counts_none F bytes decode_errors.Memory none = tt
counts_none F bytes (decode_errors.Malformed refusal) none = rw none tt

-- ---- the item in the section

drop_behind : (bytes body : List ℕ) (left : ℕ) → bytes ≡ header ++ body → left ≤ length body → drop (length bytes - left) bytes ≡ drop (length body - left) body
drop_behind bytes body left e le =
    let n = length body - left in
    rw (← behind_header bytes body left e le) (ap (λ (t : List ℕ). drop (8 + n) t) e ∙ sym (drop-drop n 8 (header ++ body)) ∙ ap (λ (t : List ℕ). drop n t) (drop_at header body 8 refl))

pub names_item : (Breaks : List ℕ → ℕ → Type 0) (bytes body : List ℕ) (stop : Stop) (error : DecodeError) → bytes ≡ header ++ body → read_error_of error ≡ error_of stop.fault (length bytes - stop.left) → item_of error ≡ item_of_fault stop.fault → (IsMalformed stop.fault → stop.left ≤ length body) → StopsInItem Breaks body stop
    → HoldsOfRefusal error (IfRefusedInItem Breaks bytes)
names_item Breaks bytes body stop decode_errors.Memory e is item within names = tt
names_item Breaks bytes body stop (decode_errors.Malformed refusal) e is item within names = by stop.fault is item within names where
  by : (fault : Fault) → errors.Refused refusal.at ≡ error_of fault (length bytes - stop.left) → refusal.item ≡ item_of_fault fault → (IsMalformed fault → stop.left ≤ length body) → ((index : ℕ) → item_of_fault fault ≡ Some index → Breaks (drop (length body - stop.left) body) index) → IfRefusedInItem Breaks bytes refusal
  by faults.Memory is item within names = absurd cc
  by (faults.Malformed m) is item within names = λ index named. rw (refused_at refusal.at (length bytes - stop.left) is, drop_behind bytes body stop.left e (within tt)) (names index (sym item ∙ named))

-- the header is missing
pub names_none : (Breaks : List ℕ → ℕ → Type 0) (bytes : List ℕ) (error : DecodeError) → item_of error ≡ None → HoldsOfRefusal error (IfRefusedInItem Breaks bytes)
names_none Breaks bytes decode_errors.Memory none = tt
names_none Breaks bytes (decode_errors.Malformed refusal) none = λ index e. absurd cc

-- ---- the section of the first part that isn't minimal

numbered_first : {V : Type 0} (F : Format V) (bytes body : List ℕ) (item : LongerItem) (refusal : Refusal) → bytes ≡ header ++ body → item.left ≤ length body → CountsFirst F body item → refusal.at ≡ length bytes - item.left → IfSome refusal.section (λ place. place.number ≡ item.passed) → CountsSections (minimal_only F) bytes refusal
numbered_first F bytes body item refusal e le counts at number =
    if_numbered (λ n. HasSectionsBefore (minimal_only F).Encodes bytes n refusal.at) refusal.section item.passed number (rw at (sections_before (minimal_only F).Encodes bytes body item.passed item.left e le counts))

pub numbers_first : {V : Type 0} (F : Format V) (bytes body : List ℕ) (len : ℕ) (first : Option LongerItem) (longer : Option Refusal) → bytes ≡ header ++ body → len ≡ length bytes → TellsFirst F body first → IfSome first (CountsFirst F body) → IfSome longer (IsLongerAt len first) → IfSome longer (CountsSections (minimal_only F) bytes)
numbers_first F bytes body len first None e is tells counts part = tt
numbers_first F bytes body len None (Some refusal) e is tells counts part = absurd part
numbers_first F bytes body len (Some item) (Some refusal) e is tells counts part =
    numbered_first F bytes body item refusal e (omega (arith, tells.len, ap (length {A = ℕ}) tells.parts, length-append tells.prefix tells.rest)) counts (part.0 ∙ ap (λ (n : ℕ). n - item.left) is) part.1
