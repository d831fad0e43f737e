-- Rewriting in place: minimal encodings of what was read, in front of the bytes that are left.
use Rattle.std.specs.Prelude.{true, ◌≡◌, ℕ, zero, suc, ◌+◌, ◌<◌, ◌≤◌, ◌%◌, ◌-◌, Bool, false, List, [], ◌∷◌, ◌++◌, length, take, drop, set, Option, Some, None, Result, Ok, Err}
use Rattle.wasm_codec.specs.declared.reader.cursor.Fault.{Fault}
use Rattle.wasm_codec.specs.declared.reader.cursor.Fault.TheVariants as faults
use Rattle.wasm_codec.specs.Reading.{◌>>=◌}
use Rattle.wasm_codec.specs.Places.{Place, place}
use Rattle.wasm_codec.specs.Leb128.{unsigned_leb128}
use Rattle.std.specs.Borrow.{GName}
use Rattle.wasm_codec.specs.declared.reader.ReadError.{ReadError}
use Rattle.wasm_codec.specs.declared.reader.ReadError.TheVariants as errors
use Rattle.wasm_codec.specs.declared.reader.malformed.Stop.{Stop}
use Rattle.wasm_codec.specs.Outcomes.{EncodesSome, IsLongestPrefix, IsNormalForm, IsMalformed, item_of_fault}
use Rattle.wasm_codec.specs.Lists.{HasJoinedBefore, EncodesList, IsListPrefix, items_bytes}
use Rattle.wasm_codec.specs.formats.Grammar.{Joined}
use Rattle.wasm_codec.specs.Lawful.{plain}
use Rattle.wasm_codec.specs.formats.Combinators.{Format}
use Rattle.wasm_codec.specs.formats.Bodies.{body_at, to_end}
use Rattle.wasm_codec.specs.declared.rewriter.Body.{Body}
use Rattle.wasm_codec.specs.declared.rewriter.Finished.{Finished}

-- The bytes after the end, and the name of the reference to the slice that is rewritten.
pub record Rest : Type 0 where
  pub bytes : List ℕ
  pub name : GName

-- The rest with these two parts.
abbrev pub rest_of : List ℕ → GName → Rest
rest_of bytes name = record { bytes = bytes; name = name }

-- No bytes after the end. A cursor, which writes to no slice, has this rest.
abbrev pub no_rest : Rest
no_rest = rest_of [] 0

-- A rewriting: the bytes that were written, those that are left, and those after the end.
pub record Rewriting : Type 0 where
  -- the bytes that were written
  pub done : List ℕ
  -- the bytes that are left up to the end, and whether everything read so far was minimally encoded
  pub place : Place
  -- the bytes after the end, in the slice of this name
  pub rest : Rest

-- The rewriting with these three parts.
abbrev pub rewriting : List ℕ → Place → Rest → Rewriting
rewriting done place rest = record { done = done; place = place; rest = rest }

-- Nothing was written or read yet, and the end is that of the slice.
abbrev pub IsNew : Rewriting → Type 0
IsNew r = r ≡ rewriting [] (place true r.place.left) (rest_of [] r.rest.name)

-- The value at the place, and the rewriting after its minimal encoding was written; or none.
abbrev pub rewritten_at : {V : Type 0} → Format V → Rewriting → Option (V × Rewriting)
rewritten_at F r = F.at r.place >>= λ x. Some (x.0, rewriting (r.done ++ F.bytes x.0) x.1 r.rest)

-- The call reads a value and writes its minimal encoding, or fails with `Malformed`; it needs no memory.
abbrev pub Gives : {V : Type 0} → Format V → Rewriting → Rewriting → Result V Fault → Type 0
Gives F old new (Ok v) = rewritten_at F old ≡ Some (v, new)
Gives F old new (Err (faults.Malformed m)) = F.at old.place ≡ None
Gives F old new (Err faults.Memory) = ⊥

-- The rewriting after a value was read and its minimal encoding written.
abbrev pub rewriting_after : {V : Type 0} → Format V → Rewriting → Option Rewriting
rewriting_after F r = F.at r.place >>= λ x. Some (rewriting (r.done ++ F.bytes x.0) x.1 r.rest)

-- The call rewrites one value to its minimal encoding, or fails with `Malformed`; it needs no memory.
abbrev pub Rewrites : {V : Type 0} → Format V → Rewriting → Rewriting → Result (Unit {0}) Fault → Type 0
Rewrites F old new (Ok done) = rewriting_after F old ≡ Some new
Rewrites F old new (Err (faults.Malformed m)) = F.at old.place ≡ None
Rewrites F old new (Err faults.Memory) = ⊥

-- The rewriting after this number of bytes was kept as it is.
abbrev pub skipped : ℕ → Rewriting → Rewriting
skipped count r = rewriting (r.done ++ take count r.place.left) (place r.place.minimal (drop count r.place.left)) r.rest

-- The first bytes, the last of them without its high bit.
abbrev pub cut : ℕ → List ℕ → List ℕ
cut zero bytes = []
cut (suc n) [] = []
cut (suc zero) (b ∷ bytes) = b % 128 ∷ []
cut (suc (suc n)) (b ∷ bytes) = b ∷ cut (suc n) bytes

-- The rewriting after `count` bytes became `kept`, the last without its high bit.
abbrev pub shortened : ℕ → ℕ → Rewriting → Rewriting
shortened kept count r = rewriting (r.done ++ cut kept r.place.left) (place false (drop count r.place.left)) r.rest

-- The rewriting after this number of bytes was taken out at a mark.
abbrev pub without : ℕ → ℕ → Rewriting → Rewriting
without mark count r = rewriting (take mark r.done ++ drop (mark + count) r.done) (place false r.place.left) r.rest

-- The rewriting with another byte at a mark.
abbrev pub with_byte : ℕ → ℕ → Rewriting → Rewriting
with_byte mark byte r = rewriting (set r.done mark byte) r.place r.rest

-- The rewriting whose place ends after this number of bytes.
abbrev pub limited : ℕ → Rewriting → Rewriting
limited size r = rewriting r.done (place r.place.minimal (take size r.place.left)) (rest_of (drop size r.place.left ++ r.rest.bytes) r.rest.name)

-- The rewriting that goes on with this number of bytes after its end.
abbrev pub widened : ℕ → Rewriting → Rewriting
widened size r = rewriting r.done (place r.place.minimal (take size r.rest.bytes)) (rest_of (drop size r.rest.bytes) r.rest.name)

-- The rewriting after the digits at a mark became the number of the bytes behind them.
abbrev pub resized : ℕ → ℕ → Rewriting → Rewriting
resized mark digits r = rewriting (take mark r.done ++ (unsigned_leb128 (length r.done - (mark + digits)) ++ drop (mark + digits) r.done)) r.place r.rest

-- ---- in memory

-- The bytes that were written, then the run of bytes that stay as they are and aren't moved yet.
abbrev pub done_of : List ℕ → ℕ → ℕ → ℕ → List ℕ
done_of bytes written from position = take written bytes ++ take (position - from) (drop from bytes)

-- The rewriting that the bytes of a list stand for.
abbrev pub seen : List ℕ → ℕ → ℕ → ℕ → ℕ → Bool → GName → Rewriting
seen bytes written from position end minimal name = rewriting (done_of bytes written from position) (place minimal (take (end - position) (drop position bytes))) (rest_of (drop end bytes) name)

-- The bytes that were written to the start of the slice.
abbrev pub written_of : Finished → List ℕ
written_of f = take f.len f.bytes.now

-- ---- bodies

-- The size of a body was read and written, and the bytes that are left are the body.
pub record IsOpen (old new : Rewriting) (mark size behind : ℕ) : Type 0 where
  pub body : List ℕ
  pub after : Place
  pub is_read : body_at old.place ≡ Some (body, after)
  pub within : new ≡ rewriting (old.done ++ unsigned_leb128 (length body)) (place after.minimal body) (rest_of (after.left ++ old.rest.bytes) old.rest.name)
  pub mark_is : mark ≡ length old.done
  pub size_is : size ≡ length body
  pub behind_is : behind ≡ length after.left

-- The call opens a body after its size, or fails with `Malformed`; it needs no memory.
abbrev pub OpensBody : Rewriting → Rewriting → Result Body Fault → Type 0
OpensBody old new (Ok body) = IsOpen old new body.mark body.size body.behind
OpensBody old new (Err (faults.Malformed m)) = body_at old.place ≡ None
OpensBody old new (Err faults.Memory) = ⊥

-- ---- loops

-- The items before the last `left` bytes decode, and the one that begins there doesn't.
pub record StopsAt {V : Type 0} (F : Format V) (bytes : List ℕ) (left : ℕ) : Type 0 where
  pub values : List V
  pub prefix : List ℕ
  pub rest : List ℕ
  pub parts : bytes ≡ prefix ++ rest
  pub encodes : Joined F.Encodes prefix values
  pub none : (plain F.at) rest ≡ None
  pub len : length rest ≡ left
  pub some : 0 < left

-- The call rewrites all items to the end, or tells how many bytes are left from the first malformed one.
abbrev pub RewritesAll : {V : Type 0} → Format V → Rewriting → Rewriting → Result (Unit {0}) Stop → Type 0
RewritesAll F old new (Ok done) = (rewriting_after (to_end F) old ≡ Some new) × (new.place.left ≡ [])
RewritesAll F old new (Err stop) = StopsAt F old.place.left stop.left × (((to_end F).at old.place ≡ None) × IsMalformed stop.fault)

-- If an item is malformed, the bytes before the last `left` are the longest prefix that decodes, and there are such.
pub record StopsBehind {V : Type 0} (F : Format V) (bytes : List ℕ) (stop : Stop) : Type 0 where
  pub prefix : IsMalformed stop.fault → IsLongestPrefix (EncodesSome (Joined F.Encodes)) bytes (length bytes - stop.left)
  pub some : IsMalformed stop.fault → 0 < stop.left
  pub within : IsMalformed stop.fault → stop.left ≤ length bytes

-- If an item is malformed, `passed` counts the items before it.
abbrev pub CountsPassed : {V : Type 0} → Format V → List ℕ → Stop → Type 0
CountsPassed F bytes stop = IsMalformed stop.fault → HasJoinedBefore F.Encodes bytes stop.passed (length bytes - stop.left)

-- If the fault names an item, the property holds of the bytes from the malformed part on, and of the item's index.
abbrev pub StopsInItem : (List ℕ → ℕ → Type 0) → List ℕ → Stop → Type 0
StopsInItem P bytes stop = (index : ℕ) → item_of_fault stop.fault ≡ Some index → P (drop (length bytes - stop.left) bytes) index

-- The same result, with the fault alone.
abbrev pub faulted : {X : Type 0} → Result X Stop → Result X Fault
faulted (Ok x) = Ok x
faulted (Err stop) = Err stop.fault

-- The bytes encode no list, and this is the length of their longest whole prefix.
pub record RefusesList {V : Type 0} (F : Format V) (bytes : List ℕ) (at : ℕ) : Type 0 where
  pub prefix : IsLongestPrefix (IsListPrefix F.Encodes) bytes at
  pub unencoded : (items : List V) → EncodesList F.Encodes bytes items → ⊥

-- The call rewrites all of the bytes as a list, or refuses them at the length of their longest whole prefix; it needs no
-- memory.
abbrev pub RewritesList : {X V : Type 0} → Format V → List ℕ → (X → List ℕ) → Result X ReadError → Type 0
RewritesList F bytes written (Ok given) = IsNormalForm (EncodesList F.Encodes) (items_bytes F.bytes) bytes (written given)
RewritesList F bytes written (Err (errors.Refused at)) = RefusesList F bytes at
RewritesList F bytes written (Err errors.Memory) = ⊥
