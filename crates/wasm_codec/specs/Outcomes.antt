-- Answers of readers and normalisers about their whole input.
use Rattle.std.specs.Prelude.{◌≡◌, ℕ, ◌≤◌, List, ◌++◌, drop, length, Option, Some, None, Result, Ok, Err, IfErr, IfSome}
use Rattle.wasm_codec.specs.declared.reader.cursor.Fault.{Fault}
use Rattle.wasm_codec.specs.declared.reader.cursor.Fault.TheVariants as faults
use Rattle.wasm_codec.specs.formats.Grammar.{Grammar}
use Rattle.wasm_codec.specs.declared.reader.ReadError.{ReadError}
use Rattle.wasm_codec.specs.declared.reader.ReadError.TheVariants as errors
use Rattle.wasm_codec.specs.declared.reader.DecodeError.{DecodeError}
use Rattle.wasm_codec.specs.declared.reader.DecodeError.TheVariants as decode_errors
use Rattle.wasm_codec.specs.declared.reader.refusal.Refusal.{Refusal}
use Rattle.wasm_codec.specs.declared.reader.malformed.Reason.TheVariants as reasons

-- The error for a fault in the item that begins at this offset.
abbrev pub error_of : Fault → ℕ → ReadError
error_of faults.Memory at = errors.Memory
error_of (faults.Malformed m) at = errors.Refused at

-- The same error, without why and where in the part that is refused.
abbrev pub read_error_of : DecodeError → ReadError
read_error_of decode_errors.Memory = errors.Memory
read_error_of (decode_errors.Malformed refusal) = errors.Refused refusal.at

-- The offset of the part that is refused. `Memory` has none.
abbrev pub offset_of : DecodeError → Option ℕ
offset_of decode_errors.Memory = None
offset_of (decode_errors.Malformed refusal) = Some refusal.at

-- The offset of the part that is refused, and the offset of the bytes for which the reason is given.
abbrev pub offsets_of : DecodeError → Option (ℕ × ℕ)
offsets_of decode_errors.Memory = None
offsets_of (decode_errors.Malformed refusal) = Some (refusal.at, refusal.offset)

-- The number of the item that the error names.
abbrev pub item_of : DecodeError → Option ℕ
item_of decode_errors.Memory = None
item_of (decode_errors.Malformed refusal) = refusal.item

-- The number of the item that the fault names.
abbrev pub item_of_fault : Fault → Option ℕ
item_of_fault faults.Memory = None
item_of_fault (faults.Malformed m) = m.item

-- This number, if the error can name an item: `Memory` can't.
abbrev pub named_item : DecodeError → ℕ → Option ℕ
named_item decode_errors.Memory index = None
named_item (decode_errors.Malformed refusal) index = Some index

-- If the error names a section, there are this many sections before it.
abbrev pub IsNumbered : ℕ → DecodeError → Type 0
IsNumbered number decode_errors.Memory = Unit {0}
IsNumbered number (decode_errors.Malformed refusal) = IfSome refusal.section (λ place. place.number ≡ number)

-- The reason is given for bytes in the part that is refused, which lies in an input of this length.
abbrev pub LiesIn : ℕ → DecodeError → Type 0
LiesIn len error = IfSome (offsets_of error) (λ offsets. (offsets.0 ≤ offsets.1) × (offsets.1 ≤ len))

-- The same result, with the error as `ReadError` has it.
abbrev pub as_read : {X : Type 0} → Result X DecodeError → Result X ReadError
as_read (Ok x) = Ok x
as_read (Err e) = Err (read_error_of e)

-- The result of a call that allocates nothing, as that of one that may fail with `Memory`.
abbrev pub as_decoded : {X : Type 0} → Result X Refusal → Result X DecodeError
as_decoded (Ok x) = Ok x
as_decoded (Err refusal) = Err (decode_errors.Malformed refusal)

-- The call returns exactly this value, or it fails with `Memory`.
abbrev pub IsOrMemory : {X V : Type 0} → (X → V) → V → Result X ReadError → Type 0
IsOrMemory view v (Ok x) = view x ≡ v
IsOrMemory view v (Err errors.Memory) = Unit {0}
IsOrMemory view v (Err (errors.Refused at)) = ⊥

-- The call never fails with `Memory`.
abbrev pub NeedsNoMemory : {X : Type 0} → Result X ReadError → Type 0
NeedsNoMemory (Ok x) = Unit {0}
NeedsNoMemory (Err errors.Memory) = ⊥
NeedsNoMemory (Err (errors.Refused at)) = Unit {0}

-- If the error is `Refused`, the property holds of its offset.
abbrev pub HoldsAtRefusal : ReadError → (ℕ → Type 0) → Type 0
HoldsAtRefusal errors.Memory P = Unit {0}
HoldsAtRefusal (errors.Refused at) P = P at

-- If the call refuses its input, the property holds of the offset that it reports.
abbrev pub IfRefused : {X : Type 0} → Result X ReadError → (ℕ → Type 0) → Type 0
IfRefused r P = IfErr r (λ e. HoldsAtRefusal e P)

-- The same place, without a reason.
abbrev pub place_alone : Refusal → Refusal
place_alone refusal = record {
  at = refusal.at;
  offset = refusal.offset;
  body = refusal.body;
  section = refusal.section;
  item = refusal.item;
  local_group = refusal.local_group;
  instruction = refusal.instruction;
  reason = reasons.Unexplained;
}

-- The place that the error names. `Memory` names none.
abbrev pub place_of_error : DecodeError → Option Refusal
place_of_error decode_errors.Memory = None
place_of_error (decode_errors.Malformed refusal) = Some (place_alone refusal)

-- If the error is `Malformed`, the property holds of its place.
abbrev pub HoldsOfRefusal : DecodeError → (Refusal → Type 0) → Type 0
HoldsOfRefusal error P = IfSome (place_of_error error) P

-- The place that the call names if it refuses its input.
abbrev pub refused_place : {X : Type 0} → Result X DecodeError → Option Refusal
refused_place (Ok x) = None
refused_place (Err e) = place_of_error e

-- If the call refuses its input, the property holds of the place that it names.
abbrev pub IfMalformed : {X : Type 0} → Result X DecodeError → (Refusal → Type 0) → Type 0
IfMalformed r P = IfSome (refused_place r) P

-- The longest prefix of the bytes that is `Whole` has this length.
pub record IsLongestPrefix (Whole : List ℕ → Type 0) (bytes : List ℕ) (len : ℕ) : Type 0 where
  pub prefix : List ℕ
  pub rest : List ℕ
  pub parts : bytes ≡ prefix ++ rest
  pub len_is : length prefix ≡ len
  pub whole : Whole prefix
  pub longest : (other after : List ℕ) → bytes ≡ other ++ after → Whole other → length other ≤ len

-- The bytes encode some value.
abbrev pub EncodesSome : {V : Type 0} → Grammar V → List ℕ → Type 0
EncodesSome {V} G bytes = (v : V) × G bytes v

-- The result is the minimal encoding of a value that the bytes encode.
pub record IsNormalForm {V : Type 0} (G : Grammar V) (encoding_of : V → List ℕ) (bytes encoding : List ℕ) : Type 0 where
  pub value : V
  pub encoded : G bytes value
  pub is_minimal : encoding ≡ encoding_of value

-- ---- inside the input

-- The fault is `Malformed`.
abbrev pub IsMalformed : Fault → Type 0
IsMalformed faults.Memory = ⊥
IsMalformed (faults.Malformed m) = Unit {0}

-- The call fails with `Malformed`.
abbrev pub FailsMalformed : {X : Type 0} → Result X Fault → Type 0
FailsMalformed (Ok x) = ⊥
FailsMalformed (Err fault) = IsMalformed fault

-- If the call fails with `Malformed`, the fault names this item.
abbrev pub NamesItem : {X : Type 0} → Option ℕ → Result X Fault → Type 0
NamesItem item (Ok x) = Unit {0}
NamesItem item (Err (faults.Malformed m)) = m.item ≡ item
NamesItem item (Err faults.Memory) = Unit {0}

-- The call fails with a fault in the item with this index.
abbrev pub FailsInItem : {X : Type 0} → ℕ → Result X Fault → Type 0
FailsInItem index (Ok x) = ⊥
FailsInItem index (Err fault) = item_of_fault fault ≡ Some index

-- If the call fails with a fault in an item, the property holds of the item's index.
abbrev pub IfInItem : {X : Type 0} → Result X Fault → (ℕ → Type 0) → Type 0
IfInItem result P = (index : ℕ) → FailsInItem index result → P index

-- If the refusal names an item, the property holds of the bytes from `at` on and of the item's index.
abbrev pub IfRefusedInItem : (List ℕ → ℕ → Type 0) → List ℕ → Refusal → Type 0
IfRefusedInItem P bytes refusal = (index : ℕ) → refusal.item ≡ Some index → P (drop refusal.at bytes) index

-- The property holds unless memory ran out.
abbrev pub UnlessMemory : {X : Type 0} → Result X Fault → Type 0 → Type 0
UnlessMemory (Ok x) P = P
UnlessMemory (Err (faults.Malformed m)) P = P
UnlessMemory (Err faults.Memory) P = Unit {0}

-- The remaining bytes follow the longest prefix that is `Whole`.
pub record IsAfterLongest (Whole : List ℕ → Type 0) (bytes rest : List ℕ) : Type 0 where
  pub prefix : List ℕ
  pub parts : bytes ≡ prefix ++ rest
  pub whole : Whole prefix
  pub longest : (other after : List ℕ) → bytes ≡ other ++ after → Whole other → length other ≤ length prefix
