-- The claims that the reason of a refusal makes about the bytes at its offset.
use Rattle.std.specs.Prelude.{◌≡◌, ◌+◌, ◌-◌, ◌*◌, ◌<◌, ◌≤◌, ℕ, zero, suc, Bool, true, false, ◌||◌, ◌==◌, nat_lt, nat_le, ◌&&◌, List, [], ◌∷◌, length, take, drop, Option, Some, None, ⊤}
use Rattle.std.specs.Str.{IsUtf8}
use Rattle.std.specs.Str.Lossy.{utf8_valid_len}
use Rattle.wasm_codec.specs.Reading.{◌>>=◌}
use Rattle.wasm_codec.specs.Places.{Place, place, u32_at, u64_at, s32_at, s64_at, index_at}
use Rattle.wasm_codec.specs.Lawful.{head_of}
use Rattle.wasm_codec.specs.Outcomes.{IsLongestPrefix}
use Rattle.wasm_codec.specs.formats.Bodies.{body_at}
use Rattle.wasm_codec.specs.declared.reader.DecodeError.{DecodeError}
use Rattle.wasm_codec.specs.declared.reader.DecodeError.TheVariants as decode_errors
use Rattle.wasm_codec.specs.declared.reader.malformed.Construct.{Construct}
use Rattle.wasm_codec.specs.declared.reader.malformed.Construct.TheVariants as parts
use Rattle.wasm_codec.specs.declared.reader.malformed.Reason.{Reason}
use Rattle.wasm_codec.specs.declared.reader.malformed.Reason.TheVariants as reasons
use Rattle.wasm_codec.specs.declared.reader.refusal.Refusal.{Refusal}
use Rattle.wasm_instructions.specs.declared.table.opcode.Opcode.{Opcode}
use Rattle.wasm_instructions.specs.declared.table.opcode.Prefix.{Prefix}
use Rattle.wasm_instructions.specs.declared.table.opcode.Prefix.TheVariants as prefixes
use Rattle.wasm_instructions.specs.formats.Opcodes.{opcode_kind}
use Rattle.wasm_instructions.specs.formats.Instructions.{opcode}

-- ---- where bodies end

-- The offset at which the body ends whose size begins at this offset. Outside of bodies it is the end of the bytes.
abbrev pub end_of : Option ℕ → List ℕ → Option ℕ
end_of None bytes = Some (length bytes)
end_of (Some at) bytes = body_at (place true (drop at bytes)) >>= λ body. Some (length bytes - length body.1.left)

-- ---- numbers

-- One of the first `most` bytes is the last of a number in LEB128.
unfoldable pub ends_within : ℕ → List ℕ → Bool
ends_within zero bytes = false
ends_within (suc most) [] = false
ends_within (suc most) (b ∷ bytes) = nat_lt b 128 || ends_within most bytes

-- A number of 32 or 33 bits has at most 5 bytes, one of 64 bits at most 10.
abbrev pub is_longest_number : ℕ → Bool
is_longest_number most = most == 5 || most == 10

-- The bytes begin with a number, and it isn't one of these.
pub record IsOutOfRange {V : Type 0} (most : ℕ) (read : Place → Option (V × Place)) (bytes : List ℕ) : Type 0 where
  pub ends : ends_within most bytes ≡ true
  pub none : read (place true bytes) ≡ None

-- The bytes begin with a number that is out of range of this part.
abbrev pub IsOutOfRangeOf : Construct → List ℕ → Type 0
IsOutOfRangeOf parts.U32 bytes = IsOutOfRange 5 u32_at bytes
IsOutOfRangeOf parts.U64 bytes = IsOutOfRange 10 u64_at bytes
IsOutOfRangeOf parts.S32 bytes = IsOutOfRange 5 s32_at bytes
IsOutOfRangeOf parts.S64 bytes = IsOutOfRange 10 s64_at bytes
IsOutOfRangeOf parts.TypeIndex bytes = IsOutOfRange 5 index_at bytes
IsOutOfRangeOf part bytes = ⊥

-- The bytes begin with this u32, in any encoding.
pub record BeginsWithU32 (number : ℕ) (bytes : List ℕ) : Type 0 where
  pub after : Place
  pub is_read : u32_at (place true bytes) ≡ Some (number, after)

-- The bytes begin with the size of a body, and fewer bytes are left after it, up to this offset.
pub record HasTooLargeSize (size left : ℕ) (end : Option ℕ) (bytes all : List ℕ) : Type 0 where
  pub after : Place
  pub is_read : u32_at (place true bytes) ≡ Some (size, after)
  pub larger : left < size
  pub ends : end ≡ Some (length all - length after.left + left)

-- ---- bytes and numbers that stand for something

-- The number is one of these, both included.
abbrev pub from_to : ℕ → ℕ → ℕ → Bool
from_to first last n = nat_le first n && nat_le n last

-- A part of this kind may begin with this byte.
abbrev pub begins_with : Construct → ℕ → Bool
begins_with parts.AbstractHeapType b = from_to 0x68 0x75 b
begins_with parts.HeapType b = from_to 0x00 0x3f b || from_to 0x80 0xff b || b == 0x62 || b == 0x65 || from_to 0x68 0x75 b
begins_with parts.RefType b = from_to 0x63 0x65 b || from_to 0x68 0x75 b
begins_with parts.ValType b = from_to 0x63 0x65 b || from_to 0x68 0x75 b || from_to 0x7b 0x7f b
begins_with parts.TypeForm b = from_to 0x4c 0x50 b || from_to 0x5d 0x60 b || b == 0x65
begins_with parts.CompositeType b = from_to 0x5d 0x60 b
begins_with parts.Mutability b = from_to 0x00 0x01 b
begins_with parts.GlobalMutability b = from_to 0x00 0x03 b
begins_with parts.Limits b = from_to 0x00 0x07 b
begins_with parts.MemoryFlags b = from_to 0x00 0x0f b
begins_with parts.Table b = b == 0x40 || from_to 0x63 0x65 b || from_to 0x68 0x75 b
begins_with parts.Reserved b = b == 0x00
begins_with parts.TagAttribute b = b == 0x00
begins_with parts.ImportKind b = from_to 0x00 0x04 b || b == 0x20
begins_with parts.ExportKind b = from_to 0x00 0x04 b
begins_with parts.Clause b = from_to 0x00 0x03 b
begins_with parts.HandlerClause b = from_to 0x00 0x01 b
begins_with parts.Ordering b = from_to 0x00 0x01 b
begins_with parts.CastFlags b = from_to 0x00 0x03 b
begins_with parts.ElementKind b = b == 0x00
begins_with parts.BranchHint b = from_to 0x00 0x01 b
begins_with parts.FeaturePrefix b = b == 0x2b || b == 0x2d
begins_with parts.SymbolKind b = from_to 0x00 0x05 b
begins_with parts.CoreDumpValue b = b == 0x01 || from_to 0x7c 0x7f b
begins_with part b = true

-- This number stands for a part of this kind.
abbrev pub stands_for : Construct → ℕ → Bool
stands_for parts.ElementForm n = from_to 0 7 n
stands_for parts.DataForm n = from_to 0 2 n
stands_for parts.LinkingVersion n = n == 2
stands_for part n = true

-- ---- opcodes

-- The byte before the number of an opcode.
abbrev pub prefix_byte : Prefix → Option ℕ
prefix_byte prefixes.None = None
prefix_byte prefixes.Fb = Some 0xfb
prefix_byte prefixes.Fc = Some 0xfc
prefix_byte prefixes.Fd = Some 0xfd
prefix_byte prefixes.Fe = Some 0xfe

-- The bytes begin with this opcode, which isn't in the table.
pub record IsUnknownOpcode (prefix : Option ℕ) (number : ℕ) (bytes : List ℕ) : Type 0 where
  pub op : Opcode
  pub after : Place
  pub is_read : opcode.at (place true bytes) ≡ Some (op, after)
  pub prefix_is : prefix_byte op.prefix ≡ prefix
  pub number_is : op.number ≡ number
  pub unknown : opcode_kind op ≡ None

-- ---- names

-- At this offset begins the size of this body, and this number of bytes follow after the body.
pub record HasBody (start : ℕ) (bytes body : List ℕ) (left : ℕ) : Type 0 where
  pub after : Place
  pub is_read : body_at (place true (drop start bytes)) ≡ Some (body, after)
  pub left_is : length after.left ≡ left

-- The body is a name that isn't UTF-8. Its first `at` bytes are, no more of them are, and the offset lies behind these.
pub record IsNoName (at offset : ℕ) (body : Option ℕ) (bytes : List ℕ) : Type 0 where
  pub start : ℕ
  pub name : List ℕ
  pub after : Place
  pub body_is : body ≡ Some start
  pub is_read : body_at (place true (drop start bytes)) ≡ Some (name, after)
  pub no_name : IsUtf8 name → ⊥
  pub valid : at ≡ utf8_valid_len name
  pub offset_is : offset + (length name + length after.left) ≡ length bytes + at

-- ---- modules

-- The bytes begin with the magic number and another version than 1, in four bytes, the least first.
pub record HasOtherVersion (version : ℕ) (bytes : List ℕ) : Type 0 where
  pub first : ℕ
  pub second : ℕ
  pub third : ℕ
  pub fourth : ℕ
  pub rest : List ℕ
  pub parts : bytes ≡ 0x00 ∷ 0x61 ∷ 0x73 ∷ 0x6d ∷ first ∷ second ∷ third ∷ fourth ∷ rest
  pub version_is : version ≡ first + 256 * (second + 256 * (third + 256 * fourth))
  pub other : (version == 1) ≡ false

-- The first four bytes as a number, the least first. Each that is missing counts as 0.
abbrev pub first_four : List ℕ → ℕ
first_four [] = 0
first_four (a ∷ []) = a
first_four (a ∷ b ∷ []) = a + 256 * b
first_four (a ∷ b ∷ c ∷ []) = a + 256 * (b + 256 * c)
first_four (a ∷ b ∷ c ∷ d ∷ rest) = a + 256 * (b + 256 * (c + 256 * d))

-- The bytes don't begin with the magic number and a version.
abbrev pub HasNoVersion : List ℕ → Type 0
HasNoVersion bytes = (rest : List ℕ) → bytes ≡ 0x00 ∷ 0x61 ∷ 0x73 ∷ 0x6d ∷ rest → length rest < 4

-- The bytes don't begin with the magic number and a version, but with these four, and there are `len` of them.
pub record IsNoModule (first len : ℕ) (bytes : List ℕ) : Type 0 where
  pub begins : first ≡ first_four bytes
  pub len_is : len ≡ length bytes
  pub none : HasNoVersion bytes

-- ---- reasons

-- The part begins at this offset, in the body or in the input outside of bodies, and has this number of bytes.
pub record LiesInBody (body : Option ℕ) (offset count : ℕ) (bytes : List ℕ) : Type 0 where
  pub end : ℕ
  pub end_is : end_of body bytes ≡ Some end
  pub within : offset + count ≤ end

-- The reason is true of the bytes at its offset, which it is about.
abbrev pub HoldsAt : Reason → List ℕ → Type 0
HoldsAt (reasons.NumberTooLong most) bytes = (is_longest_number most ≡ true) × (most ≤ length bytes) × (ends_within most bytes ≡ false)
HoldsAt (reasons.NumberOutOfRange part) bytes = IsOutOfRangeOf part bytes
HoldsAt (reasons.InvalidByte part b) bytes = (head_of bytes ≡ Some b) × (begins_with part b ≡ false)
HoldsAt (reasons.InvalidNumber part n) bytes = BeginsWithU32 n bytes × (stands_for part n ≡ false)
HoldsAt (reasons.UnknownOpcode n) bytes = IsUnknownOpcode None n bytes
HoldsAt (reasons.UnknownPrefixedOpcode prefix n) bytes = IsUnknownOpcode (Some prefix) n bytes
HoldsAt (reasons.InvalidAlignment flags) bytes = BeginsWithU32 flags bytes × (128 ≤ flags)
HoldsAt reasons.StrayDelimiter bytes = head_of bytes ≡ Some 0x18
HoldsAt (reasons.UnknownSection id) bytes = (head_of bytes ≡ Some id) × (13 < id)
HoldsAt reason bytes = ⊥

-- These are the bytes from the offset up to the end of the body, of which there are some.
pub record IsInside (body : Option ℕ) (offset : ℕ) (bytes inside : List ℕ) : Type 0 where
  pub end : ℕ
  pub end_is : end_of body bytes ≡ Some end
  pub before : offset < end
  pub inside_is : inside ≡ take (end - offset) (drop offset bytes)

-- This holds of the bytes from the offset up to the end of the body, of which there are some.
abbrev pub HoldsInside : (List ℕ → Type 0) → Option ℕ → ℕ → List ℕ → Type 0
HoldsInside Is body offset bytes = (inside : List ℕ) × IsInside body offset bytes inside × Is inside

-- The reason is true of the bytes at this offset, in the body whose size begins at `body`. Only if `strict`, it may be
-- that a part isn't minimally encoded.
abbrev pub Holds : Bool → Reason → Option ℕ → ℕ → List ℕ → Type 0
Holds strict (reasons.UnexpectedEnd part) body offset bytes = end_of body bytes ≡ Some offset
Holds strict reasons.MissingEnd body offset bytes = end_of body bytes ≡ Some offset
Holds strict (reasons.TrailingBytes count) body offset bytes = (0 < count) × (end_of body bytes ≡ Some (offset + count))
Holds strict (reasons.SizeTooLarge size left) body offset bytes = HasTooLargeSize size left (end_of body bytes) (drop offset bytes) bytes
Holds strict (reasons.InvalidUtf8 at) body offset bytes = IsNoName at offset body bytes
Holds strict (reasons.NotAModule first len) body offset bytes = (body ≡ None) × (offset ≡ 0) × IsNoModule first len bytes
Holds strict (reasons.UnsupportedVersion version) body offset bytes = (body ≡ None) × (offset ≡ 0) × HasOtherVersion version bytes
Holds strict (reasons.NotMinimal count minimal) body offset bytes = (strict ≡ true) × (0 < minimal) × (minimal < count) × LiesInBody body offset count bytes
Holds strict reasons.LongForm body offset bytes = (strict ≡ true) × LiesInBody body offset 1 bytes
Holds strict reasons.Unexplained body offset bytes = ⊤
Holds strict reason body offset bytes = HoldsInside (HoldsAt reason) body offset bytes

-- The reason that a call gives for refusing these bytes is true of them. Only strict calls refuse what isn't minimally
-- encoded.
abbrev pub IsTrueOf : Bool → List ℕ → DecodeError → Type 0
IsTrueOf strict bytes decode_errors.Memory = ⊤
IsTrueOf strict bytes (decode_errors.Malformed refusal) = Holds strict refusal.reason refusal.body refusal.offset bytes

-- ---- reasons of strict calls

-- The reason agrees with the length of the longest prefix that decodes in any encoding. If it says that a part isn't
-- minimally encoded, the part decodes; for any other reason, nothing more does.
abbrev pub AgreesWith : ℕ → Refusal → Reason → Type 0
AgreesWith len refusal (reasons.NotMinimal count minimal) = (refusal.at < len) × (refusal.offset + count ≤ len)
AgreesWith len refusal reasons.LongForm = refusal.at < len
AgreesWith len refusal reasons.Unexplained = ⊤
AgreesWith len refusal reason = refusal.at ≡ len

-- The reason of the error agrees with this length.
abbrev pub ErrorAgreesWith : ℕ → DecodeError → Type 0
ErrorAgreesWith len decode_errors.Memory = ⊤
ErrorAgreesWith len (decode_errors.Malformed refusal) = AgreesWith len refusal refusal.reason

-- The reason of a strict call agrees with the longest prefix that decodes in any encoding.
abbrev pub TellsLonger : (List ℕ → Type 0) → List ℕ → DecodeError → Type 0
TellsLonger IsPrefix bytes decode_errors.Memory = ⊤
TellsLonger IsPrefix bytes (decode_errors.Malformed refusal) = (len : ℕ) × IsLongestPrefix IsPrefix bytes len × AgreesWith len refusal refusal.reason
