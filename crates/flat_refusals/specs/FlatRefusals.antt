-- Refusals as numbers: the meaning of the fields of a `FlatRefusal`.
use Rattle.std.specs.Prelude.{ℕ, ℤ, pos, negsuc, ◌^◌, ◌<◌, ◌-◌, ⊤, min, Option, Some, None, option_map}
use Rattle.wasm_codec.specs.declared.reader.malformed.Construct.{Construct}
use Rattle.wasm_codec.specs.declared.reader.malformed.Construct.TheVariants as constructs
use Rattle.wasm_codec.specs.declared.reader.malformed.Reason.{Reason}
use Rattle.wasm_codec.specs.declared.reader.malformed.Reason.TheVariants as reasons
use Rattle.wasm_codec.specs.declared.reader.refusal.Refusal.{Refusal}
use Rattle.wasm_codec.specs.declared.reader.refusal.SectionPlace.{SectionPlace}
use Rattle.flat_refusals.specs.declared.reasons.FlatReason.{FlatReason}
use Rattle.flat_refusals.specs.declared.refusal.FlatRefusal.{FlatRefusal}

-- The number of a part in `enum nosgrivel_construct`.
abbrev pub construct_code : Construct → ℕ
construct_code constructs.Byte = 1
construct_code constructs.Number = 2
construct_code constructs.U32 = 3
construct_code constructs.U64 = 4
construct_code constructs.S32 = 5
construct_code constructs.S64 = 6
construct_code constructs.TypeIndex = 7
construct_code constructs.Constant = 8
construct_code constructs.Body = 9
construct_code constructs.Name = 10
construct_code constructs.ValType = 11
construct_code constructs.HeapType = 12
construct_code constructs.RefType = 13
construct_code constructs.TypeForm = 14
construct_code constructs.Mutability = 15
construct_code constructs.Limits = 16
construct_code constructs.MemoryFlags = 17
construct_code constructs.Table = 18
construct_code constructs.TagAttribute = 19
construct_code constructs.ImportKind = 20
construct_code constructs.ExportKind = 21
construct_code constructs.Opcode = 22
construct_code constructs.BlockType = 23
construct_code constructs.Clause = 24
construct_code constructs.Ordering = 25
construct_code constructs.CastFlags = 26
construct_code constructs.ElementForm = 27
construct_code constructs.ElementKind = 28
construct_code constructs.DataForm = 29
construct_code constructs.SectionId = 30
construct_code constructs.SubsectionId = 31
construct_code constructs.Reserved = 32
construct_code constructs.AbstractHeapType = 33
construct_code constructs.HandlerClause = 34
construct_code constructs.CompositeType = 35
construct_code constructs.GlobalMutability = 36
construct_code constructs.BranchHint = 37
construct_code constructs.FeaturePrefix = 38
construct_code constructs.LinkingVersion = 39
construct_code constructs.SymbolKind = 40
construct_code constructs.CoreDumpValue = 41

-- A reason that names a part and a number.
abbrev pub naming : ℕ → Construct → ℕ → FlatReason
naming code part first = record { code = code; construct = construct_code part; first = first; second = 0 }

-- A reason with two numbers.
abbrev pub numbers : ℕ → ℕ → ℕ → FlatReason
numbers code first second = record { code = code; construct = 0; first = first; second = second }

-- The number of a reason in `enum nosgrivel_reason`, with the part and the numbers that it names.
abbrev pub flat_reason : Reason → FlatReason
flat_reason (reasons.UnexpectedEnd part) = naming 1 part 0
flat_reason (reasons.NumberTooLong most) = numbers 2 most 0
flat_reason (reasons.NumberOutOfRange part) = naming 3 part 0
flat_reason (reasons.InvalidByte part byte) = naming 4 part byte
flat_reason (reasons.InvalidNumber part number) = naming 5 part number
flat_reason (reasons.UnknownOpcode number) = numbers 6 number 0
flat_reason (reasons.UnknownPrefixedOpcode prefix number) = numbers 7 prefix number
flat_reason (reasons.InvalidAlignment flags) = numbers 8 flags 0
flat_reason (reasons.InvalidUtf8 at) = numbers 9 at 0
flat_reason (reasons.TrailingBytes count) = numbers 10 count 0
flat_reason (reasons.SizeTooLarge size left) = numbers 11 size left
flat_reason reasons.MissingEnd = numbers 12 0 0
flat_reason reasons.StrayDelimiter = numbers 13 0 0
flat_reason (reasons.UnknownSection id) = numbers 14 id 0
flat_reason (reasons.NotAModule first len) = numbers 15 first len
flat_reason (reasons.UnsupportedVersion version) = numbers 16 version 0
flat_reason (reasons.NotMinimal bytes minimal) = numbers 17 bytes minimal
flat_reason reasons.LongForm = numbers 18 0 0
flat_reason reasons.Unexplained = numbers 19 0 0

-- The reason names a part of the binary format.
abbrev pub NamesPart : Reason → Type 0
NamesPart (reasons.UnexpectedEnd part) = ⊤
NamesPart (reasons.NumberOutOfRange part) = ⊤
NamesPart (reasons.InvalidByte part byte) = ⊤
NamesPart (reasons.InvalidNumber part number) = ⊤
NamesPart reason = ⊥

-- The reason's numbers describe the bytes at its offset.
abbrev pub NamesBytes : Reason → Type 0
NamesBytes (reasons.UnknownOpcode number) = ⊤
NamesBytes (reasons.UnknownPrefixedOpcode prefix number) = ⊤
NamesBytes (reasons.InvalidAlignment flags) = ⊤
NamesBytes (reasons.InvalidUtf8 at) = ⊤
NamesBytes (reasons.TrailingBytes count) = ⊤
NamesBytes (reasons.SizeTooLarge size left) = ⊤
NamesBytes (reasons.UnknownSection id) = ⊤
NamesBytes (reasons.NotAModule first len) = ⊤
NamesBytes (reasons.UnsupportedVersion version) = ⊤
NamesBytes reason = ⊥

-- The numbers of the reason fit into the fields of a `Reason`.
abbrev pub Fits : Reason → Type 0
Fits (reasons.NumberTooLong most) = most < 2 ^ 8
Fits (reasons.InvalidByte part byte) = byte < 2 ^ 8
Fits (reasons.InvalidNumber part number) = number < 2 ^ 32
Fits (reasons.UnknownOpcode number) = number < 2 ^ 32
Fits (reasons.UnknownPrefixedOpcode prefix number) = (prefix < 2 ^ 8) × (number < 2 ^ 32)
Fits (reasons.InvalidAlignment flags) = flags < 2 ^ 32
Fits (reasons.InvalidUtf8 at) = at < 2 ^ 32
Fits (reasons.TrailingBytes count) = count < 2 ^ 64
Fits (reasons.SizeTooLarge size left) = (size < 2 ^ 32) × (left < 2 ^ 64)
Fits (reasons.UnknownSection id) = id < 2 ^ 8
Fits (reasons.NotAModule first len) = (first < 2 ^ 32) × (len < 2 ^ 64)
Fits (reasons.UnsupportedVersion version) = version < 2 ^ 32
Fits (reasons.NotMinimal bytes minimal) = (bytes < 2 ^ 64) × (minimal < 2 ^ 64)
Fits reason = ⊤

-- This number, or -1.
abbrev pub or_minus_one : Option ℕ → ℤ
or_minus_one None = negsuc 0
or_minus_one (Some n) = pos n

-- This offset, or -1. No slice has 2^63 bytes.
abbrev pub offset_or_minus_one : Option ℕ → ℤ
offset_or_minus_one place = or_minus_one (option_map (λ n. min n (2 ^ 63 - 1)) place)

-- The numbers of a refusal.
abbrev pub flat_refusal : Refusal → FlatRefusal
flat_refusal refusal = record {
  status = 1;
  reason = (flat_reason refusal.reason).code;
  construct = (flat_reason refusal.reason).construct;
  section_id = or_minus_one (option_map (λ (place : SectionPlace). place.id) refusal.section);
  at = refusal.at;
  offset = refusal.offset;
  section = offset_or_minus_one (option_map (λ (place : SectionPlace). place.number) refusal.section);
  item = or_minus_one refusal.item;
  local_group = or_minus_one refusal.local_group;
  instruction = offset_or_minus_one refusal.instruction;
  first = (flat_reason refusal.reason).first;
  second = (flat_reason refusal.reason).second;
}

-- The numbers for an accepted input of this length.
abbrev pub flat_accepted : ℕ → FlatRefusal
flat_accepted len = record {
  status = 0;
  reason = 0;
  construct = 0;
  section_id = negsuc 0;
  at = len;
  offset = len;
  section = negsuc 0;
  item = negsuc 0;
  local_group = negsuc 0;
  instruction = negsuc 0;
  first = 0;
  second = 0;
}
