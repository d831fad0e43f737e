-- How long the minimal encodings of instructions are at the most.
use Rattle.std.proofs.Common.{◌≡◌, ℕ, ◌+◌, ◌*◌, ◌^◌, ◌<◌, ◌≤◌, suc, Bool, true, false, not, ◌&&◌, cond, eqb, List, [], ◌∷◌, ◌++◌, length, Some, refl, ap, length-append, append-nil, arith}
use Rattle.std.specs.Prelude.{is_some}
use Rattle.wasm_types.specs.declared.types.heap.HeapType.TheVariants.{Concrete, Exact}
use Rattle.wasm_types.specs.declared.types.value.ValType.{ValType}
use Rattle.wasm_types.specs.declared.types.value.ValType.TheVariants as values
use Rattle.wasm_instructions.specs.declared.operands.control.BlockType.TheVariants as blocks
use Rattle.wasm_instructions.specs.declared.operands.memory.MemArg.{MemArg}
use Rattle.wasm_instructions.specs.declared.operands.memory.Ordering.TheVariants as orderings
use Rattle.wasm_instructions.specs.declared.table.opcode.Prefix.{Prefix}
use Rattle.wasm_instructions.specs.declared.table.opcode.Prefix.TheVariants as prefixes
use Rattle.wasm_instructions.specs.declared.table.opcode.Opcode.{Opcode}
use Rattle.wasm_instructions.specs.declared.table.opcode.Kind.{Kind}
use Rattle.wasm_instructions.specs.declared.table.opcode.Kind.TheVariants as kinds
use Rattle.wasm_instructions.specs.declared.table.call.Operands.{Operands}
use Rattle.wasm_instructions.specs.declared.table.call.Operands.TheVariants as operands
use Rattle.wasm_codec.specs.Leb128.{unsigned_leb128}
use Rattle.wasm_codec.specs.formats.Combinators.{flagged, items}
use Rattle.wasm_instructions.proofs.FormatLengths.{AtMost, AtMost-more, AtMost-byte, AtMost-nothing, AtMost-one-byte, AtMost-raw, AtMost-u32, AtMost-u64, AtMost-s32, AtMost-s64, AtMost-index, length-number, AtMost-both, AtMost-made, AtMost-little-endian, AtMost-any, AtMost-or-else, AtMost-either, AtMost-after, AtMost-after-long}
use Rattle.wasm_types.specs.formats.Types.{abstract_byte, abstract_type, abstract_of, heap_type, reference, ref_type, number_byte, val_type}
use Rattle.wasm_types.specs.TypeParts.{abstract_types, abstract_parts, concrete_part, exact_part, nullable_part, has_short_form, number_types, ref_part}
use Rattle.wasm_instructions.specs.formats.Operands.{empty_byte, block_type, nullables_byte, castop, mem_arg, ordering_byte, ordering, from_halves, vector, lanes, ieee32, ieee64}
use Rattle.wasm_instructions.specs.OperandParts.{function_type_part, result_part, all_nullables, MemArgInRange, halves_part, block_part, index_part, two_indexes_part, mem_part, i32_part, i64_part, f32_part, f64_part, heap_part, cast_part, v128_part, shuffle_part, lane_part, mem_lane_part, order_part, order_index_part, order_two_indexes_part}
use Rattle.wasm_instructions.specs.formats.Opcodes.{ranges, kind_among, opcode_kind}
use Rattle.wasm_instructions.specs.Instructions.{NumbersInRange, IsCounted, IsShort, ItemsInRange, kind_of}
use Rattle.wasm_instructions.specs.formats.Instructions.{call, opcode, cast_of, operands_format, instruction}
use Rattle.wasm_instructions.specs.Lengths.{HasNoLongList, IsShortEncoding}
use Rattle.wasm_instructions.proofs.OpcodeLaws.{cast_is_low}
use Rattle.wasm_instructions.proofs.CallRanges.{operands_in_range}

-- ---- types

AtMost-abstract : AtMost 2 (flagged 0x65 abstract_type)
unfolding abstract_type
AtMost-abstract = AtMost-any (AtMost-after (λ p. p.0) 0x65 (AtMost-made (λ a. (true, a)) (λ p. Some p.1) (AtMost-one-byte abstract_byte abstract_types)) (AtMost-or-else (AtMost-made (λ a. (false, a)) (λ p. Some p.1) (AtMost-more (omega arith) (AtMost-one-byte abstract_byte abstract_types)))))

AtMost-heap-type : AtMost 6 heap_type
unfolding heap_type
AtMost-heap-type = AtMost-any
    (AtMost-either (λ h. is_some (concrete_part h)) (AtMost-made Concrete concrete_part (AtMost-more (omega arith) AtMost-index))
    (AtMost-after (λ h. is_some (exact_part h)) 0x62 (AtMost-made Exact exact_part AtMost-u32)
    (AtMost-or-else (AtMost-made abstract_of abstract_parts (AtMost-more (omega arith) AtMost-abstract)))))

AtMost-ref-type : AtMost 7 ref_type
unfolding ref_type
AtMost-ref-type = AtMost-any
    (AtMost-after-long (λ r. r.nullable && not (has_short_form r)) 0x63 (AtMost-made (reference true) nullable_part AtMost-heap-type)
    (AtMost-after (λ r. not r.nullable) 0x64 (AtMost-made (reference false) (λ r. Some r.heap_type) AtMost-heap-type)
    (AtMost-or-else (AtMost-made (λ p. reference true (abstract_of p)) (λ r. abstract_parts r.heap_type) (AtMost-more (omega arith) AtMost-abstract)))))

AtMost-val-type : AtMost 7 val_type
unfolding val_type
AtMost-val-type = AtMost-any
    (AtMost-either (λ v. is_some (number_byte v)) (AtMost-more (omega arith) (AtMost-one-byte number_byte number_types))
    (AtMost-or-else (AtMost-made values.Ref ref_part AtMost-ref-type)))

AtMost-block-type : AtMost 7 block_type
unfolding block_type
AtMost-block-type = AtMost-any
    (AtMost-either (λ ty. is_some (empty_byte ty)) (AtMost-more (omega arith) (AtMost-one-byte empty_byte (blocks.Empty ∷ [])))
    (AtMost-either (λ ty. is_some (function_type_part ty)) (AtMost-made blocks.FunctionType function_type_part (AtMost-more (omega arith) AtMost-index))
    (AtMost-or-else (AtMost-made blocks.Result result_part AtMost-val-type))))

-- ---- operands

AtMost-mem-arg : AtMost 16 mem_arg
unfolding mem_arg
AtMost-mem-arg = record { bound = λ arg fits. by arg fits (eqb arg.memory_index 0) } where
  by : (arg : MemArg) → MemArgInRange arg → (test : Bool) → length (cond test (unsigned_leb128 arg.align ++ unsigned_leb128 arg.offset) (unsigned_leb128 (arg.align + 64) ++ (unsigned_leb128 arg.memory_index ++ unsigned_leb128 arg.offset))) ≤ 16
  by arg fits true = omega (arith, length-append (unsigned_leb128 arg.align) (unsigned_leb128 arg.offset), length-number 0 arg.align (omega (arith, fits.align)), AtMost-u64.bound arg.offset fits.offset)
  by arg fits false = omega (arith, length-append (unsigned_leb128 (arg.align + 64)) (unsigned_leb128 arg.memory_index ++ unsigned_leb128 arg.offset), length-append (unsigned_leb128 arg.memory_index) (unsigned_leb128 arg.offset), length-number 0 (arg.align + 64) (omega (arith, fits.align)), AtMost-u32.bound arg.memory_index fits.memory_index, AtMost-u64.bound arg.offset fits.offset)

AtMost-ordering : AtMost 1 ordering
unfolding ordering
AtMost-ordering = AtMost-one-byte ordering_byte (orderings.SeqCst ∷ orderings.AcqRel ∷ [])

AtMost-castop : AtMost 1 castop
unfolding castop
AtMost-castop = AtMost-one-byte nullables_byte all_nullables

-- ---- operands without lists, by their kinds

-- 17 bytes, or 18 for the operands of a branch on a cast
abbrev most_of : Kind → ℕ
most_of kinds.Cast = 18
most_of k = 17

AtMost-vector : AtMost 16 vector
unfolding vector
AtMost-vector = AtMost-made from_halves halves_part (AtMost-both (AtMost-little-endian 8) (AtMost-little-endian 8))

-- none of the operands is a list
abbrev IsAlone : Kind → Type 0
IsAlone kinds.BrTable = ⊥
IsAlone kinds.Types = ⊥
IsAlone kinds.TryTable = ⊥
IsAlone kinds.Resume = ⊥
IsAlone kinds.ResumeThrow = ⊥
IsAlone k = Unit {0}

AtMost-operands : (k : Kind) → IsAlone k → AtMost (most_of k) (operands_format k)
unfolding operands_format lanes
AtMost-operands kinds.None alone = AtMost-more (omega arith) (AtMost-nothing operands.None)
AtMost-operands kinds.Block alone = AtMost-made operands.Block block_part (AtMost-more (omega arith) AtMost-block-type)
AtMost-operands kinds.Index alone = AtMost-made operands.Index index_part (AtMost-more (omega arith) AtMost-u32)
AtMost-operands kinds.TwoIndexes alone = AtMost-made (λ p. operands.TwoIndexes p.0 p.1) two_indexes_part (AtMost-more (omega arith) (AtMost-both AtMost-u32 AtMost-u32))
AtMost-operands kinds.Cast alone = AtMost-made cast_of cast_part (AtMost-both AtMost-castop (AtMost-both AtMost-u32 (AtMost-both AtMost-heap-type AtMost-heap-type)))
AtMost-operands kinds.Heap alone = AtMost-made operands.Heap heap_part (AtMost-more (omega arith) AtMost-heap-type)
AtMost-operands kinds.Mem alone = AtMost-made operands.Mem mem_part (AtMost-more (omega arith) AtMost-mem-arg)
AtMost-operands kinds.I32 alone = AtMost-made operands.I32 i32_part (AtMost-more (omega arith) AtMost-s32)
AtMost-operands kinds.I64 alone = AtMost-made operands.I64 i64_part (AtMost-more (omega arith) AtMost-s64)
AtMost-operands kinds.F32 alone = AtMost-made (λ bits. operands.F32 (ieee32 bits)) f32_part (AtMost-more (omega arith) (AtMost-little-endian 4))
AtMost-operands kinds.F64 alone = AtMost-made (λ bits. operands.F64 (ieee64 bits)) f64_part (AtMost-more (omega arith) (AtMost-little-endian 8))
AtMost-operands kinds.V128 alone = AtMost-made operands.V128 v128_part (AtMost-more (omega arith) AtMost-vector)
AtMost-operands kinds.Shuffle alone = AtMost-made operands.Shuffle shuffle_part (AtMost-more (omega arith) (AtMost-raw 16))
AtMost-operands kinds.Lane alone = AtMost-made operands.Lane lane_part (AtMost-more (omega arith) AtMost-byte)
AtMost-operands kinds.MemLane alone = AtMost-made (λ p. operands.MemLane p.0 p.1) mem_lane_part (AtMost-both AtMost-mem-arg AtMost-byte)
AtMost-operands kinds.Order alone = AtMost-made operands.Order order_part (AtMost-more (omega arith) AtMost-ordering)
AtMost-operands kinds.OrderIndex alone = AtMost-made (λ p. operands.OrderIndex p.0 p.1) order_index_part (AtMost-more (omega arith) (AtMost-both AtMost-ordering AtMost-u32))
AtMost-operands kinds.OrderTwoIndexes alone = AtMost-made (λ p. operands.OrderTwoIndexes p.0 p.1.0 p.1.1) order_two_indexes_part (AtMost-more (omega arith) (AtMost-both AtMost-ordering (AtMost-both AtMost-u32 AtMost-u32)))
AtMost-operands k alone = absurd alone

one_type : (types : List ValType) → length types ≡ 1 → (items val_type).InRange types → length ((items val_type).bytes types) ≤ 17
one_type [] one fits = absurd cc
one_type (ty ∷ []) one fits = omega (arith, length-append (unsigned_leb128 1) (val_type.bytes ty ++ []), ap (length {A = ℕ}) (append-nil (val_type.bytes ty)), length-number 0 1 (omega arith), AtMost-val-type.bound ty fits.1.0)
one_type (ty ∷ next ∷ types) one fits = absurd (omega arith)

operands_at_most : (o : Operands) → HasNoLongList o → (operands_format (kind_of o)).InRange o → length ((operands_format (kind_of o)).bytes o) ≤ most_of (kind_of o)
unfolding operands_format
operands_at_most (operands.Types types) short fits = one_type types short fits.0
operands_at_most o short fits = (AtMost-operands (kind_of o) short).bound o fits

counted_short : (o : Operands) → HasNoLongList o → IsCounted o
counted_short (operands.BrTable labels default) short = absurd short
counted_short (operands.Types types) short = omega (arith, short)
counted_short (operands.TryTable ty clauses) short = absurd short
counted_short (operands.Resume index handlers) short = absurd short
counted_short (operands.ResumeThrow index tag handlers) short = absurd short
counted_short o short = tt

-- ---- opcodes

-- the number of a branch on a cast has one byte
abbrev pub IsLow : Kind → Opcode → Type 0
IsLow kinds.Cast op = op.number < 128
IsLow k op = Unit {0}

cast_opcode : (op : Opcode) → opcode_kind op ≡ Some kinds.Cast → op.number < 128
unfolding ranges
cast_opcode op e = by op.prefix op.number e where
  by : (p : Prefix) (n : ℕ) → kind_among (ranges p) n ≡ Some kinds.Cast → n < 128
  by prefixes.None n e = cast_is_low (ranges prefixes.None) n refl e
  by prefixes.Fb n e = cast_is_low (ranges prefixes.Fb) n refl e
  by prefixes.Fc n e = cast_is_low (ranges prefixes.Fc) n refl e
  by prefixes.Fd n e = cast_is_low (ranges prefixes.Fd) n refl e
  by prefixes.Fe n e = cast_is_low (ranges prefixes.Fe) n refl e

pub in_table_low : (op : Opcode) (k : Kind) → opcode_kind op ≡ Some k → IsLow k op
in_table_low op kinds.Cast is = cast_opcode op is
in_table_low op k is = tt

-- an opcode has a byte, and at most so many
abbrev OneUpTo : ℕ → List ℕ → Type 0
OneUpTo most bytes = (1 ≤ length bytes) × (length bytes ≤ most)

after_prefix : (more byte n : ℕ) → n < 128 * 128 ^ more → OneUpTo (suc (suc more)) (byte ∷ unsigned_leb128 n)
after_prefix more byte n lt = (omega arith, omega (arith, length-number more n lt))

length-opcode : (op : Opcode) → IsShort op → OneUpTo 3 (opcode.bytes op)
unfolding opcode
length-opcode op short = by op.prefix op.number short where
  by : (p : Prefix) (n : ℕ) → let o : Opcode = record { prefix = p; number = n } in IsShort o → OneUpTo 3 (opcode.bytes o)
  by prefixes.None n short = (omega arith, omega arith)
  by prefixes.Fb n short = after_prefix 1 0xfb n (omega arith)
  by prefixes.Fc n short = after_prefix 1 0xfc n (omega arith)
  by prefixes.Fd n short = after_prefix 1 0xfd n (omega arith)
  by prefixes.Fe n short = after_prefix 1 0xfe n (omega arith)

length-low-opcode : (op : Opcode) → op.number < 128 → OneUpTo 2 (opcode.bytes op)
unfolding opcode
length-low-opcode op low = by op.prefix op.number low where
  by : (p : Prefix) (n : ℕ) → n < 128 → OneUpTo 2 (opcode.bytes (record { prefix = p; number = n }))
  by prefixes.None n low = (omega arith, omega arith)
  by prefixes.Fb n low = after_prefix 0 0xfb n (omega arith)
  by prefixes.Fc n low = after_prefix 0 0xfc n (omega arith)
  by prefixes.Fd n low = after_prefix 0 0xfd n (omega arith)
  by prefixes.Fe n low = after_prefix 0 0xfe n (omega arith)

-- ---- instructions

joined : (most more : ℕ) (s t : List ℕ) → most + more ≤ 20 → OneUpTo most s → length t ≤ more → IsShortEncoding (s ++ t)
joined most more s t le opcode operands = (omega (arith, length-append s t, opcode.0), omega (arith, length-append s t, opcode.1))

short_with : (op : Opcode) (k : Kind) (o : List ℕ) → IsShort op → IsLow k op → length o ≤ most_of k → IsShortEncoding (opcode.bytes op ++ o)
short_with op kinds.Cast o short low at_most = joined 2 18 _ _ (omega arith) (length-low-opcode op low) at_most
short_with op k o short low at_most = joined 3 17 _ _ (omega arith) (length-opcode op short) at_most

-- an opcode and operands without a list, or with a list of one type, are written in 1 to 20 bytes
pub short_call : (op : Opcode) (o : Operands) → IsShort op → IsLow (kind_of o) op → NumbersInRange o → ItemsInRange o → HasNoLongList o → IsShortEncoding (instruction.bytes (call op o))
unfolding instruction
short_call op o short low fits in_lists alone = short_with op (kind_of o) _ short low (operands_at_most o alone (operands_in_range o fits in_lists (counted_short o alone)))
