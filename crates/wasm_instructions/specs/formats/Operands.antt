-- Operands (WebAssembly Core 3.0, Instructions). Handlers, orderings and casts to descriptors belong to proposals:
-- there this is the project's own profile.
use Rattle.std.specs.Prelude.{ℕ, ℤ, ◌-◌, ◌%◌, ◌/◌, ◌^◌, Bool, true, false, nat_lt, if◌then◌else◌, List, [], ◌∷◌, Option, Some, None, pos, negsuc, is_nan, to_bits as bits_of_float}
use Rattle.std.specs.Float.{Float, binary32, binary64}
use Rattle.wasm_instructions.specs.declared.operands.control.BlockType.{BlockType}
use Rattle.wasm_instructions.specs.declared.operands.control.BlockType.TheVariants as blocks
use Rattle.wasm_instructions.specs.declared.operands.control.Catch.{Catch}
use Rattle.wasm_instructions.specs.declared.operands.control.Catch.TheVariants as catches
use Rattle.wasm_instructions.specs.declared.operands.control.Handle.{Handle}
use Rattle.wasm_instructions.specs.declared.operands.control.Handle.TheVariants as handles
use Rattle.wasm_instructions.specs.declared.operands.memory.MemArg.{MemArg}
use Rattle.wasm_instructions.specs.declared.operands.memory.Ordering.{Ordering}
use Rattle.wasm_instructions.specs.declared.operands.memory.Ordering.TheVariants as orderings
use Rattle.wasm_instructions.specs.declared.operands.constants.Ieee32.{Ieee32}
use Rattle.wasm_instructions.specs.declared.operands.constants.Ieee64.{Ieee64}
use Rattle.wasm_instructions.specs.declared.operands.constants.V128.{V128}
use Rattle.wasm_codec.specs.formats.Combinators.{Format, never, ◌⊗◌, ◌⊗>◌, made, made_with_long_forms, any_of, or_else, no_other, variant, tagged, choose, one_byte, byte_or, u32, u64, index, raw, little_endian}
use Rattle.wasm_types.specs.formats.Types.{val_type}
use Rattle.wasm_instructions.specs.OperandParts.{function_type_part, result_part, catch_byte, tag_and_label, label_alone, handle_byte, on_label_part, on_switch_part, all_nullables, mem_arg_bytes, MemArgInRange, is_named_first, halves_part}

-- ---- block types (Control Instructions)

abbrev pub empty_byte : BlockType → Option ℕ
empty_byte blocks.Empty = Some 0x40
empty_byte ty = None

-- A block type.
-- blocktype ::= 0x40 => ε | t:valtype => t | i:s33 => i  (if i ≥ 0)
unfoldable pub block_type : Format BlockType
block_type = any_of
    (byte_or empty_byte (blocks.Empty ∷ [])
    (variant blocks.FunctionType function_type_part index
    (or_else (made blocks.Result result_part val_type))))

-- ---- clauses of try_table (Control Instructions)

-- A catch clause.
-- catch ::= 0x00 x:tagidx l:labelidx => catch x l | 0x01 x:tagidx l:labelidx => catch_ref x l
--         | 0x02 l:labelidx => catch_all l | 0x03 l:labelidx => catch_all_ref l
unfoldable pub catch_clause : Format Catch
catch_clause = any_of
    (tagged catch_byte 0x00 (made (λ p. catches.One p.0 p.1) tag_and_label (u32 ⊗ u32))
    (tagged catch_byte 0x01 (made (λ p. catches.OneRef p.0 p.1) tag_and_label (u32 ⊗ u32))
    (tagged catch_byte 0x02 (made catches.All label_alone u32)
    (tagged catch_byte 0x03 (made catches.AllRef label_alone u32)
    no_other))))

-- ---- clauses of resume (proposal: stack switching)

-- A handler.
-- hdl ::= 0x00 x:tagidx l:labelidx => on x l | 0x01 x:tagidx => on x switch
unfoldable pub handle_clause : Format Handle
handle_clause = any_of
    (tagged handle_byte 0x00 (made (λ p. handles.OnLabel p.0 p.1) on_label_part (u32 ⊗ u32))
    (tagged handle_byte 0x01 (made handles.OnSwitch on_switch_part u32)
    no_other))

-- ---- the flags of branches on casts (Control Instructions)

abbrev pub nullables_byte : Bool × Bool → Option ℕ
nullables_byte (false, false) = Some 0x00
nullables_byte (true, false) = Some 0x01
nullables_byte (false, true) = Some 0x02
nullables_byte (true, true) = Some 0x03

-- The flags of a branch on a cast.
-- castop ::= 0x00 => (ε, ε) | 0x01 => (null, ε) | 0x02 => (ε, null) | 0x03 => (null, null)
unfoldable pub castop : Format (Bool × Bool)
castop = one_byte nullables_byte all_nullables

-- ---- memory arguments (Memory Instructions)

abbrev pub in_first : ℕ → ℕ → MemArg
in_first align offset = record { offset = offset; align = align; memory_index = 0 }

abbrev pub in_memory : ℕ → ℕ × ℕ → MemArg
in_memory align p = record { offset = p.1; align = align; memory_index = p.0 }

-- A memory argument after its first number.
-- Below 64 the number is the alignment, and an offset in memory 0 follows. From 64 to 127 it is the alignment and 64,
-- and a memory index and an offset follow.
abbrev pub after_alignment : ℕ → Format MemArg
after_alignment n =
    choose (nat_lt n 64) (made (in_first n) (λ arg. Some arg.offset) u64)
    (choose (nat_lt n 128) (made (in_memory (n - 64)) (λ arg. Some (arg.memory_index, arg.offset)) (u32 ⊗ u64))
    never)

-- A memory argument.
-- memarg ::= n:u32 o:u64 => (0, {align n, offset o})  (if n < 2^6)
--          | n:u32 x:memidx o:u64 => (x, {align n - 2^6, offset o})  (if 2^6 ≤ n < 2^7)
unfoldable pub mem_arg : Format MemArg
mem_arg = made_with_long_forms is_named_first (λ p. p.1) mem_arg_bytes MemArgInRange (u32 ⊗> after_alignment)

-- ---- orderings (proposal: shared types)

abbrev pub ordering_byte : Ordering → Option ℕ
ordering_byte orderings.SeqCst = Some 0x00
ordering_byte orderings.AcqRel = Some 0x01

-- An ordering of atomic accesses.
unfoldable pub ordering : Format Ordering
ordering = one_byte ordering_byte (orderings.SeqCst ∷ orderings.AcqRel ∷ [])

-- ---- floating-point constants (Numeric Instructions), whose values are their bits

-- The 32-bit floating-point constant with these bits.
abbrev pub ieee32 : ℕ → Ieee32
ieee32 bits = record { bits = bits }

-- The 64-bit floating-point constant with these bits.
abbrev pub ieee64 : ℕ → Ieee64
ieee64 bits = record { bits = bits }

-- The bits of a 32-bit floating-point number in the format of IEEE 754. Every NaN gives those of the canonical NaN.
abbrev pub float_bits_32 : Float → ℕ
float_bits_32 value = if is_nan value then 0x7fc0_0000 else bits_of_float binary32 value

-- The bits of a 64-bit floating-point number in the format of IEEE 754. Every NaN gives those of the canonical NaN.
abbrev pub float_bits_64 : Float → ℕ
float_bits_64 value = if is_nan value then 0x7ff8_0000_0000_0000 else bits_of_float binary64 value

-- ---- vectors (Vector Instructions), whose values are their halves

-- The vector with this low half and this high half.
abbrev pub from_halves : ℕ × ℕ → V128
from_halves p = record { low = p.0; high = p.1 }

-- The 128 bits of a vector.
-- 0xFD 12:u32 (b:byte)^16 => v128.const bytes^-1_i128(b^16): the least byte first
unfoldable pub vector : Format V128
vector = made from_halves halves_part (little_endian 8 ⊗ little_endian 8)

-- The 128 bits of the number, in two's complement.
abbrev pub to_bits : ℤ → ℕ
to_bits (pos n) = n
to_bits (negsuc n) = 2 ^ 128 - 1 - n

-- The vector with the 128 bits of the number.
abbrev pub v128 : ℤ → V128
v128 value = from_halves (to_bits value % 2 ^ 64, to_bits value / 2 ^ 64)

-- The 16 lanes of a shuffle.
-- 0xFD 13:u32 (l:laneidx)^16 => i8x16.shuffle l^16
unfoldable pub lanes : Format (List ℕ)
lanes = raw 16
