-- The table of opcodes: the kind of operands of each (WebAssembly Core 3.0, Instructions).
use Rattle.std.specs.Prelude.{ℕ, List, [], ◌∷◌, Option, Some, None, ◌&&◌, nat_le, if◌then◌else◌}
use Rattle.wasm_instructions.specs.declared.table.opcode.Prefix.{Prefix}
use Rattle.wasm_instructions.specs.declared.table.opcode.Prefix.TheVariants as prefixes
use Rattle.wasm_instructions.specs.declared.table.opcode.Opcode.{Opcode}
use Rattle.wasm_instructions.specs.declared.table.opcode.Kind.{Kind}
use Rattle.wasm_instructions.specs.declared.table.opcode.Kind.TheVariants as kinds

-- ---- opcodes, with a prefix byte or without one

-- The opcode of one byte.
abbrev pub without_prefix : ℕ → Opcode
without_prefix number = record { prefix = prefixes.None; number = number }

-- The opcode after 0xFB with this number.
abbrev pub after_fb : ℕ → Opcode
after_fb number = record { prefix = prefixes.Fb; number = number }

-- The opcode after 0xFC with this number.
abbrev pub after_fc : ℕ → Opcode
after_fc number = record { prefix = prefixes.Fc; number = number }

-- The opcode after 0xFD with this number.
abbrev pub after_fd : ℕ → Opcode
after_fd number = record { prefix = prefixes.Fd; number = number }

-- The opcode after 0xFE with this number.
abbrev pub after_fe : ℕ → Opcode
after_fe number = record { prefix = prefixes.Fe; number = number }

-- ---- the kind of operands of each

-- The opcodes from `first` to `last` have operands of this kind.
pub record Range : Type 0 where
  pub first : ℕ
  pub last : ℕ
  pub kind : Kind

abbrev pub from_to : ℕ → ℕ → Kind → Range
from_to first last kind = record { first = first; last = last; kind = kind }

abbrev pub one : ℕ → Kind → Range
one number kind = from_to number number kind

-- All opcodes after a prefix byte, or without one, and the kinds of their operands.
unfoldable pub ranges : Prefix → List Range
ranges prefixes.None =
    from_to 0x00 0x01 kinds.None  -- unreachable, nop
    ∷ from_to 0x02 0x04 kinds.Block  -- block, loop, if
    ∷ one 0x05 kinds.None  -- else
    ∷ one 0x06 kinds.Block  -- try
    ∷ from_to 0x07 0x09 kinds.Index  -- catch, throw, rethrow
    ∷ from_to 0x0a 0x0b kinds.None  -- throw_ref, end
    ∷ from_to 0x0c 0x0d kinds.Index  -- br, br_if
    ∷ one 0x0e kinds.BrTable  -- br_table
    ∷ one 0x0f kinds.None  -- return
    ∷ one 0x10 kinds.Index  -- call
    ∷ one 0x11 kinds.TwoIndexes  -- call_indirect
    ∷ one 0x12 kinds.Index  -- return_call
    ∷ one 0x13 kinds.TwoIndexes  -- return_call_indirect
    ∷ from_to 0x14 0x15 kinds.Index  -- call_ref, return_call_ref
    ∷ one 0x18 kinds.Index  -- delegate
    ∷ from_to 0x19 0x1b kinds.None  -- catch_all, drop, select
    ∷ one 0x1c kinds.Types  -- select
    ∷ one 0x1f kinds.TryTable  -- try_table
    ∷ from_to 0x20 0x26 kinds.Index  -- local.get to table.set
    ∷ from_to 0x28 0x3e kinds.Mem  -- i32.load to i64.store32
    ∷ from_to 0x3f 0x40 kinds.Index  -- memory.size, memory.grow
    ∷ one 0x41 kinds.I32  -- i32.const
    ∷ one 0x42 kinds.I64  -- i64.const
    ∷ one 0x43 kinds.F32  -- f32.const
    ∷ one 0x44 kinds.F64  -- f64.const
    ∷ from_to 0x45 0xc4 kinds.None  -- i32.eqz to i64.extend32_s
    ∷ one 0xd0 kinds.Heap  -- ref.null
    ∷ one 0xd1 kinds.None  -- ref.is_null
    ∷ one 0xd2 kinds.Index  -- ref.func
    ∷ from_to 0xd3 0xd4 kinds.None  -- ref.eq, ref.as_non_null
    ∷ from_to 0xd5 0xd6 kinds.Index  -- br_on_null, br_on_non_null
    ∷ one 0xe0 kinds.Index  -- cont.new
    ∷ one 0xe1 kinds.TwoIndexes  -- cont.bind
    ∷ one 0xe2 kinds.Index  -- suspend
    ∷ one 0xe3 kinds.Resume  -- resume
    ∷ one 0xe4 kinds.ResumeThrow  -- resume_throw
    ∷ one 0xe5 kinds.Resume  -- resume_throw_ref
    ∷ one 0xe6 kinds.TwoIndexes  -- switch
    ∷ []
ranges prefixes.Fb =
    from_to 0x00 0x01 kinds.Index  -- struct.new, struct.new_default
    ∷ from_to 0x02 0x05 kinds.TwoIndexes  -- struct.get, struct.get_s, struct.get_u, struct.set
    ∷ from_to 0x06 0x07 kinds.Index  -- array.new, array.new_default
    ∷ from_to 0x08 0x0a kinds.TwoIndexes  -- array.new_fixed, array.new_data, array.new_elem
    ∷ from_to 0x0b 0x0e kinds.Index  -- array.get, array.get_s, array.get_u, array.set
    ∷ one 0x0f kinds.None  -- array.len
    ∷ one 0x10 kinds.Index  -- array.fill
    ∷ from_to 0x11 0x13 kinds.TwoIndexes  -- array.copy, array.init_data, array.init_elem
    ∷ from_to 0x14 0x17 kinds.Heap  -- ref.test, ref.cast
    ∷ from_to 0x18 0x19 kinds.Cast  -- br_on_cast, br_on_cast_fail
    ∷ from_to 0x1a 0x1e kinds.None  -- any.convert_extern, extern.convert_any, ref.i31, i31.get_s, i31.get_u
    ∷ from_to 0x20 0x22 kinds.Index  -- struct.new_desc, struct.new_default_desc, ref.get_desc
    ∷ from_to 0x23 0x24 kinds.Heap  -- ref.cast_desc_eq
    ∷ from_to 0x25 0x26 kinds.Cast  -- br_on_cast_desc_eq, br_on_cast_desc_eq_fail
    ∷ []
ranges prefixes.Fc =
    from_to 0x00 0x07 kinds.None  -- i32.trunc_sat_f32_s to i64.trunc_sat_f64_u
    ∷ one 0x08 kinds.TwoIndexes  -- memory.init
    ∷ one 0x09 kinds.Index  -- data.drop
    ∷ one 0x0a kinds.TwoIndexes  -- memory.copy
    ∷ one 0x0b kinds.Index  -- memory.fill
    ∷ one 0x0c kinds.TwoIndexes  -- table.init
    ∷ one 0x0d kinds.Index  -- elem.drop
    ∷ one 0x0e kinds.TwoIndexes  -- table.copy
    ∷ from_to 0x0f 0x12 kinds.Index  -- table.grow, table.size, table.fill, memory.discard
    ∷ from_to 0x13 0x16 kinds.None  -- i64.add128, i64.sub128, i64.mul_wide_s, i64.mul_wide_u
    ∷ []
ranges prefixes.Fd =
    from_to 0x00 0x0b kinds.Mem  -- v128.load to v128.store
    ∷ one 0x0c kinds.V128  -- v128.const
    ∷ one 0x0d kinds.Shuffle  -- i8x16.shuffle
    ∷ from_to 0x0e 0x14 kinds.None  -- i8x16.swizzle to f64x2.splat
    ∷ from_to 0x15 0x22 kinds.Lane  -- i8x16.extract_lane_s to f64x2.replace_lane
    ∷ from_to 0x23 0x53 kinds.None  -- i8x16.eq to v128.any_true
    ∷ from_to 0x54 0x5b kinds.MemLane  -- v128.load8_lane to v128.store64_lane
    ∷ from_to 0x5c 0x5d kinds.Mem  -- v128.load32_zero, v128.load64_zero
    ∷ from_to 0x5e 0x99 kinds.None  -- f32x4.demote_f64x2_zero to i16x8.max_u
    ∷ from_to 0x9b 0xa1 kinds.None  -- i16x8.avgr_u to i32x4.neg
    ∷ from_to 0xa3 0xa4 kinds.None  -- i32x4.all_true, i32x4.bitmask
    ∷ from_to 0xa7 0xae kinds.None  -- i32x4.extend_low_i16x8_s to i32x4.add
    ∷ one 0xb1 kinds.None  -- i32x4.sub
    ∷ from_to 0xb5 0xba kinds.None  -- i32x4.mul to i32x4.dot_i16x8_s
    ∷ from_to 0xbc 0xc1 kinds.None  -- i32x4.extmul_low_i16x8_s to i64x2.neg
    ∷ from_to 0xc3 0xc4 kinds.None  -- i64x2.all_true, i64x2.bitmask
    ∷ from_to 0xc7 0xce kinds.None  -- i64x2.extend_low_i32x4_s to i64x2.add
    ∷ one 0xd1 kinds.None  -- i64x2.sub
    ∷ from_to 0xd5 0xe1 kinds.None  -- i64x2.mul to f32x4.neg
    ∷ from_to 0xe3 0xed kinds.None  -- f32x4.sqrt to f64x2.neg
    ∷ from_to 0xef 0x113 kinds.None  -- f64x2.sqrt to i32x4.relaxed_dot_i8x16_i7x16_add_s
    ∷ []
ranges prefixes.Fe =
    from_to 0x00 0x02 kinds.Mem  -- memory.atomic.notify, memory.atomic.wait32, memory.atomic.wait64
    ∷ one 0x03 kinds.Order  -- atomic.fence
    ∷ one 0x04 kinds.None  -- pause
    ∷ from_to 0x10 0x4e kinds.Mem  -- i32.atomic.load to i64.atomic.rmw32.cmpxchg_u
    ∷ from_to 0x4f 0x5b kinds.OrderIndex  -- global.atomic.get to table.atomic.rmw.cmpxchg
    ∷ from_to 0x5c 0x66 kinds.OrderTwoIndexes  -- struct.atomic.get to struct.atomic.rmw.cmpxchg
    ∷ from_to 0x67 0x71 kinds.OrderIndex  -- array.atomic.get to array.atomic.rmw.cmpxchg
    ∷ one 0x72 kinds.None  -- ref.i31_shared
    ∷ []

-- The kind of the operands of this number, if a range has it.
abbrev pub kind_among : List Range → ℕ → Option Kind
kind_among [] number = None
kind_among (r ∷ rs) number = if nat_le r.first number && nat_le number r.last then Some r.kind else kind_among rs number

-- The kind of the opcode's operands, or none if it is no opcode.
abbrev pub opcode_kind : Opcode → Option Kind
opcode_kind op = kind_among (ranges op.prefix) op.number
