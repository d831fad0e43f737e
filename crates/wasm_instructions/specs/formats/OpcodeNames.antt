-- The names of opcodes in the text format (WebAssembly Core 3.0, Text Format, Instructions).
use Rattle.std.specs.Prelude.{ℕ, List, [], ◌∷◌, Option, Some, codes, get_or}
use Rattle.wasm_codec.specs.Reading.{◌>>=◌}
use Rattle.wasm_instructions.specs.declared.table.opcode.Opcode.{Opcode}
use Rattle.wasm_instructions.specs.declared.table.opcode.Prefix.{Prefix}
use Rattle.wasm_instructions.specs.declared.table.opcode.Prefix.TheVariants as prefixes
use Rattle.wasm_instructions.specs.formats.Opcodes.{opcode_kind}

-- The names of the opcodes after a prefix byte, or without one, from number 0 on. A number that is no opcode has an
-- empty one.
unfoldable pub names : Prefix → List (List ℕ)
names prefixes.None =
    codes "unreachable" ∷ codes "nop" ∷ codes "block" ∷ codes "loop" ∷ codes "if" ∷ codes "else" ∷ codes "try" ∷
    codes "catch" ∷ codes "throw" ∷ codes "rethrow" ∷ codes "throw_ref" ∷ codes "end" ∷ codes "br" ∷ codes "br_if" ∷
    codes "br_table" ∷ codes "return" ∷ codes "call" ∷ codes "call_indirect" ∷ codes "return_call" ∷
    codes "return_call_indirect" ∷ codes "call_ref" ∷ codes "return_call_ref" ∷ codes "" ∷ codes "" ∷
    codes "delegate" ∷ codes "catch_all" ∷ codes "drop" ∷ codes "select" ∷ codes "select" ∷ codes "" ∷ codes "" ∷
    codes "try_table" ∷ codes "local.get" ∷ codes "local.set" ∷ codes "local.tee" ∷ codes "global.get" ∷
    codes "global.set" ∷ codes "table.get" ∷ codes "table.set" ∷ codes "" ∷ codes "i32.load" ∷ codes "i64.load" ∷
    codes "f32.load" ∷ codes "f64.load" ∷ codes "i32.load8_s" ∷ codes "i32.load8_u" ∷ codes "i32.load16_s" ∷
    codes "i32.load16_u" ∷ codes "i64.load8_s" ∷ codes "i64.load8_u" ∷ codes "i64.load16_s" ∷ codes "i64.load16_u" ∷
    codes "i64.load32_s" ∷ codes "i64.load32_u" ∷ codes "i32.store" ∷ codes "i64.store" ∷ codes "f32.store" ∷
    codes "f64.store" ∷ codes "i32.store8" ∷ codes "i32.store16" ∷ codes "i64.store8" ∷ codes "i64.store16" ∷
    codes "i64.store32" ∷ codes "memory.size" ∷ codes "memory.grow" ∷ codes "i32.const" ∷ codes "i64.const" ∷
    codes "f32.const" ∷ codes "f64.const" ∷ codes "i32.eqz" ∷ codes "i32.eq" ∷ codes "i32.ne" ∷ codes "i32.lt_s" ∷
    codes "i32.lt_u" ∷ codes "i32.gt_s" ∷ codes "i32.gt_u" ∷ codes "i32.le_s" ∷ codes "i32.le_u" ∷ codes "i32.ge_s" ∷
    codes "i32.ge_u" ∷ codes "i64.eqz" ∷ codes "i64.eq" ∷ codes "i64.ne" ∷ codes "i64.lt_s" ∷ codes "i64.lt_u" ∷
    codes "i64.gt_s" ∷ codes "i64.gt_u" ∷ codes "i64.le_s" ∷ codes "i64.le_u" ∷ codes "i64.ge_s" ∷ codes "i64.ge_u" ∷
    codes "f32.eq" ∷ codes "f32.ne" ∷ codes "f32.lt" ∷ codes "f32.gt" ∷ codes "f32.le" ∷ codes "f32.ge" ∷
    codes "f64.eq" ∷ codes "f64.ne" ∷ codes "f64.lt" ∷ codes "f64.gt" ∷ codes "f64.le" ∷ codes "f64.ge" ∷
    codes "i32.clz" ∷ codes "i32.ctz" ∷ codes "i32.popcnt" ∷ codes "i32.add" ∷ codes "i32.sub" ∷ codes "i32.mul" ∷
    codes "i32.div_s" ∷ codes "i32.div_u" ∷ codes "i32.rem_s" ∷ codes "i32.rem_u" ∷ codes "i32.and" ∷ codes "i32.or" ∷
    codes "i32.xor" ∷ codes "i32.shl" ∷ codes "i32.shr_s" ∷ codes "i32.shr_u" ∷ codes "i32.rotl" ∷ codes "i32.rotr" ∷
    codes "i64.clz" ∷ codes "i64.ctz" ∷ codes "i64.popcnt" ∷ codes "i64.add" ∷ codes "i64.sub" ∷ codes "i64.mul" ∷
    codes "i64.div_s" ∷ codes "i64.div_u" ∷ codes "i64.rem_s" ∷ codes "i64.rem_u" ∷ codes "i64.and" ∷ codes "i64.or" ∷
    codes "i64.xor" ∷ codes "i64.shl" ∷ codes "i64.shr_s" ∷ codes "i64.shr_u" ∷ codes "i64.rotl" ∷ codes "i64.rotr" ∷
    codes "f32.abs" ∷ codes "f32.neg" ∷ codes "f32.ceil" ∷ codes "f32.floor" ∷ codes "f32.trunc" ∷
    codes "f32.nearest" ∷ codes "f32.sqrt" ∷ codes "f32.add" ∷ codes "f32.sub" ∷ codes "f32.mul" ∷ codes "f32.div" ∷
    codes "f32.min" ∷ codes "f32.max" ∷ codes "f32.copysign" ∷ codes "f64.abs" ∷ codes "f64.neg" ∷ codes "f64.ceil" ∷
    codes "f64.floor" ∷ codes "f64.trunc" ∷ codes "f64.nearest" ∷ codes "f64.sqrt" ∷ codes "f64.add" ∷
    codes "f64.sub" ∷ codes "f64.mul" ∷ codes "f64.div" ∷ codes "f64.min" ∷ codes "f64.max" ∷ codes "f64.copysign" ∷
    codes "i32.wrap_i64" ∷ codes "i32.trunc_f32_s" ∷ codes "i32.trunc_f32_u" ∷ codes "i32.trunc_f64_s" ∷
    codes "i32.trunc_f64_u" ∷ codes "i64.extend_i32_s" ∷ codes "i64.extend_i32_u" ∷ codes "i64.trunc_f32_s" ∷
    codes "i64.trunc_f32_u" ∷ codes "i64.trunc_f64_s" ∷ codes "i64.trunc_f64_u" ∷ codes "f32.convert_i32_s" ∷
    codes "f32.convert_i32_u" ∷ codes "f32.convert_i64_s" ∷ codes "f32.convert_i64_u" ∷ codes "f32.demote_f64" ∷
    codes "f64.convert_i32_s" ∷ codes "f64.convert_i32_u" ∷ codes "f64.convert_i64_s" ∷ codes "f64.convert_i64_u" ∷
    codes "f64.promote_f32" ∷ codes "i32.reinterpret_f32" ∷ codes "i64.reinterpret_f64" ∷
    codes "f32.reinterpret_i32" ∷ codes "f64.reinterpret_i64" ∷ codes "i32.extend8_s" ∷ codes "i32.extend16_s" ∷
    codes "i64.extend8_s" ∷ codes "i64.extend16_s" ∷ codes "i64.extend32_s" ∷ codes "" ∷ codes "" ∷ codes "" ∷
    codes "" ∷ codes "" ∷ codes "" ∷ codes "" ∷ codes "" ∷ codes "" ∷ codes "" ∷ codes "" ∷ codes "ref.null" ∷
    codes "ref.is_null" ∷ codes "ref.func" ∷ codes "ref.eq" ∷ codes "ref.as_non_null" ∷ codes "br_on_null" ∷
    codes "br_on_non_null" ∷ codes "" ∷ codes "" ∷ codes "" ∷ codes "" ∷ codes "" ∷ codes "" ∷ codes "" ∷ codes "" ∷
    codes "" ∷ codes "cont.new" ∷ codes "cont.bind" ∷ codes "suspend" ∷ codes "resume" ∷ codes "resume_throw" ∷
    codes "resume_throw_ref" ∷ codes "switch" ∷ []
names prefixes.Fb =
    codes "struct.new" ∷ codes "struct.new_default" ∷ codes "struct.get" ∷ codes "struct.get_s" ∷
    codes "struct.get_u" ∷ codes "struct.set" ∷ codes "array.new" ∷ codes "array.new_default" ∷
    codes "array.new_fixed" ∷ codes "array.new_data" ∷ codes "array.new_elem" ∷ codes "array.get" ∷
    codes "array.get_s" ∷ codes "array.get_u" ∷ codes "array.set" ∷ codes "array.len" ∷ codes "array.fill" ∷
    codes "array.copy" ∷ codes "array.init_data" ∷ codes "array.init_elem" ∷ codes "ref.test" ∷ codes "ref.test" ∷
    codes "ref.cast" ∷ codes "ref.cast" ∷ codes "br_on_cast" ∷ codes "br_on_cast_fail" ∷ codes "any.convert_extern" ∷
    codes "extern.convert_any" ∷ codes "ref.i31" ∷ codes "i31.get_s" ∷ codes "i31.get_u" ∷ codes "" ∷
    codes "struct.new_desc" ∷ codes "struct.new_default_desc" ∷ codes "ref.get_desc" ∷ codes "ref.cast_desc_eq" ∷
    codes "ref.cast_desc_eq" ∷ codes "br_on_cast_desc_eq" ∷ codes "br_on_cast_desc_eq_fail" ∷ []
names prefixes.Fc =
    codes "i32.trunc_sat_f32_s" ∷ codes "i32.trunc_sat_f32_u" ∷ codes "i32.trunc_sat_f64_s" ∷
    codes "i32.trunc_sat_f64_u" ∷ codes "i64.trunc_sat_f32_s" ∷ codes "i64.trunc_sat_f32_u" ∷
    codes "i64.trunc_sat_f64_s" ∷ codes "i64.trunc_sat_f64_u" ∷ codes "memory.init" ∷ codes "data.drop" ∷
    codes "memory.copy" ∷ codes "memory.fill" ∷ codes "table.init" ∷ codes "elem.drop" ∷ codes "table.copy" ∷
    codes "table.grow" ∷ codes "table.size" ∷ codes "table.fill" ∷ codes "memory.discard" ∷ codes "i64.add128" ∷
    codes "i64.sub128" ∷ codes "i64.mul_wide_s" ∷ codes "i64.mul_wide_u" ∷ []
names prefixes.Fd =
    codes "v128.load" ∷ codes "v128.load8x8_s" ∷ codes "v128.load8x8_u" ∷ codes "v128.load16x4_s" ∷
    codes "v128.load16x4_u" ∷ codes "v128.load32x2_s" ∷ codes "v128.load32x2_u" ∷ codes "v128.load8_splat" ∷
    codes "v128.load16_splat" ∷ codes "v128.load32_splat" ∷ codes "v128.load64_splat" ∷ codes "v128.store" ∷
    codes "v128.const" ∷ codes "i8x16.shuffle" ∷ codes "i8x16.swizzle" ∷ codes "i8x16.splat" ∷ codes "i16x8.splat" ∷
    codes "i32x4.splat" ∷ codes "i64x2.splat" ∷ codes "f32x4.splat" ∷ codes "f64x2.splat" ∷
    codes "i8x16.extract_lane_s" ∷ codes "i8x16.extract_lane_u" ∷ codes "i8x16.replace_lane" ∷
    codes "i16x8.extract_lane_s" ∷ codes "i16x8.extract_lane_u" ∷ codes "i16x8.replace_lane" ∷
    codes "i32x4.extract_lane" ∷ codes "i32x4.replace_lane" ∷ codes "i64x2.extract_lane" ∷
    codes "i64x2.replace_lane" ∷ codes "f32x4.extract_lane" ∷ codes "f32x4.replace_lane" ∷
    codes "f64x2.extract_lane" ∷ codes "f64x2.replace_lane" ∷ codes "i8x16.eq" ∷ codes "i8x16.ne" ∷
    codes "i8x16.lt_s" ∷ codes "i8x16.lt_u" ∷ codes "i8x16.gt_s" ∷ codes "i8x16.gt_u" ∷ codes "i8x16.le_s" ∷
    codes "i8x16.le_u" ∷ codes "i8x16.ge_s" ∷ codes "i8x16.ge_u" ∷ codes "i16x8.eq" ∷ codes "i16x8.ne" ∷
    codes "i16x8.lt_s" ∷ codes "i16x8.lt_u" ∷ codes "i16x8.gt_s" ∷ codes "i16x8.gt_u" ∷ codes "i16x8.le_s" ∷
    codes "i16x8.le_u" ∷ codes "i16x8.ge_s" ∷ codes "i16x8.ge_u" ∷ codes "i32x4.eq" ∷ codes "i32x4.ne" ∷
    codes "i32x4.lt_s" ∷ codes "i32x4.lt_u" ∷ codes "i32x4.gt_s" ∷ codes "i32x4.gt_u" ∷ codes "i32x4.le_s" ∷
    codes "i32x4.le_u" ∷ codes "i32x4.ge_s" ∷ codes "i32x4.ge_u" ∷ codes "f32x4.eq" ∷ codes "f32x4.ne" ∷
    codes "f32x4.lt" ∷ codes "f32x4.gt" ∷ codes "f32x4.le" ∷ codes "f32x4.ge" ∷ codes "f64x2.eq" ∷ codes "f64x2.ne" ∷
    codes "f64x2.lt" ∷ codes "f64x2.gt" ∷ codes "f64x2.le" ∷ codes "f64x2.ge" ∷ codes "v128.not" ∷ codes "v128.and" ∷
    codes "v128.andnot" ∷ codes "v128.or" ∷ codes "v128.xor" ∷ codes "v128.bitselect" ∷ codes "v128.any_true" ∷
    codes "v128.load8_lane" ∷ codes "v128.load16_lane" ∷ codes "v128.load32_lane" ∷ codes "v128.load64_lane" ∷
    codes "v128.store8_lane" ∷ codes "v128.store16_lane" ∷ codes "v128.store32_lane" ∷ codes "v128.store64_lane" ∷
    codes "v128.load32_zero" ∷ codes "v128.load64_zero" ∷ codes "f32x4.demote_f64x2_zero" ∷
    codes "f64x2.promote_low_f32x4" ∷ codes "i8x16.abs" ∷ codes "i8x16.neg" ∷ codes "i8x16.popcnt" ∷
    codes "i8x16.all_true" ∷ codes "i8x16.bitmask" ∷ codes "i8x16.narrow_i16x8_s" ∷ codes "i8x16.narrow_i16x8_u" ∷
    codes "f32x4.ceil" ∷ codes "f32x4.floor" ∷ codes "f32x4.trunc" ∷ codes "f32x4.nearest" ∷ codes "i8x16.shl" ∷
    codes "i8x16.shr_s" ∷ codes "i8x16.shr_u" ∷ codes "i8x16.add" ∷ codes "i8x16.add_sat_s" ∷
    codes "i8x16.add_sat_u" ∷ codes "i8x16.sub" ∷ codes "i8x16.sub_sat_s" ∷ codes "i8x16.sub_sat_u" ∷
    codes "f64x2.ceil" ∷ codes "f64x2.floor" ∷ codes "i8x16.min_s" ∷ codes "i8x16.min_u" ∷ codes "i8x16.max_s" ∷
    codes "i8x16.max_u" ∷ codes "f64x2.trunc" ∷ codes "i8x16.avgr_u" ∷ codes "i16x8.extadd_pairwise_i8x16_s" ∷
    codes "i16x8.extadd_pairwise_i8x16_u" ∷ codes "i32x4.extadd_pairwise_i16x8_s" ∷
    codes "i32x4.extadd_pairwise_i16x8_u" ∷ codes "i16x8.abs" ∷ codes "i16x8.neg" ∷ codes "i16x8.q15mulr_sat_s" ∷
    codes "i16x8.all_true" ∷ codes "i16x8.bitmask" ∷ codes "i16x8.narrow_i32x4_s" ∷ codes "i16x8.narrow_i32x4_u" ∷
    codes "i16x8.extend_low_i8x16_s" ∷ codes "i16x8.extend_high_i8x16_s" ∷ codes "i16x8.extend_low_i8x16_u" ∷
    codes "i16x8.extend_high_i8x16_u" ∷ codes "i16x8.shl" ∷ codes "i16x8.shr_s" ∷ codes "i16x8.shr_u" ∷
    codes "i16x8.add" ∷ codes "i16x8.add_sat_s" ∷ codes "i16x8.add_sat_u" ∷ codes "i16x8.sub" ∷
    codes "i16x8.sub_sat_s" ∷ codes "i16x8.sub_sat_u" ∷ codes "f64x2.nearest" ∷ codes "i16x8.mul" ∷
    codes "i16x8.min_s" ∷ codes "i16x8.min_u" ∷ codes "i16x8.max_s" ∷ codes "i16x8.max_u" ∷ codes "" ∷
    codes "i16x8.avgr_u" ∷ codes "i16x8.extmul_low_i8x16_s" ∷ codes "i16x8.extmul_high_i8x16_s" ∷
    codes "i16x8.extmul_low_i8x16_u" ∷ codes "i16x8.extmul_high_i8x16_u" ∷ codes "i32x4.abs" ∷ codes "i32x4.neg" ∷
    codes "" ∷ codes "i32x4.all_true" ∷ codes "i32x4.bitmask" ∷ codes "" ∷ codes "" ∷
    codes "i32x4.extend_low_i16x8_s" ∷ codes "i32x4.extend_high_i16x8_s" ∷ codes "i32x4.extend_low_i16x8_u" ∷
    codes "i32x4.extend_high_i16x8_u" ∷ codes "i32x4.shl" ∷ codes "i32x4.shr_s" ∷ codes "i32x4.shr_u" ∷
    codes "i32x4.add" ∷ codes "" ∷ codes "" ∷ codes "i32x4.sub" ∷ codes "" ∷ codes "" ∷ codes "" ∷ codes "i32x4.mul" ∷
    codes "i32x4.min_s" ∷ codes "i32x4.min_u" ∷ codes "i32x4.max_s" ∷ codes "i32x4.max_u" ∷
    codes "i32x4.dot_i16x8_s" ∷ codes "" ∷ codes "i32x4.extmul_low_i16x8_s" ∷ codes "i32x4.extmul_high_i16x8_s" ∷
    codes "i32x4.extmul_low_i16x8_u" ∷ codes "i32x4.extmul_high_i16x8_u" ∷ codes "i64x2.abs" ∷ codes "i64x2.neg" ∷
    codes "" ∷ codes "i64x2.all_true" ∷ codes "i64x2.bitmask" ∷ codes "" ∷ codes "" ∷
    codes "i64x2.extend_low_i32x4_s" ∷ codes "i64x2.extend_high_i32x4_s" ∷ codes "i64x2.extend_low_i32x4_u" ∷
    codes "i64x2.extend_high_i32x4_u" ∷ codes "i64x2.shl" ∷ codes "i64x2.shr_s" ∷ codes "i64x2.shr_u" ∷
    codes "i64x2.add" ∷ codes "" ∷ codes "" ∷ codes "i64x2.sub" ∷ codes "" ∷ codes "" ∷ codes "" ∷ codes "i64x2.mul" ∷
    codes "i64x2.eq" ∷ codes "i64x2.ne" ∷ codes "i64x2.lt_s" ∷ codes "i64x2.gt_s" ∷ codes "i64x2.le_s" ∷
    codes "i64x2.ge_s" ∷ codes "i64x2.extmul_low_i32x4_s" ∷ codes "i64x2.extmul_high_i32x4_s" ∷
    codes "i64x2.extmul_low_i32x4_u" ∷ codes "i64x2.extmul_high_i32x4_u" ∷ codes "f32x4.abs" ∷ codes "f32x4.neg" ∷
    codes "" ∷ codes "f32x4.sqrt" ∷ codes "f32x4.add" ∷ codes "f32x4.sub" ∷ codes "f32x4.mul" ∷ codes "f32x4.div" ∷
    codes "f32x4.min" ∷ codes "f32x4.max" ∷ codes "f32x4.pmin" ∷ codes "f32x4.pmax" ∷ codes "f64x2.abs" ∷
    codes "f64x2.neg" ∷ codes "" ∷ codes "f64x2.sqrt" ∷ codes "f64x2.add" ∷ codes "f64x2.sub" ∷ codes "f64x2.mul" ∷
    codes "f64x2.div" ∷ codes "f64x2.min" ∷ codes "f64x2.max" ∷ codes "f64x2.pmin" ∷ codes "f64x2.pmax" ∷
    codes "i32x4.trunc_sat_f32x4_s" ∷ codes "i32x4.trunc_sat_f32x4_u" ∷ codes "f32x4.convert_i32x4_s" ∷
    codes "f32x4.convert_i32x4_u" ∷ codes "i32x4.trunc_sat_f64x2_s_zero" ∷ codes "i32x4.trunc_sat_f64x2_u_zero" ∷
    codes "f64x2.convert_low_i32x4_s" ∷ codes "f64x2.convert_low_i32x4_u" ∷ codes "i8x16.relaxed_swizzle" ∷
    codes "i32x4.relaxed_trunc_f32x4_s" ∷ codes "i32x4.relaxed_trunc_f32x4_u" ∷
    codes "i32x4.relaxed_trunc_f64x2_s_zero" ∷ codes "i32x4.relaxed_trunc_f64x2_u_zero" ∷ codes "f32x4.relaxed_madd" ∷
    codes "f32x4.relaxed_nmadd" ∷ codes "f64x2.relaxed_madd" ∷ codes "f64x2.relaxed_nmadd" ∷
    codes "i8x16.relaxed_laneselect" ∷ codes "i16x8.relaxed_laneselect" ∷ codes "i32x4.relaxed_laneselect" ∷
    codes "i64x2.relaxed_laneselect" ∷ codes "f32x4.relaxed_min" ∷ codes "f32x4.relaxed_max" ∷
    codes "f64x2.relaxed_min" ∷ codes "f64x2.relaxed_max" ∷ codes "i16x8.relaxed_q15mulr_s" ∷
    codes "i16x8.relaxed_dot_i8x16_i7x16_s" ∷ codes "i32x4.relaxed_dot_i8x16_i7x16_add_s" ∷ []
names prefixes.Fe =
    codes "memory.atomic.notify" ∷ codes "memory.atomic.wait32" ∷ codes "memory.atomic.wait64" ∷
    codes "atomic.fence" ∷ codes "pause" ∷ codes "" ∷ codes "" ∷ codes "" ∷ codes "" ∷ codes "" ∷ codes "" ∷
    codes "" ∷ codes "" ∷ codes "" ∷ codes "" ∷ codes "" ∷ codes "i32.atomic.load" ∷ codes "i64.atomic.load" ∷
    codes "i32.atomic.load8_u" ∷ codes "i32.atomic.load16_u" ∷ codes "i64.atomic.load8_u" ∷
    codes "i64.atomic.load16_u" ∷ codes "i64.atomic.load32_u" ∷ codes "i32.atomic.store" ∷ codes "i64.atomic.store" ∷
    codes "i32.atomic.store8" ∷ codes "i32.atomic.store16" ∷ codes "i64.atomic.store8" ∷ codes "i64.atomic.store16" ∷
    codes "i64.atomic.store32" ∷ codes "i32.atomic.rmw.add" ∷ codes "i64.atomic.rmw.add" ∷
    codes "i32.atomic.rmw8.add_u" ∷ codes "i32.atomic.rmw16.add_u" ∷ codes "i64.atomic.rmw8.add_u" ∷
    codes "i64.atomic.rmw16.add_u" ∷ codes "i64.atomic.rmw32.add_u" ∷ codes "i32.atomic.rmw.sub" ∷
    codes "i64.atomic.rmw.sub" ∷ codes "i32.atomic.rmw8.sub_u" ∷ codes "i32.atomic.rmw16.sub_u" ∷
    codes "i64.atomic.rmw8.sub_u" ∷ codes "i64.atomic.rmw16.sub_u" ∷ codes "i64.atomic.rmw32.sub_u" ∷
    codes "i32.atomic.rmw.and" ∷ codes "i64.atomic.rmw.and" ∷ codes "i32.atomic.rmw8.and_u" ∷
    codes "i32.atomic.rmw16.and_u" ∷ codes "i64.atomic.rmw8.and_u" ∷ codes "i64.atomic.rmw16.and_u" ∷
    codes "i64.atomic.rmw32.and_u" ∷ codes "i32.atomic.rmw.or" ∷ codes "i64.atomic.rmw.or" ∷
    codes "i32.atomic.rmw8.or_u" ∷ codes "i32.atomic.rmw16.or_u" ∷ codes "i64.atomic.rmw8.or_u" ∷
    codes "i64.atomic.rmw16.or_u" ∷ codes "i64.atomic.rmw32.or_u" ∷ codes "i32.atomic.rmw.xor" ∷
    codes "i64.atomic.rmw.xor" ∷ codes "i32.atomic.rmw8.xor_u" ∷ codes "i32.atomic.rmw16.xor_u" ∷
    codes "i64.atomic.rmw8.xor_u" ∷ codes "i64.atomic.rmw16.xor_u" ∷ codes "i64.atomic.rmw32.xor_u" ∷
    codes "i32.atomic.rmw.xchg" ∷ codes "i64.atomic.rmw.xchg" ∷ codes "i32.atomic.rmw8.xchg_u" ∷
    codes "i32.atomic.rmw16.xchg_u" ∷ codes "i64.atomic.rmw8.xchg_u" ∷ codes "i64.atomic.rmw16.xchg_u" ∷
    codes "i64.atomic.rmw32.xchg_u" ∷ codes "i32.atomic.rmw.cmpxchg" ∷ codes "i64.atomic.rmw.cmpxchg" ∷
    codes "i32.atomic.rmw8.cmpxchg_u" ∷ codes "i32.atomic.rmw16.cmpxchg_u" ∷ codes "i64.atomic.rmw8.cmpxchg_u" ∷
    codes "i64.atomic.rmw16.cmpxchg_u" ∷ codes "i64.atomic.rmw32.cmpxchg_u" ∷ codes "global.atomic.get" ∷
    codes "global.atomic.set" ∷ codes "global.atomic.rmw.add" ∷ codes "global.atomic.rmw.sub" ∷
    codes "global.atomic.rmw.and" ∷ codes "global.atomic.rmw.or" ∷ codes "global.atomic.rmw.xor" ∷
    codes "global.atomic.rmw.xchg" ∷ codes "global.atomic.rmw.cmpxchg" ∷ codes "table.atomic.get" ∷
    codes "table.atomic.set" ∷ codes "table.atomic.rmw.xchg" ∷ codes "table.atomic.rmw.cmpxchg" ∷
    codes "struct.atomic.get" ∷ codes "struct.atomic.get_s" ∷ codes "struct.atomic.get_u" ∷
    codes "struct.atomic.set" ∷ codes "struct.atomic.rmw.add" ∷ codes "struct.atomic.rmw.sub" ∷
    codes "struct.atomic.rmw.and" ∷ codes "struct.atomic.rmw.or" ∷ codes "struct.atomic.rmw.xor" ∷
    codes "struct.atomic.rmw.xchg" ∷ codes "struct.atomic.rmw.cmpxchg" ∷ codes "array.atomic.get" ∷
    codes "array.atomic.get_s" ∷ codes "array.atomic.get_u" ∷ codes "array.atomic.set" ∷
    codes "array.atomic.rmw.add" ∷ codes "array.atomic.rmw.sub" ∷ codes "array.atomic.rmw.and" ∷
    codes "array.atomic.rmw.or" ∷ codes "array.atomic.rmw.xor" ∷ codes "array.atomic.rmw.xchg" ∷
    codes "array.atomic.rmw.cmpxchg" ∷ codes "ref.i31_shared" ∷ []

-- The name of an opcode of the table.
abbrev pub opcode_name : Opcode → Option (List ℕ)
opcode_name op = opcode_kind op >>= λ kind. Some (get_or (names op.prefix) op.number [])
