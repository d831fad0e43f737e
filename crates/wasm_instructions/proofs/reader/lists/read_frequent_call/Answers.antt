use Rattle.std.proofs.Common.{rules, ◌≡◌, Some, refl, w32, FitsSigned}
use Rattle.std.proofs.lemmas.Int.{to_z-of_z}
use Rattle.wasm_instructions.specs.formats.Instructions.{operands_format}
use Rattle.wasm_instructions.proofs.InstructionReading.{unprefixed_read}
use Rattle.wasm_instructions.proofs.reader.lists.read_frequent_call.Goals as goal
use Rattle.wasm_instructions.proofs.reader.lists.read_frequent_call.Goals.{in-None, in-Index+in_ok-short_u32-in-Index, in-Mem+in_ok-read_short_mem_arg-in-Mem, in-I32+in_ok-short_s32-in-I32, in-Block+in_ok-read_empty_block_type-in-Block}

pub returns : goal.returns
unfolding operands_format
returns c =
    let is = rw c.without_prefix-op.ensures at c.in_ok-kind.ensures in
    let read : (operands_format c.in_ok-kind.field-0).at c.next_byte.new.self ≡ Some (c.match-branch-3.operands, c.match-branch-3.cursor) = elim c.match-branch-3.branch [
      | in-None w ↦ rw (w.in-None.is, w.cursor-is, w.operands-is) refl
      | in-Index+in_ok-short_u32-in-Index w ↦ rw (w.in-Index.is, w.cursor-is, w.operands-is, w.in_ok-short_u32-in-Index.ensures) refl
      | in-Mem+in_ok-read_short_mem_arg-in-Mem w ↦ rw (w.in-Mem.is, w.cursor-is, w.operands-is, w.in_ok-read_short_mem_arg-in-Mem.ensures.reads) refl
      | in-I32+in_ok-short_s32-in-I32 w ↦
          let n = w.in_ok-short_s32-in-I32.field-0 in
          let f : FitsSigned w32 n = search rules in
          rw (w.in-I32.is, w.cursor-is, w.operands-is, to_z-of_z w32 n f, w.in_ok-short_s32-in-I32.ensures) refl
      | in-Block+in_ok-read_empty_block_type-in-Block w ↦ rw (w.in-Block.is, w.cursor-is, w.operands-is, w.in_ok-read_empty_block_type-in-Block.ensures) refl
    ] in
    rw (c.from_parts.ensures, c.without_prefix-op.ensures) (unprefixed_read c.in_ok-next_byte.field-0 c.in_ok-kind.field-0 c.match-branch-3.operands c.args.cursor.now c.next_byte.new.self c.match-branch-3.cursor c.in_ok-next_byte.ensures is read)
