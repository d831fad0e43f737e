use Rattle.std.proofs.Common.{rules, Ok, Err, w32, FitsSigned}
use Rattle.std.proofs.lemmas.Int.{to_z-of_z}
use Rattle.std.proofs.lemmas.Result.{err_from_is_err_and}
use Rattle.wasm_codec.proofs.InputLaws.{cursor_reads}
use Rattle.wasm_instructions.specs.formats.Operands.{mem_arg}
use Rattle.wasm_instructions.proofs.InstructionReading.{index_read, int_read, mem_read, nothing_read}
use Rattle.wasm_instructions.proofs.reader.instructions.read_opcode_and_operands.Goals as goal

pub returns-in-None-clause-reads : goal.returns-in-None-clause-reads
returns-in-None-clause-reads c = rw c.from_parts.ensures (nothing_read c.in_ok-op.op c.in-Some.kind c.args.cursor.now c.take_opcode.new.input c.in_ok-op.ensures.takes.read c.in-Some.ensures c.in-None.is)

pub returns-in_err-u32-in-Index-clause-reads : goal.returns-in_err-u32-in-Index-clause-reads
returns-in_err-u32-in-Index-clause-reads c =
    let p = err_from_is_err_and c.from_residual-in_err-u32-in-Index.result c.from_residual-in_err-u32-in-Index.ensures.1 in
    rw (p.1, p.2) (index_read c.in_ok-op.op c.in-Some.kind c.args.cursor.now c.take_opcode.new.input c.u32.new.self (Err c.in_err-u32-in-Index.field-0.0) c.in_ok-op.ensures.takes.read c.in-Some.ensures c.in-Index.is c.in_err-u32-in-Index.ensures.reads)

pub returns-in-Index-clause-reads : goal.returns-in-Index-clause-reads
returns-in-Index-clause-reads c = rw c.from_parts-in-Index.ensures (index_read c.in_ok-op.op c.in-Some.kind c.args.cursor.now c.take_opcode.new.input c.u32.new.self (Ok c.in_ok-u32-in-Index.field-0) c.in_ok-op.ensures.takes.read c.in-Some.ensures c.in-Index.is c.in_ok-u32-in-Index.ensures.reads)

pub returns-in_err-take_mem_arg-in-Mem-clause-reads : goal.returns-in_err-take_mem_arg-in-Mem-clause-reads
returns-in_err-take_mem_arg-in-Mem-clause-reads c =
    let p = err_from_is_err_and c.from_residual-in_err-take_mem_arg-in-Mem.result c.from_residual-in_err-take_mem_arg-in-Mem.ensures.1 in
    rw (p.1, p.2) (mem_read c.in_ok-op.op c.in-Some.kind c.args.cursor.now c.take_opcode.new.input c.take_mem_arg.new.input (Err c.in_err-take_mem_arg-in-Mem.field-0.0) c.in_ok-op.ensures.takes.read c.in-Some.ensures c.in-Mem.is (cursor_reads mem_arg c.take_opcode.new.input c.take_mem_arg.new.input (Err c.in_err-take_mem_arg-in-Mem.field-0.0) c.in_err-take_mem_arg-in-Mem.ensures.takes))

pub returns-in-Mem-clause-reads : goal.returns-in-Mem-clause-reads
returns-in-Mem-clause-reads c = rw c.from_parts-in-Mem.ensures (mem_read c.in_ok-op.op c.in-Some.kind c.args.cursor.now c.take_opcode.new.input c.take_mem_arg.new.input (Ok c.in_ok-take_mem_arg-in-Mem.field-0) c.in_ok-op.ensures.takes.read c.in-Some.ensures c.in-Mem.is c.in_ok-take_mem_arg-in-Mem.ensures.takes.read)

pub returns-in_err-s32-in-I32-clause-reads : goal.returns-in_err-s32-in-I32-clause-reads
returns-in_err-s32-in-I32-clause-reads c =
    let p = err_from_is_err_and c.from_residual-in_err-s32-in-I32.result c.from_residual-in_err-s32-in-I32.ensures.1 in
    rw (p.1, p.2) (int_read c.in_ok-op.op c.in-Some.kind c.args.cursor.now c.take_opcode.new.input c.s32.new.self (Err c.in_err-s32-in-I32.field-0.0) c.in_ok-op.ensures.takes.read c.in-Some.ensures c.in-I32.is c.in_err-s32-in-I32.ensures.reads)

pub returns-in-I32-clause-reads : goal.returns-in-I32-clause-reads
returns-in-I32-clause-reads c =
    let f : FitsSigned w32 c.in_ok-s32-in-I32.field-0 = search rules in
    rw (c.from_parts-in-I32.ensures, to_z-of_z w32 c.in_ok-s32-in-I32.field-0 f) (int_read c.in_ok-op.op c.in-Some.kind c.args.cursor.now c.take_opcode.new.input c.s32.new.self (Ok c.in_ok-s32-in-I32.field-0) c.in_ok-op.ensures.takes.read c.in-Some.ensures c.in-I32.is c.in_ok-s32-in-I32.ensures.reads)
