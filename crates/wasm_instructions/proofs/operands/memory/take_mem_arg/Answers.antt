use Rattle.std.proofs.Common.{arith}
use Rattle.wasm_instructions.proofs.OperandRewriting.{named_room, named_byte, named_taken}
use Rattle.wasm_instructions.proofs.operands.memory.take_mem_arg.Goals as goal

pub leave_out-requires : goal.leave_out-requires
leave_out-requires g c =
    let S = g.I.Input.state in
    named_room g.I.Input.writes (S c.args.input.now) (S c.u32.new.self) (S c.u32-2.new.self) (S c.u64-2.new.self) c.in_ok-first.first c.in_ok-memory_index.memory_index c.in_ok-offset-2.offset c.mark-mark.result (omega arith) (omega arith) c.if-memory_index-eq0.true c.mark-mark.ensures c.in_ok-first.ensures.takes c.in_ok-memory_index.ensures.takes c.in_ok-offset-2.ensures.takes

pub overwrite-requires : goal.overwrite-requires
overwrite-requires g c =
    let S = g.I.Input.state in
    named_byte g.I.Input.writes (S c.args.input.now) (S c.u32.new.self) (S c.u32-2.new.self) (S c.u64-2.new.self) (S c.leave_out.new.self) c.in_ok-first.first c.in_ok-memory_index.memory_index c.in_ok-offset-2.offset c.mark-mark.result (omega arith) (omega arith) c.if-memory_index-eq0.true c.mark-mark.ensures c.in_ok-first.ensures.takes c.in_ok-memory_index.ensures.takes c.in_ok-offset-2.ensures.takes c.leave_out.ensures

pub returns-then-memory_index-eq0-clause-takes : goal.returns-then-memory_index-eq0-clause-takes
returns-then-memory_index-eq0-clause-takes g c =
    let S = g.I.Input.state in
    named_taken g.I.Input.writes (S c.args.input.now) (S c.u32.new.self) (S c.u32-2.new.self) (S c.u64-2.new.self) (S c.leave_out.new.self) (S c.overwrite.new.self) c.in_ok-first.first c.in_ok-memory_index.memory_index c.in_ok-offset-2.offset c.mark-mark.result (omega arith) (omega arith) c.if-memory_index-eq0.true c.mark-mark.ensures c.in_ok-first.ensures.takes c.in_ok-memory_index.ensures.takes c.in_ok-offset-2.ensures.takes c.leave_out.ensures c.overwrite.ensures
