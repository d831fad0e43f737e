use Rattle.std.proofs.Common.{sym}
use Rattle.wasm_instructions.proofs.InstructionFormatLaws.{instructions_more}
use Rattle.wasm_instructions.proofs.calls.append_one_by_one.Goals as goal

pub loop-call-preserved : goal.loop-call-preserved
loop-call-preserved g c =
    let more = instructions_more c.args.calls.now c.loop-call.call-index c.call-item.result c.args.bytes.now.items c.loop-call.bytes.items c.append_call.new.bytes.items c.loop-call-test.true (sym c.call-item.is) c.loop-call.invariant.bytes c.loop-call.invariant.encodes c.in_ok-append_call.ensures.ok c.in_ok-append_call.ensures.encodes in
    record { bytes = more.bytes; encodes = more.encodes }
