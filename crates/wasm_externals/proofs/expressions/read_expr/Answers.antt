use Rattle.std.proofs.Common.{◌≡◌, sym, ap, ◌∙◌, arith}
use Rattle.std.proofs.lemmas.Result.{err_from_is_err_and}
use Rattle.wasm_codec.proofs.SizedLaws.{fault_of_part}
use Rattle.wasm_instructions.specs.formats.Instructions.{instruction}
use Rattle.wasm_externals.specs.formats.PartCombinators.{goes_on, ends, fails}
use Rattle.wasm_externals.specs.formats.Expressions.{nested, expr}
use Rattle.wasm_externals.proofs.ExpressionLaws.{by_opcode, gone_on, gone_ends, gone_fails, gone_none, gone_out, opcode_below}
use Rattle.wasm_externals.proofs.expressions.read_expr.Goals as goal

pub returns-in_err-call : goal.returns-in_err-call
returns-in_err-call c =
    let p = err_from_is_err_and c.from_residual.result c.from_residual.ensures.1 in
    let fault = c.in_err-call.field-0.0 in
    rw (p.1, p.2) (record {
      reads = fault_of_part instruction.at expr.at c.loop.cursor c.read_next_call.new.cursor c.args.cursor.now c.read_next_call.new.cursor fault c.in_err-call.ensures.reads
          (λ none. gone_none by_opcode instruction.at (expr.at c.args.cursor.now) c.len-most.result c.loop.counter c.loop.depth c.loop.cursor c.loop.calls.items c.loop-test.true none c.loop.invariant.gone);
    })

pub returns-in-Ends : goal.returns-in-Ends
returns-in-Ends c =
    let is : nested c.loop.depth c.in_ok-call.call.op ≡ ends = ap (nested c.loop.depth) (sym c.op.ensures.value) ∙ sym c.in-Ends.ensures in
    rw c.from.ensures (record { reads = gone_ends by_opcode instruction.at (expr.at c.args.cursor.now) c.len-most.result c.loop.counter c.loop.depth c.loop.cursor c.read_next_call.new.cursor c.loop.calls.items c.in_ok-call.call c.loop-test.true c.in_ok-call.ensures.reads is c.loop.invariant.gone })

pub returns-in-Fails : goal.returns-in-Fails
returns-in-Fails c =
    let is : nested c.loop.depth c.in_ok-call.call.op ≡ fails = ap (nested c.loop.depth) (sym c.op.ensures.value) ∙ sym c.in-Fails.ensures in
    record { reads = gone_fails by_opcode instruction.at (expr.at c.args.cursor.now) c.len-most.result c.loop.counter c.loop.depth c.loop.cursor c.read_next_call.new.cursor c.loop.calls.items c.in_ok-call.call c.loop-test.true c.in_ok-call.ensures.reads is c.loop.invariant.gone }

pub loop-preserved : goal.loop-preserved
loop-preserved c =
    let is : nested c.loop.depth c.in_ok-call.call.op ≡ goes_on c.in-GoesOn.after = ap (nested c.loop.depth) (sym c.op.ensures.value) ∙ sym c.in-GoesOn.ensures in
    let few = opcode_below c.loop.depth c.in_ok-call.call.op c.in-GoesOn.after (sym is) in
    rw c.in_ok-push.ensures.items (record {
      depth = omega (arith, few, c.loop.invariant.depth);
      gone = gone_on by_opcode instruction.at (expr.at c.args.cursor.now) c.len-most.result c.loop.counter c.loop.depth c.in-GoesOn.after c.loop.cursor c.read_next_call.new.cursor c.loop.calls.items c.in_ok-call.call c.loop-test.true c.in_ok-call.ensures.reads is c.loop.invariant.gone;
    })

pub returns : goal.returns
returns c = record { reads = gone_out by_opcode instruction.at (expr.at c.args.cursor.now) c.len-most.result c.loop.counter c.loop.depth c.loop.cursor c.loop.calls.items (omega arith) c.loop.invariant.gone }
