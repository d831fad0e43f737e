use Rattle.std.proofs.Common.{arith}
use Rattle.wasm_modules.proofs.DataOpcodeLaws.{clear_block}
use Rattle.wasm_modules.proofs.order.opcodes.len_from_data_opcode.Goals as goal

pub loop-at-preserved-then-not-has_prefix : goal.loop-at-preserved-then-not-has_prefix
loop-at-preserved-then-not-has_prefix c = record {
  within = omega (arith, c.min-block.ensures);
  clear = clear_block c.args.bytes.now c.loop-at.at c.min-block.result (omega (arith, c.min-block.ensures, c.saturating_add.ensures, c.loop-at-test.true)) (omega (arith, c.min-block.ensures)) c.loop-at.invariant.clear (c.has_prefix.ensures c.if-not-has_prefix.true);
}

pub loop-at-preserved : goal.loop-at-preserved
loop-at-preserved c = record {
  within = omega (arith, c.min-part.ensures);
  clear = clear_block c.args.bytes.now c.loop-at.at c.min-part.result (omega (arith, c.min-part.ensures, c.saturating_add-in-loop-at.ensures, c.loop-at-test.true)) (omega (arith, c.min-part.ensures)) c.loop-at.invariant.clear (c.has_prefix-in-loop-at.ensures c.if-has_prefix.false);
}
