use Rattle.std.proofs.Common.{◌<◌, length, arith}
use Rattle.wasm_custom_sections.proofs.WholeValueLaws.{value_fewer, value_left_over, value_there, value_wanting}
use Rattle.wasm_custom_sections.proofs.whole_values.read_value_to_end.Goals as goal

pub returns-in-Err-clause-reads : goal.returns-in-Err-clause-reads
returns-in-Err-clause-reads g c = rw c.new.ensures.error (value_wanting g.T.Readable.view c.in-Err.ensures.lawful c.args.bytes.now c.new-cursor.result c.new-cursor.ensures c.read_next_item.new.cursor c.in-Err.fault c.in-Err.ensures.reads)

pub overflow_sub-at : goal.overflow_sub-at
overflow_sub-at g c = omega (arith, value_fewer g.T.Readable.view c.in-Ok.ensures.lawful c.args.bytes.now c.new-cursor.result c.new-cursor.ensures c.in-Ok.value c.read_next_item.new.cursor c.in-Ok.ensures.bytes c.in-Ok.ensures.reads, c.len-then-len-gt0.ensures)

pub returns-then-len-gt0-clause-reads : goal.returns-then-len-gt0-clause-reads
returns-then-len-gt0-clause-reads g c =
    let some : 0 < length c.read_next_item.new.cursor.left = omega (arith, c.if-len-gt0.true, c.len.ensures) in
    rw (c.refused.ensures.error, c.len-then-len-gt0.ensures) (value_left_over g.T.Readable.view c.in-Ok.ensures.lawful c.args.bytes.now c.new-cursor.result c.new-cursor.ensures c.in-Ok.value c.read_next_item.new.cursor c.in-Ok.ensures.bytes c.in-Ok.ensures.reads some)

pub returns-clause-reads : goal.returns-clause-reads
returns-clause-reads g c = value_there g.T.Readable.view c.in-Ok.ensures.lawful c.args.bytes.now c.new-cursor.result c.new-cursor.ensures c.in-Ok.value c.read_next_item.new.cursor c.in-Ok.ensures.bytes c.in-Ok.ensures.reads (omega (arith, c.if-len-gt0.false, c.len.ensures))
