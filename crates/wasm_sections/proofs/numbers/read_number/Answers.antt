use Rattle.wasm_codec.proofs.DecodingLaws.{error_is}
use Rattle.std.proofs.Common.{◌-◌, length, arith}
use Rattle.wasm_codec.specs.formats.Combinators.{u32}
use Rattle.wasm_sections.proofs.ValueReading.{refuses, returns_it, fewer_left, number_wanting, number_left_over, number_there}
use Rattle.wasm_sections.proofs.numbers.read_number.Goals as goal

pub returns-in-Err-clause-reads : goal.returns-in-Err-clause-reads
returns-in-Err-clause-reads c = rw (c.new.ensures.error, error_is c.in-Err.fault 0 c.in-Err.ensures.err) (refuses (λ number. number) u32 c.args.body.now 0 (number_wanting c.args.body.now c.new-cursor.result c.new-cursor.ensures c.u32.new.self c.in-Err.fault c.in-Err.ensures.reads c.in-Err.ensures.err))

pub overflow_sub-at : goal.overflow_sub-at
overflow_sub-at c = omega (arith, fewer_left c.args.body.now c.new-cursor.result c.new-cursor.ensures c.in-Ok.number c.u32.new.self c.are_bytes.ensures c.in-Ok.ensures.reads, c.len-then-len-gt0.ensures)

pub returns-then-len-gt0-clause-reads : goal.returns-then-len-gt0-clause-reads
returns-then-len-gt0-clause-reads c =
    rw c.refused.ensures.error (refuses (λ number. number) u32 c.args.body.now (length c.args.body.now - c.len-then-len-gt0.result) (number_left_over c.args.body.now c.new-cursor.result c.new-cursor.ensures c.in-Ok.number (length c.args.body.now - c.len-then-len-gt0.result) c.u32.new.self c.are_bytes.ensures c.in-Ok.ensures.reads (omega (arith, c.if-len-gt0.true, c.len.ensures)) (omega (arith, c.len-then-len-gt0.ensures))))

pub returns-clause-reads : goal.returns-clause-reads
returns-clause-reads c =
    returns_it (λ number. number) u32 c.args.body.now c.in-Ok.number (number_there c.args.body.now c.new-cursor.result c.new-cursor.ensures c.in-Ok.number c.u32.new.self c.are_bytes.ensures c.in-Ok.ensures.reads (omega (arith, c.if-len-gt0.false, c.len.ensures)))
