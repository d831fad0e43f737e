use Rattle.wasm_instructions.proofs.PaddedLoads.{padded_load}
use Rattle.wasm_instructions.proofs.normaliser.rewrite_call.Goals as goal

pub returns-in-Some : goal.returns-in-Some
returns-in-Some c = record { rewrites = padded_load c.args.rewriter.now c.skip.new.self c.rewrite_scanned.new.self c.rewrite_offset.new.rewriter c.left.result.now c.in-Some.alignment c.rewrite_offset.result c.are_bytes.ensures c.left.ensures c.in-Some.ensures c.skip.ensures c.rewrite_scanned.ensures c.rewrite_offset.ensures.rewrites }
