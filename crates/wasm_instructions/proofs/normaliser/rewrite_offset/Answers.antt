use Rattle.wasm_codec.proofs.FormatLaws.{Lawful-u64}
use Rattle.wasm_codec.proofs.Shortening.{scanned_rewritten}
use Rattle.wasm_instructions.proofs.normaliser.rewrite_offset.Goals as goal

pub returns-in-Some : goal.returns-in-Some
returns-in-Some c = record { rewrites = scanned_rewritten Lawful-u64 c.args.rewriter.now c.rewrite_scanned.new.self c.left.result.now c.left.ensures c.are_bytes.ensures c.in-Some.scanned c.in-Some.ensures c.rewrite_scanned.ensures }
