use Rattle.wasm_codec.specs.declared.rewriter.scan.Scanned.TheVariants.{Minimal}
use Rattle.wasm_codec.proofs.Shortening.{scanned_rewritten}
use Rattle.wasm_types.proofs.TypeFormatLaws.{Lawful-field-type}
use Rattle.wasm_types.proofs.types.items.FieldTypeReadable.rewrite.Goals as goal

pub returns-in-Some : goal.returns-in-Some
returns-in-Some c = record { rewrites = scanned_rewritten Lawful-field-type c.args.rewriter.now c.rewrite_scanned.new.self c.left.result.now c.left.ensures c.are_bytes.ensures (Minimal c.in-Some.count) c.in-Some.ensures c.rewrite_scanned.ensures }
