use Rattle.wasm_externals.proofs.ExternalLaws.{tag_written}
use Rattle.wasm_externals.proofs.types.put_tag_type.Goals as goal

pub returns-clause-written : goal.returns-clause-written
returns-clause-written g c = tag_written c.args.ty c.put_u32.ensures.minimal
