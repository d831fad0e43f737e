use Rattle.wasm_externals.proofs.ExternalLaws.{global_put}
use Rattle.wasm_externals.proofs.types.put_global_type.Goals as goal

pub returns-clause-items : goal.returns-clause-items
returns-clause-items g c = global_put c.args.ty c.args.bytes.now.items c.put_val_type.new.bytes.items c.push_reserved.new.self.items c.mutability_byte.result c.mutability_byte.ensures c.put_val_type.ensures.items c.push_reserved.ensures.items
