use Rattle.wasm_types.proofs.WrittenTypes.{array_written}
use Rattle.wasm_types.proofs.types.composite.ArrayTypeEncode.encode.Goals as goal

pub returns-clause-written : goal.returns-clause-written
returns-clause-written g c = array_written c.args.self.now c.put_field_type.ensures.fits
