use Rattle.std.proofs.Common.{◌≡◌, Some}
use Rattle.std.specs.Prelude.{is_some}
use Rattle.wasm_externals.specs.formats.Externals.{flags_byte}
use Rattle.wasm_externals.proofs.ExternalLaws.{table_put, table_written}
use Rattle.wasm_externals.proofs.limits.put_table_type.Goals as goal

pub returns-clause-items : goal.returns-clause-items
returns-clause-items g c =
    let byte : flags_byte (is_some c.args.ty.now.maximum, (c.args.ty.now.shared, c.args.ty.now.table64)) ≡ Some c.limits_byte.result = rw (← c.is_some.ensures) c.limits_byte.ensures in
    table_put c.args.ty.now c.args.bytes.now.items c.put_ref_type.new.bytes.items c.push_reserved.new.self.items c.put_u64.new.bytes.items c.put_u64_if.new.bytes.items c.limits_byte.result byte c.put_ref_type.ensures.items c.push_reserved.ensures.items c.put_u64.ensures.items c.put_u64_if.ensures.items

pub returns-clause-written : goal.returns-clause-written
returns-clause-written g c = table_written c.args.ty.now c.put_ref_type.ensures.fits c.put_u64.ensures.minimal c.put_u64_if.ensures.minimal
