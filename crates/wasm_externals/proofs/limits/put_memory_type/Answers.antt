use Rattle.std.proofs.Common.{◌≡◌, Some}
use Rattle.std.specs.Prelude.{is_some}
use Rattle.wasm_externals.specs.formats.Externals.{paged_byte}
use Rattle.wasm_externals.proofs.ExternalLaws.{memory_put, memory_written}
use Rattle.wasm_externals.proofs.limits.put_memory_type.Goals as goal

pub returns-clause-items : goal.returns-clause-items
returns-clause-items g c =
    let byte : paged_byte ((is_some c.args.ty.now.maximum, (c.args.ty.now.shared, c.args.ty.now.memory64)), is_some c.args.ty.now.page_size_log2) ≡ Some c.memory_byte.result = rw (← c.is_some.ensures, ← c.is_some-2.ensures) c.memory_byte.ensures in
    memory_put c.args.ty.now c.args.bytes.now.items c.push_reserved.new.self.items c.put_u64.new.bytes.items c.put_u64_if.new.bytes.items c.put_u32_if.new.bytes.items c.memory_byte.result byte c.push_reserved.ensures.items c.put_u64.ensures.items c.put_u64_if.ensures.items c.put_u32_if.ensures.items

pub returns-clause-written : goal.returns-clause-written
returns-clause-written g c = memory_written c.args.ty.now c.put_u64.ensures.minimal c.put_u64_if.ensures.minimal c.put_u32_if.ensures.minimal
