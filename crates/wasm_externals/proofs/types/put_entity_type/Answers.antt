use Rattle.std.proofs.Common.{[], ◌∷◌}
use Rattle.wasm_codec.specs.Leb128.{unsigned_leb128}
use Rattle.wasm_codec.proofs.AppendLaws.{two}
use Rattle.wasm_externals.specs.formats.Externals.{memory_type, table_type, global_type, tag_type, entity_type}
use Rattle.wasm_externals.proofs.ExternalLaws.{function_entity_written, table_entity_written, memory_entity_written, global_entity_written, tag_entity_written, exact_entity_written}
use Rattle.wasm_externals.proofs.types.put_entity_type.Goals as goal

pub returns-in-Function-clause-items : goal.returns-in-Function-clause-items
unfolding entity_type
returns-in-Function-clause-items g c = rw c.in-Function.is (two c.args.bytes.now.items (0x00 ∷ []) (unsigned_leb128 c.in-Function.index) c.push_reserved.new.self.items c.put_u32.new.bytes.items c.push_reserved.ensures.items c.put_u32.ensures.items)

pub returns-in-Function-clause-written : goal.returns-in-Function-clause-written
returns-in-Function-clause-written g c = rw c.in-Function.is (function_entity_written c.in-Function.index c.put_u32.ensures.minimal)

pub returns-in-Table-clause-items : goal.returns-in-Table-clause-items
unfolding entity_type
returns-in-Table-clause-items g c = rw c.in-Table.is (two c.args.bytes.now.items (0x01 ∷ []) (table_type.bytes c.in-Table.table) c.push_reserved-in-Table.new.self.items c.put_table_type.new.bytes.items c.push_reserved-in-Table.ensures.items c.put_table_type.ensures.items)

pub returns-in-Table-clause-written : goal.returns-in-Table-clause-written
returns-in-Table-clause-written g c = rw c.in-Table.is (table_entity_written c.in-Table.table c.put_table_type.ensures.written)

pub returns-in-Memory-clause-items : goal.returns-in-Memory-clause-items
unfolding entity_type
returns-in-Memory-clause-items g c = rw c.in-Memory.is (two c.args.bytes.now.items (0x02 ∷ []) (memory_type.bytes c.in-Memory.memory) c.push_reserved-in-Memory.new.self.items c.put_memory_type.new.bytes.items c.push_reserved-in-Memory.ensures.items c.put_memory_type.ensures.items)

pub returns-in-Memory-clause-written : goal.returns-in-Memory-clause-written
returns-in-Memory-clause-written g c = rw c.in-Memory.is (memory_entity_written c.in-Memory.memory c.put_memory_type.ensures.written)

pub returns-in-Global-clause-items : goal.returns-in-Global-clause-items
unfolding entity_type
returns-in-Global-clause-items g c = rw c.in-Global.is (two c.args.bytes.now.items (0x03 ∷ []) (global_type.bytes c.in-Global.global) c.push_reserved-in-Global.new.self.items c.put_global_type.new.bytes.items c.push_reserved-in-Global.ensures.items c.put_global_type.ensures.items)

pub returns-in-Global-clause-written : goal.returns-in-Global-clause-written
returns-in-Global-clause-written g c = rw c.in-Global.is (global_entity_written c.in-Global.global c.put_global_type.ensures.written)

pub returns-in-Tag-clause-items : goal.returns-in-Tag-clause-items
unfolding entity_type
returns-in-Tag-clause-items g c = rw c.in-Tag.is (two c.args.bytes.now.items (0x04 ∷ []) (tag_type.bytes c.in-Tag.tag) c.push_reserved-in-Tag.new.self.items c.put_tag_type.new.bytes.items c.push_reserved-in-Tag.ensures.items c.put_tag_type.ensures.items)

pub returns-in-Tag-clause-written : goal.returns-in-Tag-clause-written
returns-in-Tag-clause-written g c = rw c.in-Tag.is (tag_entity_written c.in-Tag.tag c.put_tag_type.ensures.written)

pub returns-in-FunctionExact-clause-items : goal.returns-in-FunctionExact-clause-items
unfolding entity_type
returns-in-FunctionExact-clause-items g c = rw c.in-FunctionExact.is (two c.args.bytes.now.items (0x20 ∷ []) (unsigned_leb128 c.in-FunctionExact.index) c.push_reserved-in-FunctionExact.new.self.items c.put_u32-in-FunctionExact.new.bytes.items c.push_reserved-in-FunctionExact.ensures.items c.put_u32-in-FunctionExact.ensures.items)

pub returns-in-FunctionExact-clause-written : goal.returns-in-FunctionExact-clause-written
returns-in-FunctionExact-clause-written g c = rw c.in-FunctionExact.is (exact_entity_written c.in-FunctionExact.index c.put_u32-in-FunctionExact.ensures.minimal)
