use Rattle.wasm_custom_sections.specs.formats.SymbolParts.{data_parts, item_parts, function, data_object, global, section, tag, table}
use Rattle.wasm_custom_sections.proofs.SymbolLaws.{symbol_appends}
use Rattle.wasm_custom_sections.proofs.symbol_table.append_symbol.Goals as goal

pub returns-in-Function : goal.returns-in-Function
returns-in-Function g c = rw c.in-Function.is (symbol_appends (function (item_parts c.in-Function.function)) c.append_item.ensures)

pub returns-in-Data : goal.returns-in-Data
returns-in-Data g c = rw c.in-Data.is (symbol_appends (data_object (data_parts c.in-Data.data)) c.append_data.ensures)

pub returns-in-Global : goal.returns-in-Global
returns-in-Global g c = rw c.in-Global.is (symbol_appends (global (item_parts c.in-Global.global)) c.append_item-in-Global.ensures)

pub returns-in-Section : goal.returns-in-Section
returns-in-Section g c = rw c.in-Section.is (symbol_appends (section c.in-Section.section) c.append_section.ensures)

pub returns-in-Tag : goal.returns-in-Tag
returns-in-Tag g c = rw c.in-Tag.is (symbol_appends (tag (item_parts c.in-Tag.tag)) c.append_item-in-Tag.ensures)

pub returns-in-Table : goal.returns-in-Table
returns-in-Table g c = rw c.in-Table.is (symbol_appends (table (item_parts c.in-Table.table)) c.append_item-in-Table.ensures)
