use Rattle.wasm_sections.proofs.WrittenSectionLaws.{code_encoded, custom_encoded, data_count_encoded, data_encoded, elements_encoded, exports_encoded, functions_encoded, globals_encoded, imports_encoded, memories_encoded, start_encoded, tables_encoded, tags_encoded, types_encoded}
use Rattle.wasm_sections.specs.formats.Sections.{data_count_body, start_body}
use Rattle.wasm_sections.proofs.module_sections.writer.ModuleSectionEncode.encode.Goals as goal

pub returns-in-Custom : goal.returns-in-Custom
returns-in-Custom g c = record { encodes = custom_encoded c.args.self.now c.in-Custom.section c.args.sink.now.items c.encode.new.sink.items c.encode.result c.in-Custom.is c.encode.ensures.ok c.encode.ensures.can c.encode.ensures.written c.encode.ensures.refused c.encode.ensures.err }

pub returns-in-Types : goal.returns-in-Types
returns-in-Types g c = record { encodes = types_encoded c.args.self.now c.in-Types.entries c.args.sink.now.items c.encode_sized_list.new.sink.items c.encode_sized_list.result c.in-Types.is c.encode_sized_list.ensures.ok c.encode_sized_list.ensures.can c.encode_sized_list.ensures.written c.encode_sized_list.ensures.refused c.encode_sized_list.ensures.err }

pub returns-in-Imports : goal.returns-in-Imports
returns-in-Imports g c = record { encodes = imports_encoded c.args.self.now c.in-Imports.imports c.args.sink.now.items c.encode_sized_list-in-Imports.new.sink.items c.encode_sized_list-in-Imports.result c.in-Imports.is c.encode_sized_list-in-Imports.ensures.ok c.encode_sized_list-in-Imports.ensures.can c.encode_sized_list-in-Imports.ensures.written c.encode_sized_list-in-Imports.ensures.refused c.encode_sized_list-in-Imports.ensures.err }

pub returns-in-Functions : goal.returns-in-Functions
returns-in-Functions g c = record { encodes = functions_encoded c.args.self.now c.in-Functions.types c.args.sink.now.items c.encode_sized_list-in-Functions.new.sink.items c.encode_sized_list-in-Functions.result c.in-Functions.is c.encode_sized_list-in-Functions.ensures.ok c.encode_sized_list-in-Functions.ensures.can c.encode_sized_list-in-Functions.ensures.written c.encode_sized_list-in-Functions.ensures.refused c.encode_sized_list-in-Functions.ensures.err }

pub returns-in-Tables : goal.returns-in-Tables
returns-in-Tables g c = record { encodes = tables_encoded c.args.self.now c.in-Tables.tables c.args.sink.now.items c.encode_sized_list-in-Tables.new.sink.items c.encode_sized_list-in-Tables.result c.in-Tables.is c.encode_sized_list-in-Tables.ensures.ok c.encode_sized_list-in-Tables.ensures.can c.encode_sized_list-in-Tables.ensures.written c.encode_sized_list-in-Tables.ensures.refused c.encode_sized_list-in-Tables.ensures.err }

pub returns-in-Memories : goal.returns-in-Memories
returns-in-Memories g c = record { encodes = memories_encoded c.args.self.now c.in-Memories.memories c.args.sink.now.items c.encode_sized_list-in-Memories.new.sink.items c.encode_sized_list-in-Memories.result c.in-Memories.is c.encode_sized_list-in-Memories.ensures.ok c.encode_sized_list-in-Memories.ensures.can c.encode_sized_list-in-Memories.ensures.written c.encode_sized_list-in-Memories.ensures.refused c.encode_sized_list-in-Memories.ensures.err }

pub returns-in-Globals : goal.returns-in-Globals
returns-in-Globals g c = record { encodes = globals_encoded c.args.self.now c.in-Globals.globals c.args.sink.now.items c.encode_sized_list-in-Globals.new.sink.items c.encode_sized_list-in-Globals.result c.in-Globals.is c.encode_sized_list-in-Globals.ensures.ok c.encode_sized_list-in-Globals.ensures.can c.encode_sized_list-in-Globals.ensures.written c.encode_sized_list-in-Globals.ensures.refused c.encode_sized_list-in-Globals.ensures.err }

pub returns-in-Exports : goal.returns-in-Exports
returns-in-Exports g c = record { encodes = exports_encoded c.args.self.now c.in-Exports.exports c.args.sink.now.items c.encode_sized_list-in-Exports.new.sink.items c.encode_sized_list-in-Exports.result c.in-Exports.is c.encode_sized_list-in-Exports.ensures.ok c.encode_sized_list-in-Exports.ensures.can c.encode_sized_list-in-Exports.ensures.written c.encode_sized_list-in-Exports.ensures.refused c.encode_sized_list-in-Exports.ensures.err }

pub returns-in-Elements : goal.returns-in-Elements
returns-in-Elements g c = record { encodes = elements_encoded c.args.self.now c.in-Elements.segments c.args.sink.now.items c.encode_sized_list-in-Elements.new.sink.items c.encode_sized_list-in-Elements.result c.in-Elements.is c.encode_sized_list-in-Elements.ensures.ok c.encode_sized_list-in-Elements.ensures.can c.encode_sized_list-in-Elements.ensures.written c.encode_sized_list-in-Elements.ensures.refused c.encode_sized_list-in-Elements.ensures.err }

pub returns-in-Code : goal.returns-in-Code
returns-in-Code g c = record { encodes = code_encoded c.args.self.now c.in-Code.bodies c.args.sink.now.items c.encode_sized_list-in-Code.new.sink.items c.encode_sized_list-in-Code.result c.in-Code.is c.encode_sized_list-in-Code.ensures.ok c.encode_sized_list-in-Code.ensures.can c.encode_sized_list-in-Code.ensures.written c.encode_sized_list-in-Code.ensures.refused c.encode_sized_list-in-Code.ensures.err }

pub returns-in-Data : goal.returns-in-Data
returns-in-Data g c = record { encodes = data_encoded c.args.self.now c.in-Data.segments c.args.sink.now.items c.encode_sized_list-in-Data.new.sink.items c.encode_sized_list-in-Data.result c.in-Data.is c.encode_sized_list-in-Data.ensures.ok c.encode_sized_list-in-Data.ensures.can c.encode_sized_list-in-Data.ensures.written c.encode_sized_list-in-Data.ensures.refused c.encode_sized_list-in-Data.ensures.err }

pub returns-in-Tags : goal.returns-in-Tags
returns-in-Tags g c = record { encodes = tags_encoded c.args.self.now c.in-Tags.tags c.args.sink.now.items c.encode_sized_list-in-Tags.new.sink.items c.encode_sized_list-in-Tags.result c.in-Tags.is c.encode_sized_list-in-Tags.ensures.ok c.encode_sized_list-in-Tags.ensures.can c.encode_sized_list-in-Tags.ensures.written c.encode_sized_list-in-Tags.ensures.refused c.encode_sized_list-in-Tags.ensures.err }

pub returns-in-Start : goal.returns-in-Start
unfolding start_body
returns-in-Start g c = record { encodes = start_encoded c.args.self.now c.in-Start.function c.args.sink.now.items c.encode-in-Start.new.sink.items c.encode-in-Start.result c.in-Start.is c.encode-in-Start.ensures.ok c.encode-in-Start.ensures.written c.encode-in-Start.ensures.refused c.encode-in-Start.ensures.err }

pub returns-in-DataCount : goal.returns-in-DataCount
unfolding data_count_body
returns-in-DataCount g c = record { encodes = data_count_encoded c.args.self.now c.in-DataCount.count c.args.sink.now.items c.encode-in-DataCount.new.sink.items c.encode-in-DataCount.result c.in-DataCount.is c.encode-in-DataCount.ensures.ok c.encode-in-DataCount.ensures.written c.encode-in-DataCount.ensures.refused c.encode-in-DataCount.ensures.err }
