use Rattle.std.proofs.Common.{refl}
use Rattle.wasm_custom_sections.specs.formats.SymbolParts.{symbol_parts}
use Rattle.wasm_custom_sections.proofs.SymbolLaws.{adds_symbol}
use Rattle.wasm_custom_sections.proofs.symbol_table.SymbolTable.add.Goals as goal

pub returns : goal.returns
returns c = record { adds = adds_symbol c.self.inside.symbols c.args.self.now c.add.new.self (symbol_parts c.args.symbol.now) c.add.result c.self.view_is (c.if-not-fits_flags.ensures.0 refl) c.add.ensures.count c.add.ensures.bytes c.add.ensures.written c.add.ensures.err c.add.ensures.refused }
