use Rattle.wasm_custom_sections.proofs.LinkingLaws.{adds_table}
use Rattle.wasm_custom_sections.proofs.linking.LinkingSection.symbol_table.Goals as goal

pub returns-clause-adds : goal.returns-clause-adds
returns-clause-adds c = adds_table c.self.inside.subsections c.args.self.now c.args.table.now c.add.new.self c.add.result c.self.view_is c.add.ensures.count c.add.ensures.bytes c.add.ensures.written c.add.ensures.err c.add.ensures.refused
