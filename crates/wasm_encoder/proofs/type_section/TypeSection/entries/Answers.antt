use Rattle.wasm_encoder.proofs.TypeSectionLaws.{adds_entries}
use Rattle.wasm_encoder.proofs.type_section.TypeSection.entries.Goals as goal

pub returns : goal.returns
returns c = record { adds = adds_entries c.self.inside.entries c.args.self.now c.add_all.new.self c.args.entries.now c.add_all.result c.self.view_is c.add_all.ensures.count c.add_all.ensures.bytes c.add_all.ensures.can c.add_all.ensures.written c.add_all.ensures.err c.add_all.ensures.refused c.add_all.ensures.too_many }
