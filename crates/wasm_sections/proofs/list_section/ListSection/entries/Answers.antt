use Rattle.wasm_sections.proofs.ListSectionLaws.{adds_each}
use Rattle.wasm_sections.proofs.list_section.ListSection.entries.Goals as goal

pub returns : goal.returns
returns g c = record { adds = adds_each c.is_lawful.ensures.lawful c.self.inside.items c.args.self.now c.add_all.new.self c.args.items.now g.T.Encode.CanEncode g.T.Encode.refuses c.add_all.result c.self.view_is c.add_all.ensures.count c.add_all.ensures.bytes c.add_all.ensures.written c.add_all.ensures.err c.add_all.ensures.refused c.add_all.ensures.too_many }
