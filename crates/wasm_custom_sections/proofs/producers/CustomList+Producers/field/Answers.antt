use Rattle.wasm_custom_sections.proofs.ProducerLaws.{adds_field}
use Rattle.wasm_custom_sections.proofs.producers.CustomList+Producers.field.Goals as goal

pub returns : goal.returns
returns c = record { adds = adds_field c.self.inside.items c.args.self.now c.args.values.now c.add.new.self c.args.name.now c.add.result c.self.view_is c.add.ensures.count c.add.ensures.bytes c.add.ensures.written c.add.ensures.err c.add.ensures.refused }
