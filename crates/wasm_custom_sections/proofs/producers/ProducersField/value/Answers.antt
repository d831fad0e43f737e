use Rattle.wasm_custom_sections.proofs.ProducerLaws.{adds_producer}
use Rattle.wasm_custom_sections.proofs.producers.ProducersField.value.Goals as goal

pub returns : goal.returns
returns c = record { adds = adds_producer c.self.inside.values c.args.self.now c.add.new.self c.args.name.now c.args.version.now c.add.result c.self.view_is c.add.ensures.count c.add.ensures.bytes c.add.ensures.written c.add.ensures.err c.add.ensures.refused }
