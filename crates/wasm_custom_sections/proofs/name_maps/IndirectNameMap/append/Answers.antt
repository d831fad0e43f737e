use Rattle.wasm_custom_sections.proofs.GainingLaws.{adds_names}
use Rattle.wasm_custom_sections.proofs.name_maps.IndirectNameMap.append.Goals as goal

pub returns : goal.returns
returns c = record { adds = adds_names c.self.inside.items c.args.self.now c.args.names.now c.add.new.self c.args.index c.add.result c.self.view_is c.add.ensures.count c.add.ensures.bytes c.add.ensures.written c.add.ensures.err c.add.ensures.refused }
