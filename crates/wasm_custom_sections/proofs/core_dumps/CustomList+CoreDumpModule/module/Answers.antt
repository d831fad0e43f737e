use Rattle.wasm_custom_sections.proofs.CoreDumpLaws.{adds_module}
use Rattle.wasm_custom_sections.proofs.core_dumps.CustomList+CoreDumpModule.module.Goals as goal

pub returns : goal.returns
returns c = record { adds = adds_module c.self.inside.items c.args.self.now c.add.new.self c.args.name.now c.add.result c.self.view_is c.add.ensures.count c.add.ensures.bytes c.add.ensures.written c.add.ensures.err c.add.ensures.refused }
