use Rattle.wasm_custom_sections.specs.formats.CoreDumps.{instance_of}
use Rattle.wasm_custom_sections.proofs.CoreDumpLaws.{adds_instance}
use Rattle.wasm_custom_sections.proofs.core_dumps.CustomList+CoreDumpInstance.instance.Goals as goal

pub returns : goal.returns
returns c =
    let instance = instance_of (c.args.module_index, (c.args.memories.now, c.args.globals.now)) in
    record { adds = adds_instance c.self.inside.items c.args.self.now c.add.new.self instance c.add.result c.self.view_is c.add.ensures.count c.add.ensures.bytes c.add.ensures.written c.add.ensures.err c.add.ensures.refused }
