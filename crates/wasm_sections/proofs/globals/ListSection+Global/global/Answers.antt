use Rattle.wasm_sections.specs.ClosedEntries.{IsCountedGlobal}
use Rattle.wasm_sections.specs.SectionKinds.{global_section}
use Rattle.wasm_sections.specs.formats.Entries.{global_of}
use Rattle.wasm_sections.proofs.ItemLaws.{adds_parts, global_of_lawful}
use Rattle.wasm_sections.proofs.globals.ListSection+Global.global.Goals as goal

pub returns : goal.returns
returns c =
    let calls = c.as_slice-calls in
    let sum = c.add.ensures in
    record { adds = adds_parts calls.result.now c.args.init calls.ensures.value calls.ensures.closed c.self.inside.items c.args.self.now c.add.new.self c.add.result c.self.view_is global_section (λ e. global_of (c.args.ty, e)) IsCountedGlobal (global_of_lawful c.args.ty) sum.count sum.bytes sum.written sum.err sum.refused }
