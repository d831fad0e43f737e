use Rattle.wasm_sections.specs.ClosedEntries.{IsCountedData}
use Rattle.wasm_sections.specs.SectionKinds.{data_section}
use Rattle.wasm_sections.specs.formats.Segments.{active_data}
use Rattle.wasm_sections.proofs.ItemLaws.{adds_parts, active_lawful}
use Rattle.wasm_sections.proofs.data.ListSection+DataSegment.active.Goals as goal

pub returns : goal.returns
returns c =
    let calls = c.as_slice-calls in
    let sum = c.add.ensures in
    record { adds = adds_parts calls.result.now c.args.offset calls.ensures.value calls.ensures.closed c.self.inside.items c.args.self.now c.add.new.self c.add.result c.self.view_is data_section (λ e. active_data c.args.memory_index (e, c.args.bytes.now)) IsCountedData (active_lawful c.args.memory_index c.args.bytes.now) sum.count sum.bytes sum.written sum.err sum.refused }
