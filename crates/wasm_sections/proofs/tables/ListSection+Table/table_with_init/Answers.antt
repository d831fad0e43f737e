use Rattle.wasm_sections.specs.ClosedEntries.{IsCountedTable}
use Rattle.wasm_sections.specs.SectionKinds.{table_section}
use Rattle.wasm_sections.specs.formats.Entries.{filled_of}
use Rattle.wasm_sections.proofs.ItemLaws.{adds_parts, filled_lawful}
use Rattle.wasm_sections.proofs.tables.ListSection+Table.table_with_init.Goals as goal

pub returns : goal.returns
returns c =
    let calls = c.as_slice-calls in
    let sum = c.add.ensures in
    record { adds = adds_parts calls.result.now c.args.init calls.ensures.value calls.ensures.closed c.self.inside.items c.args.self.now c.add.new.self c.add.result c.self.view_is table_section (λ e. filled_of (c.args.ty, e)) IsCountedTable (filled_lawful c.args.ty) sum.count sum.bytes sum.written sum.err sum.refused }
