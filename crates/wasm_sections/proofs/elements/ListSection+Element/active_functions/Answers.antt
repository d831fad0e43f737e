use Rattle.wasm_sections.specs.declared.elements.Elements.TheVariants as held
use Rattle.wasm_sections.proofs.ItemLaws.{adds_elements}
use Rattle.wasm_sections.proofs.elements.ListSection+Element.active_functions.Goals as goal

pub returns : goal.returns
returns c =
    let calls = c.as_slice-instructions in
    let sum = c.add.ensures in
    record { adds = adds_elements calls.result.now c.args.offset calls.ensures.value calls.ensures.closed c.self.inside.items c.args.self.now c.add.new.self c.add.result c.self.view_is c.args.table_index (held.Functions c.args.functions.now) sum.count sum.bytes sum.written sum.err sum.refused }
