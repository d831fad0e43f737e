use Rattle.wasm_sections.specs.SegmentBytes.{active_functions}
use Rattle.wasm_sections.proofs.ElementLaws.{element_parts, element_written}
use Rattle.wasm_codec.proofs.AppendLaws.{appends_after, appends_more}
use Rattle.wasm_sections.proofs.elements.append_active_functions.Goals as goal

pub returns : goal.returns
returns g c =
    let element = active_functions c.args.segment.now in
    let mode = c.in_ok-append_active_mode.ensures in
    let form = c.number_of_functions-form.result in
    let short = c.is_short.result in
    appends_more (element_parts element form short c.number_of_functions-form.ensures c.is_short.ensures) (λ can. (mode.can, can)) (λ both. both.1) (λ can. element_written element form short c.number_of_functions-form.ensures c.is_short.ensures mode.written) (appends_after _ c.append_functions.ensures mode.ok)
