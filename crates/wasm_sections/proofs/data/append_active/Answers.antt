use Rattle.wasm_sections.specs.SegmentBytes.{active_parts}
use Rattle.wasm_sections.proofs.SegmentLaws.{data_bytes_are, data_written}
use Rattle.wasm_codec.proofs.AppendLaws.{appends_after, appends_more, appends_or_not, count_refused}
use Rattle.wasm_sections.proofs.data.append_active.Goals as goal

pub returns : goal.returns
returns g c =
    let segment = active_parts c.args.segment.now in
    let mode = c.in_ok-append_active_mode.ensures in
    let bytes = c.encode_bytes.ensures in
    appends_more (data_bytes_are segment.mode segment.data_bytes) (λ can. (mode.can, can)) (λ both. both.1) (λ can. data_written segment mode.written c.are_bytes.ensures) (appends_after _ (appends_or_not bytes.ok bytes.can bytes.can (count_refused _ _ bytes.refused) bytes.err) mode.ok)
