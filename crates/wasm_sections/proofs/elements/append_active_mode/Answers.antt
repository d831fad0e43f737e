use Rattle.std.proofs.Common.{◌∙◌, sym}
use Rattle.wasm_codec.specs.formats.Combinators.{u32}
use Rattle.wasm_codec.proofs.FormatLaws.{Lawful-u32}
use Rattle.wasm_lists.proofs.WrittenLists.{in_range_of}
use Rattle.wasm_sections.specs.SegmentBytes.{is_short}
use Rattle.wasm_sections.proofs.ElementLaws.{element_mode_fits, not_both, named_bytes, unnamed_bytes}
use Rattle.wasm_codec.proofs.AppendLaws.{appends_as}
use Rattle.wasm_sections.proofs.elements.append_active_mode.Goals as goal

pub returns-then-is_short : goal.returns-then-is_short
returns-then-is_short g c =
    let form = c.args.form in
    let table = c.args.table_index in
    let offset = c.args.offset.now in
    let short = sym c.is_short.ensures ∙ c.if-is_short.true in
    appends_as (unnamed_bytes form table offset short) (λ parts. element_mode_fits form table offset (λ no. absurd (not_both (is_short form) short no)) parts.1) c.append_table_and_offset.ensures

pub returns-else-is_short : goal.returns-else-is_short
returns-else-is_short g c =
    let form = c.args.form in
    let table = c.args.table_index in
    let offset = c.args.offset.now in
    appends_as (named_bytes form table offset (sym c.is_short.ensures ∙ c.if-is_short.false)) (λ parts. element_mode_fits form table offset (λ no. in_range_of u32 Lawful-u32 table parts.0) parts.1) c.append_table_and_offset-else-is_short.ensures
