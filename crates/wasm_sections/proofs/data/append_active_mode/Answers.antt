use Rattle.wasm_codec.specs.formats.Combinators.{u32}
use Rattle.wasm_codec.proofs.FormatLaws.{Lawful-u32}
use Rattle.std.proofs.Common.{arith}
use Rattle.std.proofs.lemmas.Bool.{ne_eqb}
use Rattle.wasm_lists.proofs.WrittenLists.{in_range_of}
use Rattle.wasm_sections.proofs.SegmentLaws.{data_mode_fits, first_memory_bytes, other_memory_bytes}
use Rattle.wasm_codec.proofs.AppendLaws.{appends_as}
use Rattle.wasm_sections.proofs.data.append_active_mode.Goals as goal

pub returns-then-memory_index-eq0 : goal.returns-then-memory_index-eq0
returns-then-memory_index-eq0 g c =
    let memory = c.args.memory_index in
    let offset = c.args.offset.now in
    appends_as (first_memory_bytes memory offset c.if-memory_index-eq0.true) (λ parts. data_mode_fits memory offset (omega (arith, c.if-memory_index-eq0.true)) parts.1) c.append_table_and_offset.ensures

pub returns-else-memory_index-eq0 : goal.returns-else-memory_index-eq0
returns-else-memory_index-eq0 g c =
    let memory = c.args.memory_index in
    let offset = c.args.offset.now in
    appends_as (other_memory_bytes memory offset (ne_eqb memory 0 c.if-memory_index-eq0.false)) (λ parts. data_mode_fits memory offset (in_range_of u32 Lawful-u32 memory parts.0) parts.1) c.append_table_and_offset-else-memory_index-eq0.ensures
