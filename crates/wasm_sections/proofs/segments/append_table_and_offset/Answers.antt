use Rattle.std.proofs.Common.{◌≡◌, ◌++◌, append_assoc}
use Rattle.std.specs.Prelude.{is_some}
use Rattle.wasm_codec.specs.Leb128.{unsigned_leb128}
use Rattle.wasm_codec.specs.formats.Combinators.{u32}
use Rattle.wasm_externals.specs.formats.PartCombinators.{part_if}
use Rattle.wasm_externals.specs.formats.Expressions.{expr}
use Rattle.wasm_codec.proofs.AppendLaws.{appends_after, appends_as, appends_or_not, two}
use Rattle.wasm_sections.proofs.segments.append_table_and_offset.Goals as goal

pub returns : goal.returns
returns g c =
    let form = unsigned_leb128 c.args.form in
    let index = (part_if (is_some c.args.index) u32).bytes c.args.index in
    let first : c.put_u32.new.bytes.items ≡ c.args.sink.now.items ++ form = rw (← c.in_ok-reserve.ensures.items) c.put_u32.ensures.items in
    let before = two c.args.sink.now.items form index c.put_u32.new.bytes.items c.put_u32_if.new.bytes.items first c.put_u32_if.ensures.items in
    let call = c.encode_expr.ensures in
    appends_as (append_assoc form index (expr.bytes c.args.offset.now)) (λ offset. (c.put_u32_if.ensures.minimal, offset)) (appends_after _ (appends_or_not call.ok call.can call.written call.refused call.err) before)
