use Rattle.std.proofs.Common.{rules}
use Rattle.wasm_codec.specs.Leb128.{unsigned_leb128}
use Rattle.wasm_codec.proofs.AppendLaws.{appends_after, appends_more, appends_or_not}
use Rattle.wasm_custom_sections.proofs.WrittenNameLaws.{indirect_are, indirect_written}
use Rattle.wasm_custom_sections.proofs.name_maps.append_indirect_naming.Goals as goal

pub returns : goal.returns
returns g c =
    let item = c.args.item.now in
    let call = rw c.as_slice.ensures.value at c.encode_list.ensures in
    appends_more (indirect_are item) (λ can. can) (λ can. can) (indirect_written item c.put_u32.ensures.minimal) (appends_after (unsigned_leb128 item.index) (appends_or_not call.ok call.can call.written (search rules) call.err) (rw (← c.in_ok-reserve.ensures.items) c.put_u32.ensures.items))
