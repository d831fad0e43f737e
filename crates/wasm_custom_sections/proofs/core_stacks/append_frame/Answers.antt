use Rattle.std.proofs.Common.{◌≡◌, [], ◌∷◌, ◌++◌, append_assoc}
use Rattle.wasm_codec.specs.Leb128.{unsigned_leb128}
use Rattle.wasm_codec.specs.Lists.{items_bytes}
use Rattle.wasm_codec.proofs.AppendLaws.{appends_after, appends_more, four, list_appends, two}
use Rattle.wasm_custom_sections.specs.formats.CoreStacks.{core_frame, core_value, frame_of}
use Rattle.wasm_custom_sections.proofs.CoreStackLaws.{frame_written}
use Rattle.wasm_custom_sections.proofs.core_stacks.append_frame.Goals as goal

pub returns : goal.returns
unfolding core_frame
returns g c =
    let item = c.args.item.now in
    let first : c.push_reserved.new.self.items ≡ c.args.sink.now.items ++ 0x00 ∷ [] = rw (← c.in_ok-reserve.ensures.items) c.push_reserved.ensures.items in
    let numbers = four c.args.sink.now.items (0x00 ∷ []) (unsigned_leb128 item.instance_index) (unsigned_leb128 item.function_index) (unsigned_leb128 item.code_offset) c.push_reserved.new.self.items c.put_u32.new.bytes.items c.put_u32-2.new.bytes.items c.put_u32-3.new.bytes.items first c.put_u32.ensures.items c.put_u32-2.ensures.items c.put_u32-3.ensures.items in
    let locals = c.in_ok-encode_list.ensures in
    let before = two c.args.sink.now.items _ (items_bytes core_value.bytes item.locals.now) c.put_u32-3.new.bytes.items c.encode_list.new.sink.items numbers locals.ok in
    let call = c.encode_list-2.ensures in
    appends_more (simp append_assoc) (λ can. (locals.can.0, can)) (λ both. both.1)
    (λ can list. frame_written (frame_of (item.instance_index, (item.function_index, (item.code_offset, (item.locals.now, item.stack.now))))) c.put_u32.ensures.minimal c.put_u32-2.ensures.minimal c.put_u32-3.ensures.minimal locals.can.0 locals.written list.0 list.1)
    (appends_after _ (list_appends item.stack.now call.ok call.can call.written call.refused call.err) before)
