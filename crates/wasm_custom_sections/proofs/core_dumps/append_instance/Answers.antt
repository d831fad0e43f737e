use Rattle.std.proofs.Common.{◌≡◌, [], ◌∷◌, ◌++◌, append_assoc}
use Rattle.wasm_codec.specs.Leb128.{unsigned_leb128}
use Rattle.wasm_codec.specs.Lists.{items_bytes}
use Rattle.wasm_codec.proofs.AppendLaws.{appends_after, appends_more, list_appends, three}
use Rattle.wasm_custom_sections.specs.formats.CoreDumps.{core_instance, instance_of}
use Rattle.wasm_custom_sections.proofs.CoreDumpLaws.{instance_written}
use Rattle.wasm_custom_sections.proofs.core_dumps.append_instance.Goals as goal

pub returns : goal.returns
unfolding core_instance
returns g c =
    let item = c.args.item.now in
    let first : c.push_reserved.new.self.items ≡ c.args.sink.now.items ++ 0x00 ∷ [] = rw (← c.in_ok-reserve.ensures.items) c.push_reserved.ensures.items in
    let memories = c.in_ok-encode_list.ensures in
    let before = three c.args.sink.now.items (0x00 ∷ []) (unsigned_leb128 item.module_index) (items_bytes unsigned_leb128 item.memories.now) c.push_reserved.new.self.items c.put_u32.new.bytes.items c.encode_list.new.sink.items first c.put_u32.ensures.items memories.ok in
    let call = c.encode_list-2.ensures in
    appends_more (simp append_assoc) (λ can. (memories.can.0, can)) (λ both. both.1) (λ can list. instance_written (instance_of (item.module_index, (item.memories.now, item.globals.now))) c.put_u32.ensures.minimal memories.can.0 memories.written list.0 list.1)
    (appends_after _ (list_appends item.globals.now call.ok call.can call.written call.refused call.err) before)
