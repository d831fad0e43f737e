use Rattle.std.proofs.Common.{refl}
use Rattle.wasm_codec.specs.Leb128.{unsigned_leb128}
use Rattle.wasm_codec.proofs.AppendLaws.{appends_after, appends_as, list_appends}
use Rattle.wasm_custom_sections.specs.formats.BranchHints.{function_hints}
use Rattle.wasm_custom_sections.proofs.HintLaws.{hints_written}
use Rattle.wasm_custom_sections.proofs.branch_hints.append_hints.Goals as goal

pub returns : goal.returns
unfolding function_hints
returns g c =
    let item = c.args.item.now in
    let call = c.encode_list.ensures in
    appends_as refl (λ list. hints_written item.function_index item.hints.now c.put_u32.ensures.minimal list.0 list.1) (appends_after (unsigned_leb128 item.function_index) (list_appends item.hints.now call.ok call.can call.written call.refused call.err) (rw (← c.in_ok-reserve.ensures.items) c.put_u32.ensures.items))
