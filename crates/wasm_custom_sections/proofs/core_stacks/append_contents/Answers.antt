use Rattle.std.proofs.Common.{◌≡◌, [], ◌∷◌, ◌++◌, refl, rules}
use Rattle.wasm_externals.specs.formats.Names.{name}
use Rattle.wasm_codec.proofs.AppendLaws.{appends_after, appends_more, appends_or_not, two}
use Rattle.wasm_custom_sections.proofs.CoreStackLaws.{stack_holds}
use Rattle.wasm_custom_sections.proofs.core_stacks.append_contents.Goals as goal

pub returns : goal.returns
returns g c =
    let item = c.args.item.now in
    let first : c.push_reserved.new.self.items ≡ c.args.sink.now.items ++ 0x00 ∷ [] = rw (← c.in_ok-reserve.ensures.items) c.push_reserved.ensures.items in
    let text = c.in_ok-append_name.ensures in
    let before = two c.args.sink.now.items (0x00 ∷ []) (name.bytes item.name.now) c.push_reserved.new.self.items c.append_name.new.sink.items first text.ok in
    let call = c.encode.ensures in
    appends_more refl (λ can. text.can) (λ can. tt) (λ can. stack_holds (record { name = item.name.now; frames = item.frames.now }) text.written) (appends_after _ (appends_or_not call.ok call.can call.written (search rules) call.err) before)
