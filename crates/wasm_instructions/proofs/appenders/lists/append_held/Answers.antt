use Rattle.std.proofs.Common.{ap, ◌∙◌}
use Rattle.std.specs.Slice.Iter.{iter_rest}
use Rattle.wasm_codec.specs.Lists.{items_bytes}
use Rattle.wasm_instructions.specs.Appending.{list_bytes}
use Rattle.wasm_instructions.proofs.HeldLists.{held}
use Rattle.wasm_instructions.proofs.appenders.lists.append_held.Goals as goal

pub returns-clause-ok : goal.returns-clause-ok
returns-clause-ok g c =
    (held g.T.Item.InRange (λ xs. list_bytes c.args.op c.args.before (items_bytes g.T.Item.encoding xs) c.args.after) c.copied.result c.args.items.now c.args.bytes.now.items c.append_list_call.new.bytes.items c.append_list_call.result
    (ap iter_rest c.copied.ensures.source ∙ c.iter.ensures.rest) c.append_list_call.ensures.ok).ok

pub returns-clause-counted : goal.returns-clause-counted
returns-clause-counted g c =
    (held g.T.Item.InRange (λ xs. list_bytes c.args.op c.args.before (items_bytes g.T.Item.encoding xs) c.args.after) c.copied.result c.args.items.now c.args.bytes.now.items c.append_list_call.new.bytes.items c.append_list_call.result
    (ap iter_rest c.copied.ensures.source ∙ c.iter.ensures.rest) c.append_list_call.ensures.ok).counted

pub returns-clause-fits : goal.returns-clause-fits
returns-clause-fits g c =
    (held g.T.Item.InRange (λ xs. list_bytes c.args.op c.args.before (items_bytes g.T.Item.encoding xs) c.args.after) c.copied.result c.args.items.now c.args.bytes.now.items c.append_list_call.new.bytes.items c.append_list_call.result
    (ap iter_rest c.copied.ensures.source ∙ c.iter.ensures.rest) c.append_list_call.ensures.ok).fits
