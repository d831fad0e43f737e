use Rattle.std.proofs.Common.{◌≡◌, ◌++◌, ◌+◌, ◌*◌, ◌≤◌, length, vec_len, vec_capacity, true}
use Rattle.std.specs.List.{AllByRecursion, flat_map}
use Rattle.std.specs.Iterator.{size}
use Rattle.wasm_codec.proofs.MinimalIfLaws.{flag}
use Rattle.wasm_instructions.proofs.appenders.items.put_items.Given as goal

abbrev pub invariant-loop-item : goal.invariant-loop-item
invariant-loop-item g l =
    (goal.iterator-loop-item g).can_next l.item-iterator ×
    (goal.iterator-loop-item g).is_finite l.item-iterator ×
    (l.came ≡ length l.yielded) ×
    (l.came + (goal.iterator-loop-item g).remaining l.item-iterator ≤ size (g.I.Iterator.remaining l.fn.items)) ×
    (l.bytes.items ≡ l.fn.bytes.items ++ flat_map g.T.Item.encoding l.yielded) ×
    AllByRecursion g.T.Item.InRange l.yielded ×
    (flag g.row.FITS ≡ true → vec_len l.bytes + 11 * (goal.iterator-loop-item g).remaining l.item-iterator ≤ vec_capacity l.bytes)
