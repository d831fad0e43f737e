use Rattle.std.proofs.Common.{◌≡◌, ◌++◌, ◌+◌, ◌*◌, ◌≤◌, length}
use Rattle.std.specs.Iterator.{size}
use Rattle.std.specs.List.{All, flat_map}
use Rattle.std.specs.Prelude.{vec_capacity, vec_len}
use Rattle.wasm_lists.proofs.encode.short.put_each.Given as goal

abbrev pub invariant-loop-item : goal.invariant-loop-item
invariant-loop-item g l =
    (goal.iterator-loop-item g).can_next l.item-iterator ×
    (goal.iterator-loop-item g).is_finite l.item-iterator ×
    (l.came ≡ length l.yielded) ×
    (l.came + (goal.iterator-loop-item g).remaining l.item-iterator ≤ size (g.I.Iterator.remaining l.fn.items)) ×
    (l.sink.items ≡ l.fn.sink.items ++ flat_map g.T.Encode.bytes l.yielded) ×
    (vec_len l.sink ≤ vec_len l.fn.sink + 7 * l.came) ×
    (vec_capacity l.sink ≡ vec_capacity l.fn.sink) ×
    All g.T.Encode.CanEncode l.yielded ×
    All g.T.Encode.IsWritten l.yielded
