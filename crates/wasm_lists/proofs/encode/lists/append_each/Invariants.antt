use Rattle.std.proofs.Common.{◌≡◌, ◌++◌, take}
use Rattle.std.specs.List.{All, flat_map}
use Rattle.wasm_lists.proofs.encode.lists.append_each.Given as goal

abbrev pub invariant-loop-item : goal.invariant-loop-item
invariant-loop-item g l = record {
  bytes : l.sink.items ≡ l.fn.sink.items ++ flat_map g.T.Encode.bytes (take l.item-index l.items);
  can : All g.T.Encode.CanEncode (take l.item-index l.items);
  written : All g.T.Encode.IsWritten (take l.item-index l.items);
}
