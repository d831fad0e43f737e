use Rattle.std.proofs.Common.{◌≡◌, map, take}
use Rattle.wasm_modules.proofs.indices.renumbering.map_each.Given as goal

abbrev pub invariant-loop-index : goal.invariant-loop-index
invariant-loop-index g l = l.copies.items ≡ map (g.M.Renumbering.new_indices l.indices l.space) (take l.index-index l.list)
