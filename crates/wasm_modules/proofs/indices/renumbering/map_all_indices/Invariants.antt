use Rattle.std.proofs.Common.{◌≡◌, map, take}
use Rattle.wasm_modules.proofs.indices.renumbering.map_all_indices.Given as goal

abbrev pub invariant-loop-value : goal.invariant-loop-value
invariant-loop-value g l = l.copies.items ≡ map (g.T.MapIndices.mapped (g.M.Renumbering.new_indices l.indices)) (take l.value-index l.values)
