use Rattle.std.proofs.Common.{◌≡◌, map, take}
use Rattle.wasm_custom_sections.specs.MappedNames.{mapped_indirect_naming}
use Rattle.wasm_custom_sections.proofs.names.indices.map_items.Given as goal

abbrev pub invariant-loop-item : goal.invariant-loop-item
invariant-loop-item g l = l.copies.items ≡ map (mapped_indirect_naming (g.M.Renumbering.new_indices l.indices l.space)) (take l.item-index l.items)
