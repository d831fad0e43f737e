use Rattle.std.proofs.Common.{◌≡◌, map, take}
use Rattle.wasm_custom_sections.specs.MappedNames.{mapped_naming}
use Rattle.wasm_custom_sections.proofs.names.indices.map_names.Given as goal

abbrev pub invariant-loop-naming : goal.invariant-loop-naming
invariant-loop-naming g l = l.copies.items ≡ map (mapped_naming (g.M.Renumbering.new_indices l.indices l.space)) (take l.naming-index l.names)
