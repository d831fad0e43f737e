use Rattle.std.proofs.Common.{◌≤◌, ◌+◌, ◌++◌, ◌∷◌, [], take}
use Rattle.wasm_encoder.specs.CodeSections.{AreGroups}
use Rattle.wasm_encoder.proofs.code.group_from.Given as goal

abbrev pub invariant-loop-ty : goal.invariant-loop-ty
invariant-loop-ty l = record {
  groups : AreGroups (l.groups.items ++ (l.count, l.last) ∷ []) (l.fn.first ∷ take l.ty-index l.others);
  few : l.count ≤ l.ty-index + 1;
}
