use Rattle.wasm_code.specs.formats.CodeBodies.{local_group}
use Rattle.wasm_modules.proofs.SkippingLaws.{Passing}
use Rattle.wasm_modules.proofs.order.data_uses.skip_locals.Given as goal

abbrev pub invariant-loop-index : goal.invariant-loop-index
invariant-loop-index l = record {
  passing : Passing local_group l.fn.cursor l.cursor l.count l._index;
}
