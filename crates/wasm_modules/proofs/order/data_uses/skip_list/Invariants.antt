use Rattle.wasm_modules.proofs.SkippingLaws.{Passing}
use Rattle.wasm_modules.proofs.order.data_uses.skip_list.Given as goal

abbrev pub invariant-loop-index : goal.invariant-loop-index
invariant-loop-index g l = record {
  passing : Passing g.T.Readable.format l.fn.cursor l.cursor l.count l._index;
}
