use Rattle.std.specs.Prelude.{◌≡◌}
use Rattle.wasm_codec.proofs.ListRewriting.{ListGoing}
use Rattle.wasm_lists.proofs.rewriting.rewrite_whole_list.Given as goal

abbrev pub invariant-loop-index : goal.invariant-loop-index
invariant-loop-index g l = ListGoing g.T.Rewritable.format l.fn.rewriter.place.left l.rewriter l.count l.index × (l.rewriter.rest ≡ l.fn.rewriter.rest)
