use Rattle.std.proofs.Common.{◌≡◌, ◌+◌, ◌++◌, ◌∷◌, [], take, sym, subst, ap, ◌∙◌}
use Rattle.std.specs.List.{All}
use Rattle.std.proofs.lemmas.List.{take_more}
use Rattle.std.proofs.lemmas.List.Elements.{All-push}
use Rattle.wasm_lists.proofs.WrittenLists.{one_more}
use Rattle.wasm_lists.proofs.encode.lists.append_each.Goals as goal

pub loop-item-preserved : goal.loop-item-preserved
loop-item-preserved g c =
    let item = c.item-item.result in
    let before = take c.loop-item.item-index c.args.items.now in
    let longer : take (c.loop-item.item-index + 1) c.args.items.now ≡ before ++ item ∷ [] = take_more c.args.items.now c.loop-item.item-index item c.loop-item-test.true ∙ ap (λ e. before ++ e ∷ []) (sym c.item-item.is) in
    record {
      bytes = rw longer (one_more g.T.Encode.bytes c.args.sink.now.items [] before item _ _ c.loop-item.invariant.bytes c.in_ok-encode.ensures.ok);
      can = subst (All g.T.Encode.CanEncode) (sym longer) (All-push g.T.Encode.CanEncode before item c.loop-item.invariant.can c.in_ok-encode.ensures.can);
      written = subst (All g.T.Encode.IsWritten) (sym longer) (All-push g.T.Encode.IsWritten before item c.loop-item.invariant.written c.in_ok-encode.ensures.written);
    }
