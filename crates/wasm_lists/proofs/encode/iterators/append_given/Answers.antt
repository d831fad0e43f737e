use Rattle.std.proofs.Common.{sym}
use Rattle.std.proofs.iter.Next.{Yields-more}
use Rattle.std.proofs.lemmas.Result.{err_from_is_err_and}
use Rattle.wasm_lists.proofs.WrittenLists.{item_refused}
use Rattle.wasm_lists.proofs.encode.iterators.append_given.Goals as goal

pub returns-in_err-encode-clause-refused : goal.returns-in_err-encode-clause-refused
returns-in_err-encode-clause-refused g c =
    let p = err_from_is_err_and c.from_residual.result c.from_residual.ensures.1 in
    let more = Yields-more g.I.Iterator.next_gives c.into_iter-item-iterator.result c.loop-item.yielded c.loop-item.item-iterator c.in-Some.item c.next.new.self c.loop-item.yielded_by c.in-Some.ensures.steps in
    rw (p.1, p.2, sym c.into_iter-item-iterator.ensures.into_iter_gives) (item_refused g.T.Encode.CanEncode g.T.Encode.refuses g.I.Iterator.next_gives _ c.next.new.self c.loop-item.yielded c.in-Some.item _ more c.in_err-encode.ensures.refused)
