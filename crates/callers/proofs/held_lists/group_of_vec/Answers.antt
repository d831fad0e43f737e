use Rattle.std.proofs.Common.{rules}
use Rattle.std.proofs.lemmas.Iterator.Adapters.{YieldsList-from_vec}
use Rattle.callers.proofs.held_lists.group_of_vec.Goals as goal

pub returns : goal.returns
returns c = λ before stands. c.group.ensures before c.args.types.items stands (YieldsList-from_vec c.args.types.items c.into_iter.ensures.rest (search (rules)))
