use Rattle.std.proofs.lemmas.Iterator.{YieldsList-from_slice}
use Rattle.std.proofs.lemmas.Iterator.Consumers.{YieldsList-at, YieldsList-from_copied}
use Rattle.callers.proofs.held_lists.function_of_slices.Goals as goal

pub returns : goal.returns
returns c = λ before stands. c.function.ensures before c.args.params.now c.args.results.now stands
    (YieldsList-from_copied (YieldsList-at c.copied.ensures.source (YieldsList-from_slice c.args.params.now c.iter.ensures.rest)))
    (YieldsList-from_copied (YieldsList-at c.copied-2.ensures.source (YieldsList-from_slice c.args.results.now c.iter-2.ensures.rest)))
