use Rattle.std.proofs.lemmas.Iterator.{YieldsList-from_slice}
use Rattle.std.proofs.lemmas.Iterator.Consumers.{YieldsList-at, YieldsList-from_copied}
use Rattle.callers.proofs.held_lists.function_of_locals.Goals as goal

pub returns : goal.returns
returns c = c.new.ensures.makes.2.stands c.args.locals.now (rw c.new.ensures.makes.1 (YieldsList-from_copied (YieldsList-at c.copied.ensures.source (YieldsList-from_slice c.args.locals.now c.iter.ensures.rest))))
