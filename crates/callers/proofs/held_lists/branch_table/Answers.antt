use Rattle.std.proofs.Common.{rules}
use Rattle.std.proofs.lemmas.Iterator.{YieldsList-from_slice}
use Rattle.std.proofs.lemmas.Iterator.Consumers.{YieldsList-at, YieldsList-from_copied}
use Rattle.callers.proofs.held_lists.branch_table.Goals as goal

pub returns : goal.returns
returns c =
    let wrote = c.in_ok-code.ensures.emits.2.stands c.args.labels.now (rw c.in_ok-code.ensures.emits.1 (YieldsList-from_copied (YieldsList-at c.copied.ensures.source (YieldsList-from_slice c.args.labels.now c.iter.ensures.rest)))) in
    search (rules)
