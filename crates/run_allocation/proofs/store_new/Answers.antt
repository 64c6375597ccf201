use Rattle.run_changes.proofs.CountedChanges.{counted-stored}
use Rattle.run_allocation.proofs.store_new.Goals as goal

pub returns-clause-counts : goal.returns-clause-counts
returns-clause-counts c = counted-stored c.make.ensures.counts c.args.p _ c.store.ensures.memory
