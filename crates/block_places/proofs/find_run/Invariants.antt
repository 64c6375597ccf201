-- No run of free places that is long enough begins below the start.
use Rattle.std.proofs.Common.{◌+◌, ◌-◌}
use Rattle.rules.proofs.Lists.RunLaws.{NoRunBelow}
use Rattle.block_places.proofs.find_run.Given as goal

abbrev pub invariant-loop-start : goal.invariant-loop-start
invariant-loop-start g l = NoRunBelow (g.P.Places.free l.places) l.n l.start

abbrev pub decreases-loop-start : goal.decreases-loop-start
decreases-loop-start g l = l.last + 1 - l.start
