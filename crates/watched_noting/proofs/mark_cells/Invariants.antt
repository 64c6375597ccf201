-- The cells below i are marked.
use Rattle.rules.specs.Observation.{mark_all}
use Rattle.rules.specs.Layout.{observation_of}
use Rattle.observation.specs.Calls.{ObservationBecomes}
use Rattle.watched_noting.proofs.mark_cells.Given as goal

abbrev pub invariant-loop-i : goal.invariant-loop-i
invariant-loop-i l = ObservationBecomes l.fn.obs l.obs (mark_all (observation_of l.fn.obs) l.fn.name l.i)
