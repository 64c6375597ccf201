-- Storing has no marks to clear, and what it finds is within the marks.
use Prim.Native.Nat.{ℕ}
use mathlib.Core.Path.{◌≡◌}
use mathlib.Core.List.{List}
use Rattle.std.specs.Prelude.{Some}
use Rattle.rules.specs.Observation.{mark_run, with_marks}
use Rattle.rules.specs.Layout.{observation_of}
use Rattle.rules.specs.declared.{Recorded.Recorded}
use Rattle.rules.proofs.Lists.RunLaws.{run-bound}
use Rattle.rules.proofs.Memory.ObservationOrder.{OrderlyObservation, mark_run-clear}
use Rattle.observation_blocks.specs.Changes.{ObservationBecomes, with_named}

pub ruleset runs = (run-bound)

-- the marks of the run that is found are 0, so the block's record is all that is written
pub becomes-stored : {l l' : List ℕ} (k first n : ℕ) → OrderlyObservation (observation_of l)
    → mark_run (observation_of l) n ≡ Some first
    → ObservationBecomes l l' (with_named (observation_of l) k (Recorded.Live first n))
    → ObservationBecomes l l' (with_marks (observation_of l) k (Recorded.Live first n) first n)
becomes-stored {l} k first n y e b = rw (mark_run-clear (observation_of l) n first y e) b
