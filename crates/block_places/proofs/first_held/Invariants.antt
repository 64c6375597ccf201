-- The places so far are free.
use Rattle.std.proofs.Common.{◌≡◌, true, ℕ, ◌≤◌, ◌<◌}
use Rattle.block_places.proofs.first_held.Given as goal

abbrev pub invariant-loop-place : goal.invariant-loop-place
invariant-loop-place g l =
    (l.from ≤ l.place) × ((k : ℕ) → l.from ≤ k → k < l.place → g.P.Places.free l.places k ≡ true)
