-- What a change answers and leaves.
use Rattle.std.specs.Prelude.{◌≡◌, ℕ, List, Result, Ok, Err}
use Rattle.rules.specs.declared.Stop.{Stop}
use Rattle.rules.specs.Observation.{Noted, noted, refused, kept}
use Rattle.rules.specs.Layout.{observation_of}
pub use Rattle.observation_blocks.specs.Changes.{ObservationBecomes}

-- what a changing call answers
abbrev pub noted_result : Noted → Result Unit Stop
noted_result (noted o) = Ok tt
noted_result (refused k) = Err k

pub record Answers (entry exit : List ℕ) (r : Result Unit Stop) (n : Noted) : Type 0 where
  pub answer : r ≡ noted_result n
  pub memory : ObservationBecomes entry exit (kept (observation_of entry) n)
