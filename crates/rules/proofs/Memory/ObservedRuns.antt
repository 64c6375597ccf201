-- The observation memory is in order after every watched run, of hand-made target statements too, whatever its ending.
use Prim.Native.Nat.{ℕ}
use mathlib.Core.List.{List}
use lib.ListN.{length}
use Rattle.rules.specs.TargetTrees.{TargetStatement}
use Rattle.rules.specs.Nodes.{target_program}
use Rattle.rules.specs.Evaluation.{Variables}
use Rattle.rules.specs.Observation.{start_observation}
use Rattle.rules.specs.Flow.{ending}
use Rattle.rules.specs.Plain.{start_variables}
use Rattle.rules.specs.Watched.{WatchedState, watch}
use Rattle.rules.specs.Answers.{inputs_of, watched_start, watched_outcome}
use Rattle.rules.proofs.Memory.ObservationOrder.{OrderlyObservation, empty-orderly, orderly-calls}
use Rattle.rules.proofs.Memory.ObservationKept.{start_observation-keeps, watch-keeps-observation}

pub watch-keeps-order : (a : TargetStatement) (ρ : Variables) (x : WatchedState) (f : ℕ)
    → OrderlyObservation x.observation → OrderlyObservation (ending (watch a ρ x f)).state.observation
watch-keeps-order = watch-keeps-observation OrderlyObservation orderly-calls

pub start-in-order : (n : ℕ) → OrderlyObservation (start_observation n)
start-in-order = start_observation-keeps OrderlyObservation orderly-calls empty-orderly

-- from the start to the ending
pub observed-in-order : (t i : List ℕ) (f : ℕ)
    → OrderlyObservation (ending (watched_outcome t i f)).state.observation
observed-in-order t i f =
    watch-keeps-order (target_program t) start_variables (watched_start (inputs_of i)) f
    (start-in-order (length (inputs_of i)))
