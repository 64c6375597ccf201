-- Demand 3 for every sound source tree, inputs and fuel.
use Prim.Native.Nat.{ℕ, ◌≤◌}
use native.Mathlib.Omega.{arith}
use mathlib.Core.Bool.{false}
use mathlib.Core.Path.{◌≡◌, refl, sym}
use mathlib.Core.Logic.{◌≢◌}
use mathlib.Core.List.{List}
use lib.IntN.{ℤ}
use lib.ListN.{length, length-replicate}
use Rattle.std.specs.Prelude.{None}
use Rattle.rules.specs.Types.{stop_number, Temporary}
use Rattle.rules.specs.Sizes.{input_limit}
use Rattle.rules.specs.Trees.{Statement}
use Rattle.rules.specs.TargetTrees.{TargetStatement}
use Rattle.rules.specs.Memory.{Memory, start_memory}
use Rattle.rules.specs.Observation.{mirror}
use Rattle.rules.specs.Flow.{Outcome, Ending, ending}
use Rattle.rules.specs.Plain.{run, start_variables}
use Rattle.rules.specs.Past.{PastState, run_past, at_first_false}
use Rattle.rules.specs.Watched.{WatchedState, watch, start_temporaries}
use Rattle.rules.specs.Translation.{translate}
use Rattle.rules.specs.Answers.{is_in, refusals, plain_endings, ending_answer, watched_start}
use Rattle.rules.proofs.Acceptance.Sound.{Scope, SoundStatement}
use Rattle.rules.proofs.Lists.Among.{among_none, among-not}
use Rattle.rules.proofs.Runs.PastRun.{past_is}
use Rattle.rules.proofs.Runs.Endings.{EndsAmong, run-endings}
use Rattle.rules.proofs.Simulation.StatementSteps.{Agree, both-finish, both_end}
use Rattle.rules.proofs.Simulation.Simulation.{simulates}
use Rattle.rules.proofs.Claim.Start.{start-invariant}
use Rattle.rules.proofs.Claim.StartObservation.{start-mirrors}
use Rattle.rules.proofs.Memory.Orderly.{Orderly, plain-orderly, watched-orderly}

-- a plain and a watched run come out alike
pub record Same (p : Ending Memory) (w : Ending WatchedState) : Type 0 where
  pub same_answer : ending_answer (λ m. m) p ≡ ending_answer (λ x. x.memory) w
  pub same_memory : p.state ≡ w.state.memory
  pub unrefused : (is_in p.number refusals ≡ false) × (is_in w.number refusals ≡ false)
  pub mirrors : (p.number ≢ 42) × (p.number ≢ 50) → w.state.observation ≡ mirror p.state
  pub no-contradiction : (w.number ≢ 48) × (w.number ≢ 49)

same_of : {p : Outcome Memory} {w : Outcome WatchedState} → Agree p w → EndsAmong plain_endings p
    → Same (ending p) (ending w)
same_of (both-finish e l) c = record {
  same_answer = refl;
  same_memory = refl;
  unrefused = (refl, refl);
  mirrors = λ d. e;
  no-contradiction = (omega arith, omega arith);
}
same_of (both_end {c = n} h) c = record {
  same_answer = refl;
  same_memory = refl;
  unrefused = let u = among_none plain_endings refusals (stop_number n) refl c in (u, u);
  mirrors = h;
  no-contradiction = (
    among-not plain_endings (stop_number n) 48 refl c,
    among-not plain_endings (stop_number n) 49 refl c,
  );
}

-- the runs of a source tree, and a target tree's
abbrev pub plain_from : Statement → List ℤ → ℕ → Outcome Memory
plain_from a is f = run a start_variables (start_memory is) f

abbrev pub past_from : Statement → List ℤ → ℕ → Outcome PastState
past_from a is f = run_past a start_variables (start_memory is) f

abbrev pub watched_from : TargetStatement → List ℤ → ℕ → Outcome WatchedState
watched_from a is f = watch a start_variables (watched_start is) f

pub up-to-first-false : (a : Statement) (is : List ℤ) (f : ℕ)
    → ending (plain_from a is f) ≡ at_first_false (ending (past_from a is f))
up-to-first-false a is f = sym (past_is a start_variables (start_memory is) f)

pub runs_same : (a : Statement) (σ : Scope) (is : List ℤ) (f : ℕ) → SoundStatement a σ → 1 ≤ length is
    → length is ≤ input_limit
    → Same (ending (plain_from a is f)) (ending (watched_from (translate a) is f))
runs_same a σ is f d h le =
    rw (start-mirrors is h le)
    (same_of
    (simulates a σ start_variables (start_memory is) start_temporaries f d (start-invariant is le)
    (length-replicate {A = Temporary} 64 None))
    (run-endings a start_variables (start_memory is) f))

-- what holds of the execution memory after a run, of the translation or of any other target statement
pub plain-keeps : (a : Statement) (is : List ℤ) (f : ℕ) → length is ≤ input_limit
    → Orderly (start_memory is) (ending (plain_from a is f)).state
plain-keeps a is f le = plain-orderly a start_variables (start_memory is) f (start-invariant is le)

pub watched-keeps : (a : TargetStatement) (is : List ℤ) (f : ℕ) → length is ≤ input_limit
    → Orderly (start_memory is) (ending (watched_from a is f)).state.memory
watched-keeps a is f le = watched-orderly a start_variables (watched_start is) f (start-invariant is le)
