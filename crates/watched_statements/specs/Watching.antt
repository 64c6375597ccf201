-- What a watched run's code asks, and what it answers, by the outcome of the rules.
use Rattle.std.specs.Prelude.{ℕ, ◌<◌, List, ◌≢◌, ◌≡◌, Result}
use Rattle.rules.specs.Records.{mark_of, child_a}
use Rattle.rules.specs.Kinds.{statement, target}
use Rattle.rules.specs.Memory.{end_block}
use Rattle.rules.specs.Flow.{Outcome, finished, ending, into, next}
use Rattle.rules.specs.Evaluation.{Variables, extend}
use Rattle.rules.specs.TargetTrees.{TargetStatement}
use Rattle.rules.specs.Watched.{WatchedState, watching, with_memory, watch}
use Rattle.rules.specs.Layout.{memory_of, observation_of}
use Rattle.rules.specs.Answers.{WatchedRun}
use Rattle.rules.specs.declared.{Answer.Answer, Counts.Counts, MarkOwners.MarkOwners, Stop.Stop}
use Rattle.rules.proofs.Acceptance.Sound.{Scope, SoundTarget}
use Rattle.rules.specs.Nodes.{HasSort, target_statement_at, number_at}
use Rattle.rules.proofs.Memory.MarkOwners.{MarksOwned}
use Rattle.table.specs.Within.{Within}
use Rattle.memory_counts.specs.Counted.{Counted}
use Rattle.memory_cells.specs.Changes.{Becomes}
use Rattle.observation.specs.Calls.{ObservationBecomes}
use Rattle.evaluation_temporaries.specs.Bytes.{temporaries_of}
use Rattle.run_endings.specs.Ending.{Ended, ended_of, concluded}

-- the bytes that a run changes: both memories and the temporaries
pub record Lent : Type 0 where
  pub memory : List ℕ
  pub observation : List ℕ
  pub temporaries : List ℕ

abbrev pub lent : List ℕ → List ℕ → List ℕ → Lent
lent m o τ = record { memory = m; observation = o; temporaries = τ }

-- what the bytes stand for, and a run from there
abbrev pub state_of : Lent → WatchedState
state_of x = watching (memory_of x.memory) (observation_of x.observation) (temporaries_of x.temporaries)

abbrev pub watch_from : TargetStatement → Variables → Lent → ℕ → Outcome WatchedState
watch_from s ρ x f = watch s ρ (state_of x) f

-- what a run keeps beside the memories is right: the counts of the one, and the owners of the other's marks
pub record Beside (memory observation : List ℕ) (counts : Counts) (owners : MarkOwners) : Type 0 where
  pub counted : Counted (memory_of memory) counts
  pub owned : MarksOwned (observation_of observation) owners

-- statement n may run: it is a sound statement, its variables being in a scope
pub record Ready (t : List ℕ) (n : ℕ) : Type 0 where
  pub is : HasSort target statement t n
  pub scope : Scope
  pub sound : SoundTarget (target_statement_at t n) scope

-- child A of let n may run
pub record Inside (t : List ℕ) (n : ℕ) : Type 0 where
  pub within : Within t n
  pub smaller : child_a t n < n
  pub mark : mark_of t n < 64
  pub body : Ready t (child_a t n)

-- a let from where its block is made
abbrev pub enclosed : List ℕ → ℕ → Variables → Lent → ℕ → ℕ → Outcome WatchedState
enclosed t n ρ x f k =
    next (into 0 (watch_from (target_statement_at t (child_a t n)) (extend ρ (mark_of t n) k) x f))
    (λ y g. finished (with_memory y (end_block y.memory k)) g)

-- a run's result and bytes are those of an outcome
pub record Ran (o : Outcome WatchedState) (r : Ended) (entry exit : Lent) : Type 0 where
  pub answer : r ≡ ended_of o
  pub memory : Becomes entry.memory exit.memory (ending o).state.memory
  pub observation : ObservationBecomes entry.observation exit.observation (ending o).state.observation
  pub temporaries : temporaries_of exit.temporaries ≡ (ending o).state.temporaries

-- statement n ran, with the variables ρ and fuel f
abbrev pub Runs : List ℕ → ℕ → Variables → ℕ → Ended → Lent → Lent → Type 0
Runs t n ρ f r x y = Ran (watch_from (target_statement_at t n) ρ x f) r x y

-- the kinds without a statement for a child
abbrev pub IsAct : ℕ → Type 0
IsAct k = (k ≢ 44) × (k ≢ 45) × (k ≢ 46) × (k ≢ 47) × (k ≢ 66)

-- statement n, which runs no other, answered r; its fuel stays
abbrev pub Acts : List ℕ → ℕ → Variables → Result Unit Stop → Lent → Lent → Type 0
Acts t n ρ r x y = (f : ℕ) → Runs t n ρ f (concluded r (number_at t n) f) x y

-- what a run from empty temporaries leaves, which nobody sees after it
pub record Leaves (o : Outcome WatchedState) (r : Ended) (mem mem₁ obs obs₁ : List ℕ) : Type 0 where
  pub answer : r ≡ ended_of o
  pub memory : Becomes mem mem₁ (ending o).state.memory
  pub observation : ObservationBecomes obs obs₁ (ending o).state.observation

-- an entry's answer and its lent memories are those of a watched run
pub record AnsweredBy (x : WatchedRun) (r : Answer) (m o : List ℕ) : Type 0 where
  pub answer : r ≡ x.answer
  pub memory : m ≡ x.memory
  pub observation : o ≡ x.observation
