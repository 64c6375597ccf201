-- What a plain run's code asks, and what it answers, by the outcome of the rules.
use Rattle.std.specs.Prelude.{ℕ, ◌<◌, List, ◌≡◌, Result}
use Rattle.rules.specs.Records.{mark_of, child_a}
use Rattle.rules.specs.Kinds.{statement, source}
use Rattle.rules.specs.Memory.{Memory, end_block}
use Rattle.rules.specs.Evaluation.{Variables, extend}
use Rattle.rules.specs.Flow.{Outcome, finished, ending, into, next}
use Rattle.rules.specs.Plain.{run}
use Rattle.rules.specs.Layout.{memory_of}
use Rattle.rules.specs.declared.{Counts.Counts, Progress.Progress, Stop.Stop}
use Rattle.rules.proofs.Acceptance.Sound.{Scope, SoundStatement}
use Rattle.rules.specs.Nodes.{HasSort, statement_at}
use Rattle.table.specs.Within.{Within}
use Rattle.memory_counts.specs.Counted.{Counted}
use Rattle.memory_cells.specs.Changes.{Becomes}
use Rattle.run_endings.specs.Ending.{Ended, ended_of, ended_with}

-- statement n may run: it is a sound statement, its variables being in a scope
pub record Ready (t : List ℕ) (n : ℕ) : Type 0 where
  pub is : HasSort source statement t n
  pub scope : Scope
  pub sound : SoundStatement (statement_at t n) scope

-- child A of let n may run
pub record Inside (t : List ℕ) (n : ℕ) : Type 0 where
  pub within : Within t n
  pub smaller : child_a t n < n
  pub mark : mark_of t n < 64
  pub body : Ready t (child_a t n)

-- a let from where its block is made
abbrev pub enclosed : List ℕ → ℕ → Variables → Memory → ℕ → ℕ → Outcome Memory
enclosed t n ρ m f k =
    next (into 0 (run (statement_at t (child_a t n)) (extend ρ (mark_of t n) k) m f))
    (λ m₁ f₁. finished (end_block m₁ k) f₁)

-- how a run comes out, and its memory, are those of an outcome
pub record EndsSo (o : Outcome Memory) (r : Ended) (entry exit : List ℕ) : Type 0 where
  pub answer : r ≡ ended_of o
  pub memory : Becomes entry exit (ending o).state

-- and so by the result that the run answers and the progress that it leaves
abbrev pub Ran : Outcome Memory → Result Unit Stop → Progress → List ℕ → List ℕ → Type 0
Ran o r p entry exit = EndsSo o (ended_with r p) entry exit

-- counts that were right are right still
abbrev pub CountsKept : List ℕ → List ℕ → Type 0
CountsKept entry exit = (c : Counts) → Counted (memory_of entry) c → Counted (memory_of exit) c
