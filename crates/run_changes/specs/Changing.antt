-- The changes that a statement makes.
use Rattle.std.specs.Prelude.{ℕ, List, ◌≡◌, Result, Ok, Err, MatchResult, IsErrAnd}
use Rattle.rules.specs.Memory.{Memory, Change}
use Rattle.rules.specs.declared.{Stop.Stop}
use Rattle.memory_cells.specs.Changes.{Becomes, change_result, change_memory}

-- what a change answers, and the memory after it
pub record Does (x : Change Memory) (r : Result Unit Stop) (entry exit : List ℕ) : Type 0 where
  pub result : r ≡ change_result x
  pub memory : Becomes entry exit (change_memory x)

-- so, where errors are of another type: a stop goes out as what its conversion gives
pub record DoesAs {E : Type 0} (gives : Stop → E → Type 0) (x : Change Memory) (r : Result Unit E) (entry exit : List ℕ)
    : Type 0 where
  pub result : MatchResult (change_result x) (λ u. r ≡ Ok u) (λ k. IsErrAnd r (gives k))
  pub memory : Becomes entry exit (change_memory x)

-- P of what was given; an error in its place goes out as it is, and nothing changes
abbrev pub IfGiven : {X E : Type 0} → Result X E → (X → Type 0) → Result Unit E → List ℕ → List ℕ → Type 0
IfGiven (Ok x) P r entry exit = P x
IfGiven (Err k) P r entry exit = (r ≡ Err k) × (exit ≡ entry)
