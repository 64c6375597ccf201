-- What a run's outcome and progress tell of how it came out.
use Prim.Native.Nat.{ℕ}
use mathlib.Core.Path.{◌≡◌, refl}
use Rattle.std.specs.Prelude.{Result, Ok, Err}
use Rattle.rules.specs.Memory.{Memory, count_free}
use Rattle.rules.specs.Flow.{Outcome, finished, ended, ending}
use Rattle.rules.specs.Answers.{ending_answer}
use Rattle.rules.specs.declared.{Progress.Progress, Stop.Stop}
use Rattle.run_endings.specs.Ending.{concluded, after_statement, ended_with, ended_of, ended_answer}

-- the end of statement n
pub ended-statement : (p : Progress) (r : Result Unit Stop) (n : ℕ)
    → ended_with r (after_statement p r n) ≡ concluded r n p.fuel
ended-statement p (Ok u) n = refl
ended-statement p (Err c) n = refl

-- the answer of an outcome
pub ended-answers : {S : Type 0} (memory : S → Memory) (o : Outcome S)
    → ending_answer memory (ending o) ≡ ended_answer (ended_of o) (count_free (memory (ending o).state).cells)
ended-answers memory (finished x f) = refl
ended-answers memory (ended c s ρ w x f) = refl
