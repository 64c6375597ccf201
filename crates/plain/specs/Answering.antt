-- What the entry of a plain run answers.
use Rattle.std.specs.Prelude.{ℕ, List, ◌≡◌}
use Rattle.rules.specs.Answers.{PlainRun}
use Rattle.rules.specs.declared.{Answer.Answer}

-- an entry's answer and its lent memory are those of a plain run
pub record AnsweredBy (x : PlainRun) (r : Answer) (exit : List ℕ) : Type 0 where
  pub answer : r ≡ x.answer
  pub memory : exit ≡ x.memory
