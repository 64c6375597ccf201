-- The answer that a translation's result comes to.
use Rattle.std.specs.Prelude.{ℕ, Result, Ok, Err}
use Rattle.rules.specs.Types.{rule_number}
use Rattle.rules.specs.Answers.{answer}
use Rattle.rules.specs.declared.Answer.{Answer}
use Rattle.rules.specs.declared.Rule.{Rule}

-- "A translation returns 0 and its record count"; "Numbers 1–22 return the number and record (0 where none)"
abbrev pub translated_answer : Result ℕ Rule → Answer
translated_answer (Ok n) = answer 0 n 0 0
translated_answer (Err rule) = answer (rule_number rule) 0 0 0
