-- How a statement comes out.
use Rattle.std.specs.Prelude.{ℕ, ◌-◌, true, false, Result, Ok, Err}
use Rattle.rules.specs.Flow.{Outcome, finished, ended}
use Rattle.rules.specs.Answers.{answer}
use Rattle.rules.specs.Types.{Test, stop_number}
use Rattle.rules.specs.declared.{Answer.Answer, Progress.Progress, Stop.Stop}
use Rattle.run_endings.specs.declared.Stopped.{Stopped}

-- with the fuel left where it finished; else why and at which statement it stopped, and the fuel left
abbrev pub Ended : Type 0
Ended = Result ℕ Stopped

abbrev pub stopped_at : Stop → ℕ → ℕ → Stopped
stopped_at c s f = record { stop = c; statement = s; fuel = f }

-- so an outcome of the rules
abbrev pub ended_of : {S : Type 0} → Outcome S → Ended
ended_of (finished x f) = Ok f
ended_of (ended c s ρ w x f) = Err (stopped_at c s f)

-- what a statement with a number of its own comes out with
abbrev pub concluded : Result Unit Stop → ℕ → ℕ → Ended
concluded (Ok u) s f = Ok f
concluded (Err c) s f = Err (stopped_at c s f)

-- after a while has taken its unit, and after statement n has come out so
abbrev pub after_turn : Progress → Progress
after_turn p = record { fuel = p.fuel - 1; statement = p.statement }

abbrev pub after_statement : {E : Type 0} → Progress → Result Unit E → ℕ → Progress
after_statement p (Ok u) n = p
after_statement p (Err c) n = record { fuel = p.fuel; statement = n }

-- how a run came out, by its progress
abbrev pub ended_with : Result Unit Stop → Progress → Ended
ended_with r p = concluded r p.statement p.fuel

-- "33 assertion false"
abbrev pub asserted_true : Test → Result Unit Stop
asserted_true (Ok true) = Ok tt
asserted_true (Ok false) = Err Stop.FalseAssertion
asserted_true (Err c) = Err c

-- "Endings return number, source statement, fuel left, free cells." "0 finished (statement 0)."
abbrev pub ended_answer : Ended → ℕ → Answer
ended_answer (Ok f) free = answer 0 0 f free
ended_answer (Err s) free = answer (stop_number s.stop) s.statement s.fuel free
