-- "Demand 3 in full", as one statement over every accepted source table, inputs, fuel and old memories.
use Rattle.std.specs.Prelude.{ℕ, ◌≤◌, false, List, ◌≢◌, ◌≡◌, length, Ok}
use Rattle.rules.specs.Sizes.{memory_length, observation_length}
use Rattle.rules.specs.Records.{record_count}
use Rattle.rules.specs.Kinds.{source, target}
use Rattle.rules.specs.Checker.{check, inputs_fault}
use Rattle.rules.specs.Nodes.{source_program}
use Rattle.rules.specs.Memory.{start_memory}
use Rattle.rules.specs.Flow.{Outcome, ending}
use Rattle.rules.specs.Plain.{start_variables}
use Rattle.rules.specs.Past.{PastState, run_past, at_first_false}
use Rattle.rules.specs.Observation.{mirror}
use Rattle.rules.specs.Translation.{translation}
use Rattle.rules.specs.Origins.{target_records, sum}
use Rattle.rules.specs.Layout.{memory_of, observation_image}
use Rattle.rules.specs.Answers.{is_in, refusals, PlainRun, WatchedRun, inputs_of, plain_ended, run_plain, run_watched}

-- "Take the source table run by these rules with one change": the run that goes on past false assertions
abbrev pub past_outcome : List ℕ → List ℕ → ℕ → Outcome PastState
past_outcome t i f = run_past (source_program t) start_variables (start_memory (inputs_of i)) f

-- what plain run p, watched run w of the translation, and the run that goes on past false assertions owe one another
pub record Agreement (t i : List ℕ) (f : ℕ) (p : PlainRun) (w : WatchedRun) : Type 0 where
  -- "The translation is refused by none of 1–8."
  pub accepted : check target (translation t) ≡ Ok tt
  -- "At most 14 target records come from each source record."; those of all source records are the whole translation
  pub bounded : (n : ℕ) → 1 ≤ n → n ≤ record_count t → target_records t n ≤ 14
  pub all-counted : sum (record_count t) (target_records t) ≡ record_count (translation t)
  -- "neither is refused"
  pub neither-refused : (is_in p.answer.number refusals ≡ false) × (is_in w.answer.number refusals ≡ false)
  -- the same ending, statement, fuel left, free cells, and execution memory byte for byte
  pub same_answer : w.answer ≡ p.answer
  pub same_memory : w.memory ≡ p.memory
  -- "Both runs end 33 at the first that is false, with fuel left and memory as then; with none, both end as this run does."
  pub first-false : p ≡ plain_ended (at_first_false (ending (past_outcome t i f)))
  -- "Live blocks, lengths and initialised cells are those of the plain run's execution memory": the observation memory
  -- names exactly these, but after 42 and 50, where a new block may have been made whose pointer could not be stored
  pub exact : (p.answer.number ≢ 42) × (p.answer.number ≢ 50)
      → w.observation ≡ observation_image (mirror (memory_of p.memory))
  -- "From translated programs 48 and 49 never come."
  pub never-48 : w.answer.number ≢ 48
  pub never-49 : w.answer.number ≢ 49

-- "One claim over every accepted source table, inputs and fuel, each run taken from its cleared start to its ending":
-- "Both get the same inputs and fuel, and memories of their own of the lengths that 21 and 22 ask"
abbrev pub Demand3 : Type 0
Demand3 =
    (t i : List ℕ) (f : ℕ) (memory memory₁ observation : List ℕ)
    → check source t ≡ Ok tt → inputs_fault i ≡ false
    → length memory ≡ memory_length → length memory₁ ≡ memory_length → length observation ≡ observation_length
    → Agreement t i f (run_plain t i f memory) (run_watched (translation t) i f memory₁ observation)
