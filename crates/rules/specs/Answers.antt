-- What each entry point answers: number, values and every lent buffer, of what went in.
use Rattle.std.specs.Prelude.{ℕ, zero, suc, ◌/◌, Bool, false, ◌||◌, List, [], ◌∷◌, eqb, ℤ, length, drop, Err, Ok}
use Rattle.rules.specs.Types.{Checked, Answer, Refusal, Rule, rule_number}
use Rattle.rules.specs.Words.{put, integer_at}
use Rattle.rules.specs.Records.{record_count}
use Rattle.rules.specs.Kinds.{source, target}
use Rattle.rules.specs.Checker.{refuse_if, ◌otherwise◌, check, inputs_fault, output_fault, memory_fault}
use Rattle.rules.specs.Checker.{observation_fault}
use Rattle.rules.specs.Nodes.{source_program, target_program}
use Rattle.rules.specs.Memory.{Memory, start_memory, count_free}
use Rattle.rules.specs.Observation.{start_observation}
use Rattle.rules.specs.Flow.{Outcome, Ending, ending}
use Rattle.rules.specs.Plain.{run, start_variables}
use Rattle.rules.specs.Watched.{WatchedState, watching, watch, start_temporaries}
use Rattle.rules.specs.Translation.{translation}
use Rattle.rules.specs.Layout.{memory_image, observation_image}

-- `record` is the refused record, the source statement of an ending, or a translation's record count
abbrev pub answer : ℕ → ℕ → ℕ → ℕ → Answer
answer k n fuel free = record { number = k; «record» = n; fuel = fuel; free_cells = free }

-- is a number one of a list
abbrev pub is_in : ℕ → List ℕ → Bool
is_in k [] = false
is_in k (j ∷ js) = eqb k j || is_in k js

-- the numbers of what is turned away: 1 to 9 because of table and inputs, 20 to 22 because of another lent buffer
abbrev pub refusals : List ℕ
refusals = 1 ∷ 2 ∷ 3 ∷ 4 ∷ 5 ∷ 6 ∷ 7 ∷ 8 ∷ 9 ∷ 20 ∷ 21 ∷ 22 ∷ []

-- what an operator or a query can stop with: "40 wrong sort of value. .. 43 overflow. 44 zero divisor. .. 47 base, offset
-- or length of a block not live", and by 02 §4 the comparison of a pointer into one
abbrev pub operation_endings : List ℕ
operation_endings = 40 ∷ 43 ∷ 44 ∷ 47 ∷ []

-- what evaluating can stop with: these, and at a cell "41 undefined cell read. 42 cell in a dead block" and 02 §2: "50,
-- offset outside a live block"
abbrev pub evaluation_endings : List ℕ
evaluation_endings = 41 ∷ 42 ∷ 50 ∷ operation_endings

-- what a run can end with beside 0: these, and "30 no run of free cells long enough. 31 all names given. 32 fuel is 0 at
-- a while test. 33 assertion false. .. 45 size below 1. 46 free of a pointer to anything but the first cell of a live
-- freeable block."
abbrev pub plain_endings : List ℕ
plain_endings = 30 ∷ 31 ∷ 32 ∷ 33 ∷ 45 ∷ 46 ∷ evaluation_endings

-- what evaluating with temporaries can stop with: "49 empty temporary" too
abbrev pub temporary_endings : List ℕ
temporary_endings = 49 ∷ evaluation_endings

-- what a watched run can end with beside 0: "48 observation call that contradicts the record" and 49 too
abbrev pub watched_endings : List ℕ
watched_endings = 48 ∷ 49 ∷ plain_endings

-- "The checker answers 0 with record 0 for an accepted table." "Numbers 1–22 return the number and record (0 where none)"
abbrev pub checked_answer : Checked → Answer
checked_answer (Ok u) = answer 0 0 0 0
checked_answer (Err r) = answer (rule_number r.rule) r.«record» 0 0

abbrev pub check_source : List ℕ → Answer
check_source t = checked_answer (check source t)

abbrev pub check_target : List ℕ → Answer
check_target t = checked_answer (check target t)

-- a translation's answer and its lent output
pub record Translated : Type 0 where
  pub answer : Answer
  pub out : List ℕ

-- "A translation returns 0 and its record count; bytes past it stay."
abbrev pub translated_as : Checked → List ℕ → List ℕ → Translated
translated_as (Err r) bytes out = record { answer = answer (rule_number r.rule) r.«record» 0 0; out = out }
translated_as (Ok u) bytes out = record { answer = answer 0 (record_count bytes) 0 0; out = put out 0 bytes }

-- 20 is tried where the checker of the table refuses nothing
abbrev pub translated_by : Checked → List ℕ → List ℕ → Translated
translated_by c t out =
    let bytes = translation t in
    translated_as (c otherwise refuse_if Rule.Output (output_fault bytes out)) bytes out

abbrev pub translate_source : List ℕ → List ℕ → Translated
translate_source t out = translated_by (check source t) t out

-- the inputs' numbers: n of them, and all
abbrev pub numbers_in : ℕ → List ℕ → List ℤ
numbers_in zero i = []
numbers_in (suc n) i = integer_at i 0 ∷ numbers_in n (drop 8 i)

abbrev pub inputs_of : List ℕ → List ℤ
inputs_of i = numbers_in (length i / 8) i

-- "Endings return number, source statement, fuel left, free cells."
abbrev pub ending_answer : {S : Type 0} → (S → Memory) → Ending S → Answer
ending_answer memory e = answer e.number e.statement e.fuel (count_free (memory e.state).cells)

-- a plain run's answer and its lent memory
pub record PlainRun : Type 0 where
  pub answer : Answer
  pub memory : List ℕ

abbrev pub plain_refused : Refusal → List ℕ → PlainRun
plain_refused r memory = record { answer = answer (rule_number r.rule) r.«record» 0 0; memory = memory }

-- "A run clears both memories": what the memory held before counts for nothing
abbrev pub plain_outcome : List ℕ → List ℕ → ℕ → Outcome Memory
plain_outcome t i f = run (source_program t) start_variables (start_memory (inputs_of i)) f

abbrev pub plain_ended : Ending Memory → PlainRun
plain_ended e = record { answer = ending_answer (λ m. m) e; memory = memory_image e.state }

abbrev pub plain_as : Checked → List ℕ → List ℕ → ℕ → List ℕ → PlainRun
plain_as (Err r) t i f memory = plain_refused r memory
plain_as (Ok u) t i f memory = plain_ended (ending (plain_outcome t i f))

-- 9 and 21, in this order, where the checker refuses nothing
abbrev pub plain_by : Checked → List ℕ → List ℕ → ℕ → List ℕ → PlainRun
plain_by c t i f memory =
    plain_as (c otherwise refuse_if Rule.Inputs (inputs_fault i)
    otherwise refuse_if Rule.Memory (memory_fault memory)) t i f memory

abbrev pub run_plain : List ℕ → List ℕ → ℕ → List ℕ → PlainRun
run_plain t i f memory = plain_by (check source t) t i f memory

-- the same of a watched run
pub record WatchedRun : Type 0 where
  pub answer : Answer
  pub memory : List ℕ
  pub observation : List ℕ

abbrev pub watched_refused : Refusal → List ℕ → List ℕ → WatchedRun
watched_refused r memory observation =
    record { answer = answer (rule_number r.rule) r.«record» 0 0; memory = memory; observation = observation }

abbrev pub watched_start : List ℤ → WatchedState
watched_start inputs = watching (start_memory inputs) (start_observation (length inputs)) start_temporaries

abbrev pub watched_outcome : List ℕ → List ℕ → ℕ → Outcome WatchedState
watched_outcome t i f = watch (target_program t) start_variables (watched_start (inputs_of i)) f

abbrev pub watched_ended : Ending WatchedState → WatchedRun
watched_ended e = record {
  answer = ending_answer (λ x. x.memory) e;
  memory = memory_image e.state.memory;
  observation = observation_image e.state.observation;
}

abbrev pub watched_as : Checked → List ℕ → List ℕ → ℕ → List ℕ → List ℕ → WatchedRun
watched_as (Err r) t i f memory observation = watched_refused r memory observation
watched_as (Ok u) t i f memory observation = watched_ended (ending (watched_outcome t i f))

-- 9, 21 and 22
abbrev pub watched_by : Checked → List ℕ → List ℕ → ℕ → List ℕ → List ℕ → WatchedRun
watched_by c t i f memory observation =
    watched_as
    (c otherwise refuse_if Rule.Inputs (inputs_fault i) otherwise refuse_if Rule.Memory (memory_fault memory)
    otherwise refuse_if Rule.Observation (observation_fault observation))
    t i f memory observation

abbrev pub run_watched : List ℕ → List ℕ → ℕ → List ℕ → List ℕ → WatchedRun
run_watched t i f memory observation = watched_by (check target t) t i f memory observation
