-- Small programs that tell right from wrong where people err: plain and watched, with inputs 7, 9.
use Rattle.std.specs.Prelude.{ℕ, List, [], ◌∷◌, ◌++◌, pos, take}
use Rattle.rules.specs.Records.{Record, table_bytes}
use Rattle.rules.specs.Nodes.{source_program}
use Rattle.rules.specs.Memory.{Memory, block_of, start_memory}
use Rattle.rules.specs.Observation.{Observation, record_of}
use Rattle.rules.specs.Flow.{Ending, ending}
use Rattle.rules.specs.Plain.{run, start_variables}
use Rattle.rules.specs.Watched.{WatchedState, watch}
use Rattle.rules.specs.Translation.{translate, translation}
use Rattle.rules.specs.Layout.{block_bytes, recorded_bytes}
use Rattle.rules.specs.Answers.{ending_answer, watched_start, watched_outcome, watched_ended}
use Rattle.rules.specs.Cases.{inputs, of, literal, stop, five, let_five, p5, p6, p7, p9, of_all}

-- a program's plain run, and the watched run of its translation
unfoldable pub plainly : List Record → Ending Memory
plainly rs = ending (run (source_program (table_bytes rs)) start_variables (start_memory (pos 7 ∷ pos 9 ∷ [])) 0)

unfoldable pub watchedly : List Record → Ending WatchedState
watchedly rs =
    ending (watch (translate (source_program (table_bytes rs))) start_variables (watched_start (pos 7 ∷ pos 9 ∷ [])) 0)

-- number and statement of both endings
unfoldable pub stops : List Record → List ℕ
stops rs = stop (ending_answer (λ m. m) (plainly rs)) ++ stop (ending_answer (λ x. x.memory) (watchedly rs))

-- and of the watched run's, from the translation's bytes on
unfoldable pub read_back : List Record → List ℕ
read_back rs = stop (watched_ended (ending (watched_outcome (translation (table_bytes rs)) inputs 0))).answer

-- "reporting 33 where 41 stops the evaluation": in a fresh let, assert x = 1
abbrev pub undecided : List Record
undecided =
    five ∷ of 2 1 0 ∷ of 20 2 0 ∷ literal (pos 1) ∷ of 20 4 0 ∷ of_all 32 7 3 5 0 (pos 0) ∷ of 48 6 0 ∷ let_five 7 ∷ []

-- a later assertion that is false: assert 1 = 1, then assert 0 = 1
abbrev pub later : List Record
later =
    literal (pos 1) ∷ of 20 1 0 ∷ literal (pos 1) ∷ of 20 3 0 ∷ of_all 32 7 2 4 0 (pos 0) ∷ of 48 5 0
    ∷ literal (pos 0) ∷ of 20 7 0 ∷ literal (pos 1) ∷ of 20 9 0 ∷ of_all 32 7 8 10 0 (pos 0) ∷ of 48 11 0
    ∷ of 44 6 12 ∷ []

-- p takes a new cell, which is freed, and then *p = 5
abbrev pub dangling : List Record
dangling =
    five ∷ literal (pos 1) ∷ of 42 1 2 ∷ five ∷ of 2 4 0 ∷ of 43 5 0
    ∷ five ∷ of 2 7 0 ∷ of 11 8 0 ∷ literal (pos 5) ∷ of 41 9 10 ∷ of 44 6 11 ∷ of 44 3 12 ∷ let_five 13 ∷ []

-- p takes a new cell, which is freed
abbrev pub freed_block : List Record
freed_block = five ∷ literal (pos 1) ∷ of 42 1 2 ∷ five ∷ of 2 4 0 ∷ of 43 5 0 ∷ of 44 3 6 ∷ let_five 7 ∷ []

-- the states of blocks 3, the let's, and 4, the new one
abbrev pub states : Memory → List ℕ
states m = take 1 (block_bytes (block_of m 3)) ++ take 1 (block_bytes (block_of m 4))

abbrev pub recorded_states : Observation → List ℕ
recorded_states o = take 1 (recorded_bytes (record_of o 3)) ++ take 1 (recorded_bytes (record_of o 4))

abbrev pub watched_states : WatchedState → List ℕ
watched_states x = states x.memory ++ recorded_states x.observation

-- P5: the inputs are recorded; P6: valid is not initialised; P7: *p is marked where it was before the store; P9: a dead
-- name is not given again
unfoldable pub told : List (List ℕ)
told =
    stops (p5 (pos 0))
    ∷ stops p6
    ∷ stops p7
    ∷ states (plainly p9).state
    ∷ stops undecided
    ∷ (stops later ++ read_back later)
    ∷ stops dangling
    ∷ (states (plainly freed_block).state ++ watched_states (watchedly freed_block).state)
    ∷ []

unfoldable pub right : List (List ℕ)
right =
    (0 ∷ 0 ∷ 0 ∷ 0 ∷ [])
    ∷ (0 ∷ 0 ∷ 0 ∷ 0 ∷ [])
    ∷ (0 ∷ 0 ∷ 0 ∷ 0 ∷ [])
    ∷ (3 ∷ 3 ∷ [])
    ∷ (41 ∷ 7 ∷ 41 ∷ 7 ∷ [])
    ∷ (33 ∷ 12 ∷ 33 ∷ 12 ∷ 33 ∷ 12 ∷ [])
    ∷ (42 ∷ 11 ∷ 42 ∷ 11 ∷ [])
    ∷ (3 ∷ 3 ∷ 3 ∷ 3 ∷ 2 ∷ 2 ∷ [])
    ∷ []
