-- "Demand 3 in full": "the source table run by these rules with one change: a 48 works its predicate out on the
-- execution memory and goes on even at 0."
use Rattle.std.specs.Prelude.{ℕ, List, [], ◌∷◌, ◌++◌, Err, Ok, true, false}
use Rattle.rules.specs.Types.{Test}
use Rattle.rules.specs.Trees.{Statement}
use Rattle.rules.specs.Memory.{Memory, Change, changed, stopped, change_in, made_in}
use Rattle.rules.specs.Evaluation.{Variables, evaluate_predicate, condition}
use Rattle.rules.specs.Flow.{Outcome, Ending, Meaning, run_by}
use Rattle.rules.specs.Plain.{plain_meaning}

-- "it is false then if its predicate gives 0, and not false if working the predicate out ends the run"
pub data Verdict : Type 0 where
  holds fails undecided : Verdict

-- "Each time this run comes to a 48, that assertion is reached": its statement, and memory and fuel as then
pub data Reached : Type 0 where
  reached : Verdict → ℕ → Memory → ℕ → Reached

-- the memory, and the assertions reached so far, in order
pub record PastState : Type 0 where
  pub memory : Memory
  pub assertions : List Reached

abbrev pub with_memory : PastState → Memory → PastState
with_memory x m = record { memory = m; assertions = x.assertions }

abbrev pub reach : PastState → Reached → PastState
reach x r = record { memory = x.memory; assertions = x.assertions ++ (r ∷ []) }

-- the one change: all else is as in the plain run
abbrev pub asserted_past : ℕ → PastState → ℕ → Test → Change PastState
asserted_past s x f (Ok true) = changed (reach x (reached holds s x.memory f))
asserted_past s x f (Ok false) = changed (reach x (reached fails s x.memory f))
asserted_past s x f (Err c) = stopped c (reach x (reached undecided s x.memory f))

abbrev pub past_meaning : Meaning PastState
past_meaning = record {
  assigns = λ p e ρ x. change_in (with_memory x) (plain_meaning.assigns p e ρ x.memory);
  allocates = λ p e ρ x. change_in (with_memory x) (plain_meaning.allocates p e ρ x.memory);
  frees = λ e ρ x. change_in (with_memory x) (plain_meaning.frees e ρ x.memory);
  asserts = λ s p ρ x f. asserted_past s x f (condition (evaluate_predicate p ρ x.memory));
  decides = λ e ρ x. plain_meaning.decides e ρ x.memory;
  makes = λ x. made_in (with_memory x) (plain_meaning.makes x.memory);
  ends = λ x k. with_memory x (plain_meaning.ends x.memory k);
}

abbrev pub run_past : Statement → Variables → Memory → ℕ → Outcome PastState
run_past a ρ m f = run_by past_meaning a ρ (record { memory = m; assertions = [] }) f

-- "Both runs end 33 at the first that is false, with fuel left and memory as then; with none, both end as this run does."
abbrev pub up_to : List Reached → Ending Memory → Ending Memory
up_to [] e = e
up_to (reached holds s m f ∷ l) e = up_to l e
up_to (reached fails s m f ∷ l) e = record { number = 33; statement = s; state = m; fuel = f }
up_to (reached undecided s m f ∷ l) e = up_to l e

abbrev pub at_first_false : Ending PastState → Ending Memory
at_first_false e =
    up_to e.state.assertions
    (record { number = e.number; statement = e.statement; state = e.state.memory; fuel = e.fuel })
