-- The watched run.
use Rattle.std.specs.Prelude.{ℕ, suc, List, [], ◌∷◌, get_or, set, replicate, Err, None, Ok, Some}
use Rattle.std.proofs.Math.Option.{Option, none, some}
use Rattle.rules.specs.Types.{Value, Evaluated, Found, Temporary}
use Rattle.rules.specs.Sizes.{temporary_count}
use Rattle.rules.specs.Trees.{Expression, Place}
use Rattle.rules.specs.TargetTrees.{TargetStatement, skip, assign, new, free, sequence, branch, while, let_in}
use Rattle.rules.specs.TargetTrees.{take_address, take_value, take_operation, take_query, take_not, branch_on}
use Rattle.rules.specs.TargetTrees.{assert_on}
use Rattle.rules.specs.TargetTrees as target
use Rattle.rules.specs.Memory.{Memory, Change, changed, stopped, change_in, fixed, made_in, make_block}
use Rattle.rules.specs.Memory.{end_block, assigned, allocated, freed, on_value}
use Rattle.rules.specs.Flow.{Outcome, finished, into, next, after, decide, turns, in_let}
use Rattle.rules.specs.Plain.{asserted}
use Rattle.rules.specs.Evaluation.{Variables, Holding, held, evaluate, find_place, address_of, operated, opposite}
use Rattle.rules.specs.Evaluation.{condition, extend}
use Rattle.rules.specs.Observation.{Observation, Noted, noted, refused, store_block, delete_block, initialise}
use Rattle.rules.specs.Observation.{live_record, query_observation}

-- "64 temporaries t0–t63, empty at first"
abbrev pub Temporaries : Type 0
Temporaries = List Temporary

abbrev pub start_temporaries : Temporaries
start_temporaries = replicate temporary_count None

abbrev pub temporary_of : Temporaries → Holding ℕ
temporary_of τ n = get_or τ n None

abbrev pub held_in : Temporaries → ℕ → Evaluated
held_in τ n = held (temporary_of τ n)

-- the statements that are children of a target statement, each in its place
abbrev pub target_parts : TargetStatement → List (Option TargetStatement)
target_parts (skip s) = []
target_parts (assign s p e) = []
target_parts (new s p e) = []
target_parts (free s e) = []
target_parts (sequence s a b) = some a ∷ some b ∷ []
target_parts (branch s e a b) = none ∷ some a ∷ some b ∷ []
target_parts (while s e b) = none ∷ some b ∷ []
target_parts (let_in s x b) = some b ∷ []
target_parts (take_address s n p) = []
target_parts (take_value s n e) = []
target_parts (take_operation s n o) = []
target_parts (take_query s n q) = []
target_parts (take_not s n) = []
target_parts (branch_on s n a b) = none ∷ some a ∷ some b ∷ []
target_parts (assert_on s n) = []
target_parts (target.store_block s n) = []
target_parts (target.delete_block s n) = []
target_parts (target.initialise s n) = []

-- both memories and the temporaries
pub record WatchedState : Type 0 where
  pub memory : Memory
  pub observation : Observation
  pub temporaries : Temporaries

abbrev pub watching : Memory → Observation → Temporaries → WatchedState
watching m o τ = record { memory = m; observation = o; temporaries = τ }

abbrev pub with_memory : WatchedState → Memory → WatchedState
with_memory x m = watching m x.observation x.temporaries

-- what an expression gives, and where a place leads, in a state
abbrev pub value_in : Expression ℕ → Variables → WatchedState → Evaluated
value_in e ρ x = evaluate e (temporary_of x.temporaries) ρ x.memory

abbrev pub place_in : Place ℕ → Variables → WatchedState → Found
place_in p ρ x = find_place p (temporary_of x.temporaries) ρ x.memory

-- what temporary n holds in a state
abbrev pub holding : WatchedState → ℕ → Evaluated
holding x n = held_in x.temporaries n

-- temporary n takes what evaluating gave
abbrev pub taken : WatchedState → ℕ → Evaluated → Change WatchedState
taken x n (Ok v) =
    changed (watching x.memory x.observation (set x.temporaries n (Some v)))
taken x n (Err c) = stopped c x

-- the observation memory takes what a call gave
abbrev pub observed : WatchedState → Noted → Change WatchedState
observed x (noted o) = changed (watching x.memory o x.temporaries)
observed x (refused c) = stopped c x

-- a call with one temporary, and with two: "49" for either, then "40"
abbrev pub called_on : Evaluated → (Value → Noted) → Noted
called_on e call = on_value e refused call

abbrev pub called_on_two : Evaluated → Evaluated → (Value → Value → Noted) → Noted
called_on_two a b call = on_value a refused (λ v. on_value b refused (λ w. call v w))

unfoldable pub watch : TargetStatement → Variables → WatchedState → ℕ → Outcome WatchedState
watch (skip s) ρ x f = finished x f
watch (assign s p e) ρ x f =
    after s ρ f (change_in (with_memory x) (assigned x.memory (place_in p ρ x) (value_in e ρ x)))
watch (new s p e) ρ x f =
    after s ρ f (change_in (with_memory x) (allocated x.memory (place_in p ρ x) (value_in e ρ x)))
watch (free s e) ρ x f = after s ρ f (change_in (with_memory x) (freed x.memory (value_in e ρ x)))
watch (sequence s a b) ρ x f = next (into 0 (watch a ρ x f)) (λ x₁ f₁. into 1 (watch b ρ x₁ f₁))
watch (branch s e a b) ρ x f =
    decide s ρ (condition (value_in e ρ x)) x f (into 1 (watch a ρ x f)) (into 2 (watch b ρ x f))
watch (while s e b) ρ x f =
    turns f s ρ (λ x₁. condition (value_in e ρ x₁)) (λ x₁ f₁. into 1 (watch b ρ x₁ f₁)) x f
watch (let_in s y b) ρ x f =
    in_let s ρ x f (made_in (with_memory x) (make_block x.memory fixed 1))
    (λ x₁ k. with_memory x₁ (end_block x₁.memory k))
    (λ k x₁ f₁. into 0 (watch b (extend ρ y k) x₁ f₁))
watch (take_address s n p) ρ x f = after s ρ f (taken x n (address_of (place_in p ρ x)))
watch (take_value s n e) ρ x f = after s ρ f (taken x n (value_in e ρ x))
watch (take_operation s n q) ρ x f =
    after s ρ f (taken x n (operated (live_record x.observation) q (holding x (suc n)) (holding x (suc (suc n)))))
watch (take_query s n q) ρ x f =
    after s ρ f (taken x n (on_value (holding x (suc n)) Err (query_observation q x.observation)))
watch (take_not s n) ρ x f = after s ρ f (taken x n (on_value (holding x (suc n)) Err opposite))
watch (branch_on s n a b) ρ x f =
    decide s ρ (condition (holding x n)) x f (into 1 (watch a ρ x f)) (into 2 (watch b ρ x f))
watch (assert_on s n) ρ x f = after s ρ f (asserted x (condition (holding x n)))
watch (target.store_block s n) ρ x f =
    after s ρ f (observed x (called_on_two (holding x n) (holding x (suc n)) (store_block x.observation)))
watch (target.delete_block s n) ρ x f = after s ρ f (observed x (called_on (holding x n) (delete_block x.observation)))
watch (target.initialise s n) ρ x f = after s ρ f (observed x (called_on (holding x n) (initialise x.observation)))
