-- What the calls keep of the observation memory, every watched run of any target statement keeps, a hand-made one too,
-- whatever its ending; and it holds at a run's start.
use Prim.Native.Nat.{ℕ, zero, suc, ◌≤◌}
use lib.IntN.{pos}
use Rattle.rules.specs.Types.{Value, Evaluated}
use Rattle.rules.specs.TargetTrees.{TargetStatement}
use Rattle.rules.specs.Memory.{Memory, Change, change_in, fixed, make_block, assigned, allocated, freed}
use Rattle.rules.specs.Evaluation.{Variables, address_of, condition}
use Rattle.rules.specs.Observation.{Observation, Noted, noted, refused, store_block, initialise, kept, pointer_to}
use Rattle.rules.specs.Observation.{record_block, mark_all, empty_observation, start_observation}
use Rattle.rules.specs.Flow.{ending}
use Rattle.rules.specs.Watched.{WatchedState, with_memory, value_in, place_in, holding, taken, observed, watch}
use Rattle.rules.proofs.Runs.Keeping.{AnyNumber, AnyValue, AnyState, AnyMade, any-test, any-evaluated}
use Rattle.rules.proofs.Runs.Keeping.{any-change}
use Rattle.rules.proofs.Runs.Keeping.{any-made, ChangeKeeps}
use Rattle.rules.proofs.Runs.Outcomes.{AnyBlock, staying, outcomes-state, change-in, made_in_lem}
use Rattle.rules.proofs.Runs.TargetRuns.{NotedKeeps, WatchKeeps, watch-reaches, taken-keeps, observed-keeps}
use Rattle.rules.proofs.Runs.TargetRuns.{operating, querying, negating, storing, deleting, initialising}
use Rattle.rules.proofs.Runs.Calls.{CallsKeep, store_block-keeps, initialise-keeps, store-called, delete-called}
use Rattle.rules.proofs.Runs.Calls.{initialise-called}

-- nothing is asked of the execution memory and the temporaries
abbrev Observing : (Observation → Type 0) → WatchedState → Type 0
Observing O x = O x.observation

-- a call that is refused leaves the memory as it is
pub kept-keeps : (O : Observation → Type 0) (o : Observation) (x : Noted) → O o → NotedKeeps O AnyNumber x
    → O (kept o x)
kept-keeps O o (noted o₁) h k = k
kept-keeps O o (refused c) h k = h

module _ (O : Observation → Type 0) (v : CallsKeep O) where
  -- the start, whatever the number of inputs
  record_block-keeps : (o : Observation) (k n : ℕ) → O o → O (record_block o k n)
  record_block-keeps o k n h =
      kept-keeps O o (store_block o (pointer_to k 0) (Value.Integer (pos n))) h
      (store_block-keeps O AnyNumber tt tt o (pointer_to k 0) (Value.Integer (pos n))
      (λ j l first. v.storing o j first (suc l) h))

  mark_all-keeps : (o : Observation) (k n : ℕ) → O o → O (mark_all o k n)
  unfolding mark_all
  mark_all-keeps o k zero h = h
  mark_all-keeps o k (suc n) h =
      let f : O (mark_all o k n) = mark_all-keeps o k n h in
      kept-keeps O (mark_all o k n) (initialise (mark_all o k n) (pointer_to k n)) f
      (initialise-keeps O AnyNumber tt tt (mark_all o k n) (pointer_to k n)
      (λ p i. v.marking (mark_all o k n) p i f))

  pub start_observation-keeps : O empty_observation → (n : ℕ) → O (start_observation n)
  start_observation-keeps h n =
      mark_all-keeps (record_block (mark_all (record_block empty_observation 1 1) 1 1) 2 n) 2 n
      (record_block-keeps (mark_all (record_block empty_observation 1 1) 1 1) 2 n
      (mark_all-keeps (record_block empty_observation 1 1) 1 1 (record_block-keeps empty_observation 1 1 h)))

  -- a statement that calls nothing, and one that calls
  changes : (x : WatchedState) (c : Change Memory) → O x.observation
      → ChangeKeeps (Observing O) AnyNumber (change_in (with_memory x) c)
  changes x c h = change-in AnyState (Observing O) AnyNumber (with_memory x) c (λ m j. h) (any-change c)

  takes : (x : WatchedState) (n : ℕ) (e : Evaluated) → O x.observation
      → ChangeKeeps (Observing O) AnyNumber (taken x n e)
  takes x n e h = taken-keeps (Observing O) AnyNumber AnyValue x n e h (any-evaluated e) (λ w g. h)

  notes : (x : WatchedState) (r : Noted) → O x.observation → NotedKeeps O AnyNumber r
      → ChangeKeeps (Observing O) AnyNumber (observed x r)
  notes x r h k = observed-keeps (Observing O) AnyNumber O x r h k (λ o j. j)

  watch-keeps : WatchKeeps (Observing O) (λ x y. Observing O y) AnyBlock AnyNumber
  watch-keeps = record {
    onwards = staying (Observing O);
    assigns = λ p e ρ x h. changes x (assigned x.memory (place_in p ρ x) (value_in e ρ x)) h;
    allocates = λ p e ρ x h. changes x (allocated x.memory (place_in p ρ x) (value_in e ρ x)) h;
    frees = λ e ρ x h. changes x (freed x.memory (value_in e ρ x)) h;
    takes-address = λ n p ρ x h. takes x n (address_of (place_in p ρ x)) h;
    takes-value = λ n e ρ x h. takes x n (value_in e ρ x) h;
    takes-operation = λ n q x h. takes x n (operating q n x) h;
    takes-query = λ n q x h. takes x n (querying q n x) h;
    takes-not = λ n x h. takes x n (negating n x) h;
    stores = λ n x h.
        notes x (storing n x) h
        (store-called O AnyNumber tt tt x.observation (holding x n) (holding x (suc n))
        (any-evaluated (holding x n)) (any-evaluated (holding x (suc n)))
        (λ k l first. v.storing x.observation k first (suc l) h));
    deletes = λ n x h.
        notes x (deleting n x) h
        (delete-called O AnyNumber tt tt x.observation (holding x n) (any-evaluated (holding x n))
        (λ k first l. v.deleting x.observation k first l h));
    initialises = λ n x h.
        notes x (initialising n x) h
        (initialise-called O AnyNumber tt tt x.observation (holding x n) (any-evaluated (holding x n))
        (λ p i. v.marking x.observation p i h));
    decides = λ e ρ x h. any-test (condition (value_in e ρ x));
    decides-on = λ n x h. any-test (condition (holding x n));
    makes = λ x h.
        made_in_lem AnyMade (λ k y. Unit {0} × Observing O y) AnyNumber (with_memory x) (make_block x.memory fixed 1)
        (λ k m u. (tt, h)) (any-made (make_block x.memory fixed 1));
    ends = λ x y k g r. r;
    out-of-fuel = tt;
    false-assertion = tt;
  }

  pub watch-keeps-observation : (a : TargetStatement) (ρ : Variables) (x : WatchedState) (f : ℕ) → O x.observation
      → O (ending (watch a ρ x f)).state.observation
  watch-keeps-observation a ρ x f h =
      (outcomes-state (λ y g. Observing O y × (g ≤ f)) AnyNumber (watch a ρ x f) (watch-reaches watch-keeps a ρ x f h)).0
