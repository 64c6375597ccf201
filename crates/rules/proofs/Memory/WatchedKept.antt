-- A watched run of any target statement, a hand-made one too, keeps the execution memory's invariant.
use Prim.Native.Nat.{ℕ, ◌≤◌}
use Rattle.rules.specs.Types.{Evaluated}
use Rattle.rules.specs.TargetTrees.{TargetStatement}
use Rattle.rules.specs.Memory.{Memory, Change, change_in, fixed, make_block, assigned, allocated, freed}
use Rattle.rules.specs.Evaluation.{Variables, address_of, condition}
use Rattle.rules.specs.Observation.{Noted, noted, refused}
use Rattle.rules.specs.Flow.{ending}
use Rattle.rules.specs.Watched.{WatchedState, with_memory, value_in, place_in, holding, taken, observed, watch}
use Rattle.rules.proofs.Runs.Keeping.{AnyNumber, AnyValue, any-test, any-evaluated, ChangeKeeps}
use Rattle.rules.proofs.Runs.Outcomes.{outcomes-state, change-in, made_in_lem}
use Rattle.rules.proofs.Runs.TargetRuns.{WatchKeeps, watch-reaches, taken-keeps}
use Rattle.rules.proofs.Runs.TargetRuns.{operating, querying, negating, storing, deleting, initialising}
use Rattle.rules.proofs.Memory.Invariant.{Invariant, Onward, onward-itself, onward_then}
use Rattle.rules.proofs.Memory.BlockChanges.{onward-end}
use Rattle.rules.proofs.Memory.Changes.{change-kept, Given, onward-assigned, onward-made, onward-allocated}
use Rattle.rules.proofs.Memory.Changes.{onward-freed}
use Rattle.rules.proofs.Memory.PlainKept.{WasUnused}

-- of the execution memory alone
abbrev Sound : WatchedState → Type 0
Sound x = Invariant x.memory

abbrev Onto : WatchedState → WatchedState → Type 0
Onto x y = Onward x.memory y.memory

abbrev Unused : WatchedState → ℕ → Type 0
Unused x k = WasUnused x.memory k

changes : (x : WatchedState) (c : Change Memory) → ChangeKeeps (Onward x.memory) AnyNumber c
    → ChangeKeeps (Onto x) AnyNumber (change_in (with_memory x) c)
changes x c h = change-in (Onward x.memory) (Onto x) AnyNumber (with_memory x) c (λ m j. j) h

takes : (x : WatchedState) (n : ℕ) (e : Evaluated) → Sound x → ChangeKeeps (Onto x) AnyNumber (taken x n e)
takes x n e v =
    taken-keeps (Onto x) AnyNumber AnyValue x n e (onward-itself v) (any-evaluated e) (λ w g. onward-itself v)

notes : (x : WatchedState) (r : Noted) → Sound x → ChangeKeeps (Onto x) AnyNumber (observed x r)
notes x (noted o) v = onward-itself v
notes x (refused c) v = (tt, onward-itself v)

watch-keeps : WatchKeeps Sound Onto Unused AnyNumber
watch-keeps = record {
  onwards = record { valid = λ r. r.invariant; itself = onward-itself; further = onward_then };
  assigns = λ p e ρ x v.
      let f = place_in p ρ x in
      let r = value_in e ρ x in
      changes x (assigned x.memory f r) (change-kept x.memory (assigned x.memory f r)
      (onward-assigned x.memory f r v));
  allocates = λ p e ρ x v.
      let f = place_in p ρ x in
      let r = value_in e ρ x in
      changes x (allocated x.memory f r) (change-kept x.memory (allocated x.memory f r)
      (onward-allocated x.memory f r v));
  frees = λ e ρ x v.
      let r = value_in e ρ x in
      changes x (freed x.memory r) (change-kept x.memory (freed x.memory r) (onward-freed x.memory r v));
  takes-address = λ n p ρ x v. takes x n (address_of (place_in p ρ x)) v;
  takes-value = λ n e ρ x v. takes x n (value_in e ρ x) v;
  takes-operation = λ n q x v. takes x n (operating q n x) v;
  takes-query = λ n q x v. takes x n (querying q n x) v;
  takes-not = λ n x v. takes x n (negating n x) v;
  stores = λ n x v. notes x (storing n x) v;
  deletes = λ n x v. notes x (deleting n x) v;
  initialises = λ n x v. notes x (initialising n x) v;
  decides = λ e ρ x v. any-test (condition (value_in e ρ x));
  decides-on = λ n x v. any-test (condition (holding x n));
  makes = λ x v.
      made_in_lem (Given x.memory) (λ k y. Unused x k × Onto x y) AnyNumber (with_memory x)
      (make_block x.memory fixed 1) (λ k m u. (u.0, u.1)) (onward-made x.memory fixed 1 v);
  ends = λ x y k g r. onward-end k g r;
  out-of-fuel = tt;
  false-assertion = tt;
}

pub watched-onward : (a : TargetStatement) (ρ : Variables) (x : WatchedState) (f : ℕ) → Invariant x.memory
    → Onward x.memory (ending (watch a ρ x f)).state.memory
watched-onward a ρ x f v =
    (outcomes-state (λ y g. Onto x y × (g ≤ f)) AnyNumber (watch a ρ x f) (watch-reaches watch-keeps a ρ x f v)).0
