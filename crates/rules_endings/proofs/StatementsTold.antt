-- What statements tell where they stop: a change of a memory, a test, and what uses temporaries alone.
use Prim.Native.Nat.{ℕ, suc}
use native.Mathlib.Omega.{arith}
use mathlib.Core.Option.{none}
use mathlib.Core.Path.{refl}
use Rattle.std.specs.Prelude.{Err, Ok, true, false}
use Rattle.rules.specs.Types.{Evaluated, Test}
use Rattle.rules.specs.declared.{Stop.Stop}
use Rattle.rules.specs.Trees.{Expression, Query, Operator}
use Rattle.rules.specs.Memory.{Memory, Change, changed, stopped, change_in}
use Rattle.rules.specs.Evaluation.{Variables}
use Rattle.rules.specs.Evaluation.{condition, opposite}
use Rattle.rules.specs.Plain.{asserted}
use Rattle.rules.specs.Observation.{Noted, noted, refused, record_of, is_marked}
use Rattle.rules.specs.Watched.{WatchedState, temporary_of, with_memory, value_in, holding, taken}
use Rattle.rules.specs.Watched.{observed}
use Rattle.rules.specs.Answers.{operation_endings}
use Rattle.rules.proofs.Lists.Among.{StopsAmong}
use Rattle.rules.proofs.Runs.Keeping.{AnyValue, AnyState, Gives, TestStops, on_value_lem, on-pointer}
use Rattle.rules.proofs.Runs.Operations.{operated-gives, queried-gives, opposite-gives, condition-stops}
use Rattle.rules.proofs.Runs.TargetRuns.{NotedKeeps, operating, querying, negating, storing, deleting, initialising}
use Rattle.rules.proofs.Runs.TargetRuns.{asked_in}
use Rattle.rules.proofs.Runs.Calls.{store-called, delete-called, initialise-called}
use Rattle.rules.proofs.Runs.EndedAt.{ChangeStops}
use Rattle.rules.proofs.Memory.Invariant.{Onward, changed_memory}
use Rattle.rules_endings.specs.UsedPointers.{used_by, ToldApart}
use Rattle.rules_endings.proofs.UsedLaws.{VariablesNamed, PointersNamed, other, Tells, operations, any_held}
use Rattle.rules_endings.proofs.UsedLaws.{decided-by}
use Rattle.rules_endings.proofs.NamedPointers.{names-stay, Started}

-- a stop tells Q, and leaves the names as they were
pub change-told : (ρ : Variables) (Q : Stop → Memory → Type 0) (m : Memory) (c : Change Memory)
    → Onward m (changed_memory c) → VariablesNamed ρ m → ChangeStops Q c
    → ChangeStops (λ k x. VariablesNamed ρ x × Q k x) c
change-told ρ Q m (changed x) o v h = tt
change-told ρ Q m (stopped k x) o v h = (names-stay ρ o v, h)

pub test-told : {A : Type 0} (C : Stop → Type 0) (t : Test) → A → TestStops C t → TestStops (λ c. A × C c) t
test-told C (Ok true) v h = tt
test-told C (Ok false) v h = tt
test-told C (Err c) v h = (v, h)

pub asserted-told : {S : Type 0} (P : Stop → S → Type 0) (x : S) (t : Test) → P Stop.FalseAssertion x
    → TestStops (λ c. P c x) t → ChangeStops P (asserted x t)
asserted-told P x (Ok true) f h = tt
asserted-told P x (Ok false) f h = f
asserted-told P x (Err c) f h = h

-- of a watched run
abbrev pub Pointed : Variables → WatchedState → Type 0
Pointed ρ x = PointersNamed (temporary_of x.temporaries) ρ x.memory

abbrev pub WatchStarted : Variables → WatchedState → Type 0
WatchStarted ρ x = Started ρ x.memory

-- a change of the execution memory, a temporary taken, a call of the observation memory
pub changes-told : (P : Stop → WatchedState → Type 0) (x : WatchedState) (c : Change Memory)
    → ChangeStops (λ k m. P k (with_memory x m)) c → ChangeStops P (change_in (with_memory x) c)
changes-told P x (changed m) h = tt
changes-told P x (stopped k m) h = h

pub taken-told : (P : Stop → WatchedState → Type 0) (x : WatchedState) (n : ℕ) (e : Evaluated)
    → Gives AnyValue (λ c. P c x) e → ChangeStops P (taken x n e)
taken-told P x n (Ok v) h = tt
taken-told P x n (Err c) h = h

pub observed-told : (P : Stop → WatchedState → Type 0) (x : WatchedState) (r : Noted)
    → NotedKeeps AnyState (λ c. P c x) r → ChangeStops P (observed x r)
observed-told P x (noted o) h = tt
observed-told P x (refused c) h = h

pub given-told : {A : Type 0} (C : Stop → Type 0) (e : Evaluated) → A → Gives AnyValue C e
    → Gives AnyValue (λ c. A × C c) e
given-told C (Ok v) a h = tt
given-told C (Err c) a h = (a, h)

-- what uses temporaries and the observation memory alone reads and stores nothing
module _ (ρ : Variables) (x : WatchedState) (j : WatchStarted ρ x) where
  abbrev Silent : Stop → Type 0
  Silent c = VariablesNamed ρ x.memory × (Pointed ρ x → ToldApart c x.memory none)

  operations-silent : (c : Stop) → StopsAmong operation_endings c → Silent c
  operations-silent c h = (j.1, operations (temporary_of x.temporaries) ρ x.memory none c h)

  held-silent : (n : ℕ) → Gives AnyValue Silent (holding x n)
  held-silent n =
      given-told (Tells (temporary_of x.temporaries) ρ x.memory none) (holding x n) j.1
      (any_held (temporary_of x.temporaries) ρ x.memory none (temporary_of x.temporaries n))

  contradicted : Silent Stop.Contradiction
  contradicted = (j.1, λ n. other x.memory none Stop.Contradiction (omega arith) (omega arith))

  pub operating-silent : (q : Operator) (n : ℕ) → Gives AnyValue Silent (operating q n x)
  operating-silent q n =
      operated-gives AnyValue Silent (λ z e. tt) (λ p z k e. tt) operations-silent (asked_in x) q
      (holding x (suc n)) (holding x (suc (suc n))) (held-silent (suc n)) (held-silent (suc (suc n)))

  pub querying-silent : (q : Query) (n : ℕ) → Gives AnyValue Silent (querying q n x)
  querying-silent q n =
      on_value_lem (Gives AnyValue Silent) Silent Err (λ c k. k) (holding x (suc n)) _ (held-silent (suc n))
      (λ v u. on-pointer (Gives AnyValue Silent) Silent Err (λ c k. k) AnyValue v _
      (operations-silent Stop.WrongSort refl) tt
      (λ p w. queried-gives AnyValue Silent (λ z. tt) (λ p. tt) operations-silent q
      (record_of x.observation p.name) (λ i. is_marked x.observation i) p))

  pub negating-silent : (n : ℕ) → Gives AnyValue Silent (negating n x)
  negating-silent n =
      on_value_lem (Gives AnyValue Silent) Silent Err (λ c k. k) (holding x (suc n)) opposite
      (held-silent (suc n)) (λ v u. opposite-gives AnyValue Silent (λ z e. tt) (λ p z k e. tt) operations-silent v)

  pub storing-silent : (n : ℕ) → NotedKeeps AnyState Silent (storing n x)
  storing-silent n =
      store-called AnyState Silent (operations-silent Stop.WrongSort refl) contradicted x.observation (holding x n)
      (holding x (suc n)) (held-silent n) (held-silent (suc n)) (λ k l first y z. tt)

  pub deleting-silent : (n : ℕ) → NotedKeeps AnyState Silent (deleting n x)
  deleting-silent n =
      delete-called AnyState Silent (operations-silent Stop.WrongSort refl) contradicted x.observation (holding x n)
      (held-silent n) (λ k first l y. tt)

  pub initialising-silent : (n : ℕ) → NotedKeeps AnyState Silent (initialising n x)
  initialising-silent n =
      initialise-called AnyState Silent (operations-silent Stop.WrongSort refl) contradicted x.observation (holding x n)
      (held-silent n) (λ p i y. tt)

  pub deciding-silent : (n : ℕ) → TestStops Silent (condition (holding x n))
  deciding-silent n =
      condition-stops AnyValue Silent (λ z k. tt) (λ p z k l. tt) operations-silent (holding x n) (held-silent n)

  -- an expression's condition
  pub value-told : (e : Expression ℕ)
      → TestStops (λ c. VariablesNamed ρ x.memory × (Pointed ρ x
      → ToldApart c x.memory (used_by e (temporary_of x.temporaries) ρ x.memory))) (condition (value_in e ρ x))
  value-told e =
      let τ = temporary_of x.temporaries in
      test-told (Tells τ ρ x.memory (used_by e τ ρ x.memory)) (condition (value_in e ρ x)) j.1
      (decided-by τ ρ x.memory e)
