-- From what the parts answer to what the whole does.
use Prim.Native.Nat.{ℕ, ◌≤◌}
use mathlib.Core.List.{List, []}
use mathlib.Core.Path.{◌≡◌, refl, sym, ap, subst}
use Rattle.std.specs.Prelude.{Ok, Err}
use Rattle.rules.specs.Memory.{Memory}
use Rattle.rules.specs.Evaluation.{Variables}
use Rattle.rules.specs.TargetTrees.{TargetStatement}
use Rattle.rules.specs.Flow.{Outcome, finished, ended, ending, into, next}
use Rattle.rules.specs.Watched.{WatchedState, watching, with_memory}
use Rattle.rules.specs.Layout.{memory_of}
use Rattle.rules.specs.declared.{Stop.Stop}
use Rattle.rules.proofs.Runs.Fuel.{watch-fuel}
use Rattle.memory_cells.specs.Changes.{Becomes}
use Rattle.observation.proofs.Becoming as observation
use Rattle.run_endings.specs.declared.Stopped.{Stopped}
use Rattle.run_endings.specs.Ending.{Ended, stopped_at}
use Rattle.run_changes.proofs.ChangeLaws.{becomes-same, becomes-then}
use Rattle.watched_statements.specs.Watching.{Lent, lent, state_of, watch_from, Ran}

-- what finishes and what stops, where of the bytes those of the memory alone change, and where none does
pub ran-memory : (x : Lent) (f : ℕ) {l : List ℕ} {m : Memory} → Becomes x.memory l m
    → Ran (finished (with_memory (state_of x) m) f) (Ok f) x (lent l x.observation x.temporaries)
ran-memory x f w = record {
  answer = refl;
  memory = w;
  observation = observation.becomes-same x.observation;
  temporaries = refl;
}

pub ran-stopped : (x : Lent) (c : Stop) (s : ℕ) (ρ : Variables) (f : ℕ) {l : List ℕ}
    → Becomes x.memory l (memory_of x.memory)
    → Ran (ended c s ρ [] (state_of x) f) (Err (stopped_at c s f)) x (lent l x.observation x.temporaries)
ran-stopped x c s ρ f w = record {
  answer = refl;
  memory = w;
  observation = observation.becomes-same x.observation;
  temporaries = refl;
}

pub ran-finished : (x : Lent) (f : ℕ) → Ran (finished (state_of x) f) (Ok f) x x
ran-finished x f = ran-memory x f (becomes-same refl)

pub ran-ended : (x : Lent) (c : Stop) (s : ℕ) (ρ : Variables) (f : ℕ)
    → Ran (ended c s ρ [] (state_of x) f) (Err (stopped_at c s f)) x x
ran-ended x c s ρ f = ran-stopped x c s ρ f (becomes-same refl)

pub ran-is : {o p : Outcome WatchedState} {r : Ended} {x y : Lent} → o ≡ p → Ran p r x y → Ran o r x y
ran-is {o} {p} {r} {x} {y} e h = subst (λ (w : Outcome WatchedState). Ran w r x y) (sym e) h

-- which child a statement is no answer tells
pub ran-into : (n : ℕ) (o : Outcome WatchedState) {r : Ended} {x y : Lent} → Ran o r x y → Ran (into n o) r x y
ran-into n (finished z f) h = h
ran-into n (ended c s ρ w z f) h = record {
  answer = h.answer;
  memory = h.memory;
  observation = h.observation;
  temporaries = h.temporaries;
}

-- what came before counts for the bytes alone
pub ran-from : {o p : Outcome WatchedState} {r q : Ended} {x y z : Lent} → Ran o r x y → Ran p q y z → Ran p q x z
ran-from h v = record {
  answer = v.answer;
  memory = becomes-then h.memory v.memory;
  observation = record {
    view = v.observation.view;
    exact = λ e. v.observation.exact (h.observation.exact e);
  };
  temporaries = v.temporaries;
}

-- fuel left says that it finished
pub finished-is : (o : Outcome WatchedState) {g : ℕ} {x y : Lent} → Ran o (Ok g) x y → o ≡ finished (state_of y) g
finished-is (finished z f) {g} h =
    let e : f ≡ g = cc in
    λ i. finished (watching (sym h.memory.view i) (sym h.observation.view i) (sym h.temporaries i)) (e i)
finished-is (ended c s ρ w z f) h = cc

-- what comes next goes on from there
pub next-goes : (o : Outcome WatchedState) (k : WatchedState → ℕ → Outcome WatchedState) {g : ℕ} {r : Ended}
    {x y z : Lent}
    → Ran o (Ok g) x y → Ran (k (state_of y) g) r y z → Ran (next o k) r x z
next-goes o k h v =
    ran-is (ap (λ (w : Outcome WatchedState). next w k) (finished-is o h)) (ran-from h v)

-- nothing comes next after a stop
pub next-stays : (o : Outcome WatchedState) (k : WatchedState → ℕ → Outcome WatchedState) {c : Stopped} {x y : Lent}
    → Ran o (Err c) x y → Ran (next o k) (Err c) x y
next-stays (finished z f) k h = absurd cc
next-stays (ended c s ρ w z f) k h = h

-- fuel never rises
pub fuel-left : (s : TargetStatement) (ρ : Variables) (f : ℕ) {g : ℕ} {x y : Lent} → Ran (watch_from s ρ x f) (Ok g) x y
    → g ≤ f
fuel-left s ρ f {g} {x} h =
    rw (ap (λ (w : Outcome WatchedState). (ending w).fuel) (finished-is (watch_from s ρ x f) h)) at
    (watch-fuel s ρ (state_of x) f)
