-- Runs of sound statements keep the invariants of both memories, plain and watched.
use Prim.Native.Nat.{ℕ, zero, suc}
use native.Mathlib.Omega.{arith}
use mathlib.Core.Bool.{Bool, true, false, cond}
use mathlib.Core.Path.{refl}
use lib.Dec.{eqb}
use lib.IntN.{pos}
use Rattle.std.specs.Prelude.{Err, None, Some}
use Rattle.rules.specs.Types.{Value, Evaluated, Cell}
use Rattle.rules.specs.Sizes.{temporary_count}
use Rattle.rules.specs.Trees.{Statement, Expression, Place}
use Rattle.rules.specs.Trees as tree
use Rattle.rules.specs.TargetTrees.{TargetStatement, skip, assign, new, free, sequence, branch, while, let_in}
use Rattle.rules.specs.TargetTrees.{take_address, take_value, take_operation, take_query, take_not, branch_on}
use Rattle.rules.specs.TargetTrees.{assert_on, store_block, delete_block, initialise}
use Rattle.rules.specs.Memory.{Memory, Change, change_in, fixed, freeable, make_block, end_block, assigned}
use Rattle.rules.specs.Memory.{allocated, freed}
use Rattle.rules.specs.Evaluation.{Variables, Holding, no_temporaries, held, evaluate, find_place, address_of}
use Rattle.rules.specs.Evaluation.{evaluate_source, find_source, evaluate_predicate, condition}
use Rattle.rules.specs.Evaluation.{extend}
use Rattle.rules.specs.Observation.{Observation, Noted}
use Rattle.rules.specs.Flow.{Outcome, into, after, run_by}
use Rattle.rules.specs.Plain.{asserted, run, start_variables}
use Rattle.rules.specs.Watched.{start_temporaries, temporary_of, WatchedState, with_memory, value_in, place_in}
use Rattle.rules.specs.Watched.{holding, taken, observed, watch}
use Rattle.rules.proofs.Acceptance.Sound.{Scope, adding, NoName, Named, SoundExpression, SoundPlace}
use Rattle.rules.proofs.Acceptance.Sound.{SoundStatement}
use Rattle.rules.proofs.Acceptance.Sound.{SoundTarget}
use Rattle.rules.proofs.Runs.Keeping.{AnyNumber, any-test, any-evaluated, ChangeKeeps, on_value_lem, assigned-keeps}
use Rattle.rules.proofs.Runs.Keeping.{allocated_keeps, freed-keeps}
use Rattle.rules.proofs.Runs.Outcomes.{Onwards, Reaches, staying, reach-itself, reach-into, reach-next}
use Rattle.rules.proofs.Runs.Outcomes.{reach-after}
use Rattle.rules.proofs.Runs.Outcomes.{reach-decide, reach-turns, reach-let, change-in, made_in_lem, asserted-keeps}
use Rattle.rules.proofs.Runs.TargetRuns.{NotedKeeps, taken-keeps, observed-keeps, operating, querying, negating}
use Rattle.rules.proofs.Runs.TargetRuns.{storing, deleting, initialising, making, closing, asked_in}
use Rattle.rules.proofs.Runs.Calls.{store-called, delete-called, initialise-called}
use Rattle.rules.proofs.Lists.Lists.{all_get_d, all_set, all_replicate}
use Rattle.rules.specs.Fits.{FitsName, FitsPointer, FitsValue, FitsTemporary, All, VariablesFit}
use Rattle.rules.proofs.Layouts.KeptPredicates.{MemoryInvariant, ObservationInvariant, MadeWith, make_block-keeps}
use Rattle.rules.proofs.Layouts.FittingValues.{operated-fits, query_observation-fits, opposite-fits, FitsEvaluated}
use Rattle.rules.proofs.Layouts.FittingValues.{held_fits, address_of-fits, evaluate-fits, find_place-fits}

pub extend_fits : (ρ : Variables) (x k : ℕ) → VariablesFit ρ → FitsName k → VariablesFit (extend ρ x k)
extend_fits ρ x k h l y = pick (eqb y x)
  where
    pick : (b : Bool) → FitsName (cond b k (ρ y))
    pick true = l
    pick false = h y

pub start_variables-fit : VariablesFit start_variables
start_variables-fit zero = omega arith
start_variables-fit (suc x) = omega arith

-- a change of the memory, with the temporaries of either language
module _ (J : Memory → Type 0) (v : MemoryInvariant J) {T : Type 0} (N : T → Type 0) (τ : Holding T)
    (holding : (t : T) → FitsEvaluated (held (τ t))) (ρ : Variables) (names : VariablesFit ρ) (m : Memory) (j : J m)
    (σ : Scope) where
  assigned-kept : (p : Place T) (e : Expression T) → SoundPlace p N σ → SoundExpression e N σ
      → ChangeKeeps J AnyNumber (assigned m (find_place p τ ρ m) (evaluate e τ ρ m))
  assigned-kept p e h g =
      assigned-keeps J AnyNumber AnyNumber (λ c x. tt) (λ c x. tt) FitsValue FitsPointer m
      (find_place p τ ρ m) (evaluate e τ ρ m) j
      (find_place-fits N τ holding ρ names m (v.fitting m j) σ p h)
      (evaluate-fits N τ holding ρ names m (v.fitting m j) σ e g)
      (λ q w a b i. v.storing m i (Cell.Holds q.name w) j (a.0, b))

  allocated-kept : (p : Place T) (e : Expression T) → SoundPlace p N σ → SoundExpression e N σ
      → ChangeKeeps J AnyNumber (allocated m (find_place p τ ρ m) (evaluate e τ ρ m))
  allocated-kept p e h g =
      allocated_keeps J AnyNumber AnyNumber (λ c x. tt) (λ c x. tt) FitsValue FitsPointer {K = MadeWith J} m
      (find_place p τ ρ m) (evaluate e τ ρ m) j
      (find_place-fits N τ holding ρ names m (v.fitting m j) σ p h)
      (evaluate-fits N τ holding ρ names m (v.fitting m j) σ e g)
      tt (λ n. make_block-keeps J v m freeable (suc n) j) (λ k m₁ x. x.1)
      (λ q a k m₁ x i.
      v.storing m₁ i (Cell.Holds q.name (Value.Pointer (record { name = k; offset = pos 0 }))) x.1
      (a.0, (x.0, refl)))

  freed-kept : (e : Expression T) → SoundExpression e N σ
      → ChangeKeeps J AnyNumber (freed m (evaluate e τ ρ m))
  freed-kept e g =
      freed-keeps J AnyNumber AnyNumber (λ c x. tt) (λ c x. tt) FitsValue FitsPointer m
      (evaluate e τ ρ m) j (evaluate-fits N τ holding ρ names m (v.fitting m j) σ e g) tt (λ k. v.ending m k j)

-- ---- the plain run
no-holding : (t : ⊥) → FitsEvaluated (held (no_temporaries t))
no-holding t = elim t [ ]

module _ (J : Memory → Type 0) (v : MemoryInvariant J) where
  -- a run from any memory with it
  abbrev pub Runs : Memory → ℕ → Outcome Memory → Type 0
  Runs m f o = Reaches (λ m₁ m₂. J m₂) AnyNumber m f o

  abbrev stay : Onwards J (λ m₁ m₂. J m₂)
  stay = staying J

  pub run-keeps : (a : Statement) (σ : Scope) → SoundStatement a σ → (ρ : Variables) → VariablesFit ρ
      → (m : Memory) (f : ℕ) → J m → Runs m f (run a ρ m f)
  unfolding run_by
  run-keeps (tree.skip s) σ h ρ r m f i = reach-itself AnyNumber stay m f i
  run-keeps (tree.assign s p e) σ h ρ r m f i =
      reach-after AnyNumber stay m s ρ f (assigned m (find_source p ρ m) (evaluate_source e ρ m))
      (assigned-kept J v NoName no_temporaries no-holding ρ r m i σ p e h.1 h.2)
  run-keeps (tree.new s p e) σ h ρ r m f i =
      reach-after AnyNumber stay m s ρ f (allocated m (find_source p ρ m) (evaluate_source e ρ m))
      (allocated-kept J v NoName no_temporaries no-holding ρ r m i σ p e h.1 h.2)
  run-keeps (tree.free s e) σ h ρ r m f i =
      reach-after AnyNumber stay m s ρ f (freed m (evaluate_source e ρ m))
      (freed-kept J v NoName no_temporaries no-holding ρ r m i σ e h.1)
  run-keeps (tree.sequence s a b) σ h ρ r m f i =
      reach-next AnyNumber stay m f (into 0 (run a ρ m f)) (λ m₁ f₁. into 1 (run b ρ m₁ f₁))
      (reach-into AnyNumber stay 0 m f (run a ρ m f) (run-keeps a σ h.1 ρ r m f i))
      (λ m₁ f₁ j l. reach-into AnyNumber stay 1 m₁ f₁ (run b ρ m₁ f₁) (run-keeps b σ h.2 ρ r m₁ f₁ j))
  run-keeps (tree.branch s e a b) σ h ρ r m f i =
      reach-decide AnyNumber stay s ρ (condition (evaluate_source e ρ m)) m f (into 1 (run a ρ m f))
      (into 2 (run b ρ m f)) i (any-test (condition (evaluate_source e ρ m)))
      (reach-into AnyNumber stay 1 m f (run a ρ m f) (run-keeps a σ h.2 ρ r m f i))
      (reach-into AnyNumber stay 2 m f (run b ρ m f) (run-keeps b σ h.3 ρ r m f i))
  run-keeps (tree.while s e b) σ h ρ r m f i =
      reach-turns AnyNumber stay s ρ (λ m₁. condition (evaluate_source e ρ m₁)) (λ m₁ f₁. into 1 (run b ρ m₁ f₁)) tt
      (λ m₁ j. any-test (condition (evaluate_source e ρ m₁)))
      (λ m₁ f₁ j. reach-into AnyNumber stay 1 m₁ f₁ (run b ρ m₁ f₁) (run-keeps b σ h.2 ρ r m₁ f₁ j)) f m f i
  run-keeps (tree.let_in s x b) σ h ρ r m f i =
      reach-let AnyNumber stay (MadeWith J) s ρ m f (make_block m fixed 1) end_block
      (λ k m₁ f₁. into 0 (run b (extend ρ x k) m₁ f₁)) i (make_block-keeps J v m fixed 1 i) (λ k m₁ j. j.1)
      (λ k m₁ j. reach-into AnyNumber stay 0 m₁ f (run b (extend ρ x k) m₁ f)
      (run-keeps b (adding σ x) h.3 (extend ρ x k) (extend_fits ρ x k r j.0) m₁ f j.1))
      (λ k m₁ m₂ j q. v.ending m₂ k q)
  run-keeps (tree.assert s p) σ h ρ r m f i =
      let t = condition (evaluate_predicate p ρ m) in
      reach-after AnyNumber stay m s ρ f (asserted m t) (asserted-keeps J AnyNumber m t tt i (any-test t))

-- ---- the watched run
pub record Watchedly (J : Memory → Type 0) (O : Observation → Type 0) (x : WatchedState) : Type 0 where
  pub memory_kept : J x.memory
  pub observation-kept : O x.observation
  pub temporaries-fit : All FitsTemporary x.temporaries

pub start_temporaries-fit : All FitsTemporary start_temporaries
start_temporaries-fit = all_replicate temporary_count None tt

module _ (J : Memory → Type 0) (v : MemoryInvariant J) (O : Observation → Type 0) (u : ObservationInvariant O) where
  abbrev pub WatchedRuns : WatchedState → ℕ → Outcome WatchedState → Type 0
  WatchedRuns x f o = Reaches (λ y z. Watchedly J O z) AnyNumber x f o

  abbrev stays : Onwards (Watchedly J O) (λ y z. Watchedly J O z)
  stays = staying (Watchedly J O)

  module _ (x : WatchedState) (i : Watchedly J O x) where
    held_kept : (n : ℕ) → FitsEvaluated (holding x n)
    held_kept n =
        held_fits (temporary_of x.temporaries n) (all_get_d i.temporaries-fit n None tt)

    with-memory : (m : Memory) → J m → Watchedly J O (with_memory x m)
    with-memory m h =
        record { memory_kept = h; observation-kept = i.observation-kept; temporaries-fit = i.temporaries-fit }

    changed-kept : (s : ℕ) (ρ : Variables) (f : ℕ) (c : Change Memory) → ChangeKeeps J AnyNumber c
        → WatchedRuns x f (after s ρ f (change_in (with_memory x) c))
    changed-kept s ρ f c h =
        reach-after AnyNumber stays x s ρ f (change_in (with_memory x) c)
        (change-in J (Watchedly J O) AnyNumber (with_memory x) c with-memory h)

    taken-kept : (s : ℕ) (ρ : Variables) (f n : ℕ) (e : Evaluated) → FitsEvaluated e
        → WatchedRuns x f (after s ρ f (taken x n e))
    taken-kept s ρ f n e h =
        reach-after AnyNumber stays x s ρ f (taken x n e)
        (taken-keeps (Watchedly J O) AnyNumber FitsValue x n e i h (λ w g. record {
          memory_kept = i.memory_kept;
          observation-kept = i.observation-kept;
          temporaries-fit = all_set i.temporaries-fit n {x = Some w} g;
        }))

    observed-kept : (s : ℕ) (ρ : Variables) (f : ℕ) (r : Noted) → NotedKeeps O AnyNumber r
        → WatchedRuns x f (after s ρ f (observed x r))
    observed-kept s ρ f r h =
        reach-after AnyNumber stays x s ρ f (observed x r)
        (observed-keeps (Watchedly J O) AnyNumber O x r i h (λ o g. record {
          memory_kept = i.memory_kept;
          observation-kept = g;
          temporaries-fit = i.temporaries-fit;
        }))

  pub watch-keeps : (a : TargetStatement) (σ : Scope) → SoundTarget a σ → (ρ : Variables) → VariablesFit ρ
      → (x : WatchedState) (f : ℕ) → Watchedly J O x → WatchedRuns x f (watch a ρ x f)
  unfolding watch
  watch-keeps (skip s) σ h ρ r x f i = reach-itself AnyNumber stays x f i
  watch-keeps (assign s p e) σ h ρ r x f i =
      changed-kept x i s ρ f (assigned x.memory (place_in p ρ x) (value_in e ρ x))
      (assigned-kept J v Named (temporary_of x.temporaries) (held_kept x i) ρ r x.memory i.memory_kept σ p e
      h.1 h.2)
  watch-keeps (new s p e) σ h ρ r x f i =
      changed-kept x i s ρ f (allocated x.memory (place_in p ρ x) (value_in e ρ x))
      (allocated-kept J v Named (temporary_of x.temporaries) (held_kept x i) ρ r x.memory i.memory_kept σ p e
      h.1 h.2)
  watch-keeps (free s e) σ h ρ r x f i =
      changed-kept x i s ρ f (freed x.memory (value_in e ρ x))
      (freed-kept J v Named (temporary_of x.temporaries) (held_kept x i) ρ r x.memory i.memory_kept σ e h.1)
  watch-keeps (sequence s a b) σ h ρ r x f i =
      reach-next AnyNumber stays x f (into 0 (watch a ρ x f)) (λ y g. into 1 (watch b ρ y g))
      (reach-into AnyNumber stays 0 x f (watch a ρ x f) (watch-keeps a σ h.1 ρ r x f i))
      (λ y g j l. reach-into AnyNumber stays 1 y g (watch b ρ y g) (watch-keeps b σ h.2 ρ r y g j))
  watch-keeps (branch s e a b) σ h ρ r x f i =
      reach-decide AnyNumber stays s ρ (condition (value_in e ρ x)) x f (into 1 (watch a ρ x f))
      (into 2 (watch b ρ x f)) i (any-test (condition (value_in e ρ x)))
      (reach-into AnyNumber stays 1 x f (watch a ρ x f) (watch-keeps a σ h.2 ρ r x f i))
      (reach-into AnyNumber stays 2 x f (watch b ρ x f) (watch-keeps b σ h.3 ρ r x f i))
  watch-keeps (while s e b) σ h ρ r x f i =
      reach-turns AnyNumber stays s ρ (λ y. condition (value_in e ρ y)) (λ y g. into 1 (watch b ρ y g)) tt
      (λ y j. any-test (condition (value_in e ρ y)))
      (λ y g j. reach-into AnyNumber stays 1 y g (watch b ρ y g) (watch-keeps b σ h.2 ρ r y g j)) f x f i
  watch-keeps (let_in s z b) σ h ρ r x f i =
      reach-let AnyNumber stays (λ k y. FitsName k × Watchedly J O y) s ρ x f (making x) closing
      (λ k y g. into 0 (watch b (extend ρ z k) y g)) i
      (made_in_lem (MadeWith J) (λ k y. FitsName k × Watchedly J O y) AnyNumber (with_memory x)
      (make_block x.memory fixed 1) (λ k m j. (j.0, with-memory x i m j.1))
      (make_block-keeps J v x.memory fixed 1 i.memory_kept))
      (λ k y j. j.1)
      (λ k y j. reach-into AnyNumber stays 0 y f (watch b (extend ρ z k) y f)
      (watch-keeps b (adding σ z) h.3 (extend ρ z k) (extend_fits ρ z k r j.0) y f j.1))
      (λ k y w j q. with-memory w q (end_block w.memory k) (v.ending w.memory k q.memory_kept))
  watch-keeps (take_address s n p) σ h ρ r x f i =
      taken-kept x i s ρ f n (address_of (place_in p ρ x))
      (address_of-fits (place_in p ρ x)
      (find_place-fits Named (temporary_of x.temporaries) (held_kept x i) ρ r x.memory
      (v.fitting x.memory i.memory_kept) σ p h.2))
  watch-keeps (take_value s n e) σ h ρ r x f i =
      taken-kept x i s ρ f n (value_in e ρ x)
      (evaluate-fits Named (temporary_of x.temporaries) (held_kept x i) ρ r x.memory
      (v.fitting x.memory i.memory_kept) σ e h.2)
  watch-keeps (take_operation s n q) σ h ρ r x f i =
      taken-kept x i s ρ f n (operating q n x)
      (operated-fits (asked_in x) q (holding x (suc n)) (holding x (suc (suc n))) (held_kept x i (suc n))
      (held_kept x i (suc (suc n))))
  watch-keeps (take_query s n q) σ h ρ r x f i =
      taken-kept x i s ρ f n (querying q n x)
      (on_value_lem FitsEvaluated AnyNumber Err (λ c y. tt) (holding x (suc n)) _ (held_kept x i (suc n))
      (λ w g. query_observation-fits q x.observation w (u.fitting x.observation i.observation-kept) g))
  watch-keeps (take_not s n) σ h ρ r x f i =
      taken-kept x i s ρ f n (negating n x)
      (on_value_lem FitsEvaluated AnyNumber Err (λ c y. tt) (holding x (suc n)) _ (held_kept x i (suc n))
      (λ w g. opposite-fits w))
  watch-keeps (branch_on s n a b) σ h ρ r x f i =
      reach-decide AnyNumber stays s ρ (condition (holding x n)) x f (into 1 (watch a ρ x f)) (into 2 (watch b ρ x f)) i
      (any-test (condition (holding x n)))
      (reach-into AnyNumber stays 1 x f (watch a ρ x f) (watch-keeps a σ h.2 ρ r x f i))
      (reach-into AnyNumber stays 2 x f (watch b ρ x f) (watch-keeps b σ h.3 ρ r x f i))
  watch-keeps (assert_on s n) σ h ρ r x f i =
      let t = condition (holding x n) in
      reach-after AnyNumber stays x s ρ f (asserted x t)
      (asserted-keeps (Watchedly J O) AnyNumber x t tt i (any-test t))
  watch-keeps (store_block s n) σ h ρ r x f i =
      observed-kept x i s ρ f (storing n x)
      (store-called O AnyNumber tt tt x.observation (holding x n) (holding x (suc n)) (any-evaluated (holding x n))
      (any-evaluated (holding x (suc n)))
      (λ k l first. u.calls.storing x.observation k first (suc l) i.observation-kept))
  watch-keeps (delete_block s n) σ h ρ r x f i =
      observed-kept x i s ρ f (deleting n x)
      (delete-called O AnyNumber tt tt x.observation (holding x n) (any-evaluated (holding x n))
      (λ k first l. u.calls.deleting x.observation k first l i.observation-kept))
  watch-keeps (initialise s n) σ h ρ r x f i =
      observed-kept x i s ρ f (initialising n x)
      (initialise-called O AnyNumber tt tt x.observation (holding x n) (any-evaluated (holding x n))
      (λ p j. u.calls.marking x.observation p j i.observation-kept))
