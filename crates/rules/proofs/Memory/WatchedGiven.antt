-- A watched run of a sound statement brings no pointer to a name that was never given into a cell or a temporary.
use Prim.Native.Nat.{ℕ, suc}
use mathlib.Core.Path.{◌≡◌, refl, sym, ap, ◌∙◌, subst}
use mathlib.Core.Bool.{Bool, true, false, cond, true≢false}
use lib.Dec.{eqb}
use borrow.Author.Tests.{eqb-true}
use Rattle.std.specs.Prelude.{Err, None, Some}
use Rattle.rules.specs.Types.{Evaluated, Cell}
use Rattle.rules.specs.Trees.{Query, Expression, Place}
use Rattle.rules.specs.TargetTrees.{TargetStatement, skip, assign, new, free, sequence, branch, while, let_in}
use Rattle.rules.specs.TargetTrees.{take_address, take_value, take_operation, take_query, take_not, branch_on}
use Rattle.rules.specs.TargetTrees.{assert_on}
use Rattle.rules.specs.TargetTrees as target
use Rattle.rules.specs.Memory.{Memory, Change, change_in, cell_of, fixed, make_block, end_block, assigned, allocated}
use Rattle.rules.specs.Memory.{freed, on_value}
use Rattle.rules.specs.Evaluation.{Variables, evaluate, find_place, address_of, opposite, condition, extend}
use Rattle.rules.specs.Observation.{Noted, noted, refused, record_of, query_observation, is_marked}
use Rattle.rules.specs.Flow.{Outcome, finished, ended, into, after}
use Rattle.rules.specs.Plain.{asserted}
use Rattle.rules.specs.Watched.{Temporaries, temporary_of, held_in, WatchedState, with_memory, value_in, place_in}
use Rattle.rules.specs.Watched.{holding, taken, observed, watch}
use Rattle.rules.proofs.Acceptance.Sound.{Scope, adding, Named, SoundExpression, SoundPlace, SoundTarget}
use Rattle.rules.proofs.Runs.Operations.{operated-gives}
use Rattle.rules.proofs.Runs.Keeping.{AnyNumber, any-test, ChangeKeeps, on_value_lem, on-pointer}
use Rattle.rules.proofs.Runs.Outcomes.{Reaches, staying, reach-itself, reach-into, reach-next, reach-after}
use Rattle.rules.proofs.Runs.Outcomes.{reach-decide, reach-turns, reach-let, change-in, made_in_lem, asserted-keeps}
use Rattle.rules.proofs.Runs.TargetRuns.{taken-keeps, operating, querying, negating, storing, deleting, asked_in}
use Rattle.rules.proofs.Runs.TargetRuns.{initialising}
use Rattle.rules.proofs.Runs.TargetRuns.{making, closing}
use Rattle.rules.proofs.Lists.Lists.{all_get_d, all_set}
use Rattle.rules.proofs.Memory.Invariant.{Invariant}
use Rattle.rules.proofs.Memory.BlockChanges.{end-invariant}
use Rattle.rules.proofs.Runs.EvaluatedValues.{CellHas, EvaluatedHas, FoundHas, held-has, address_of-has}
use Rattle.rules.proofs.Runs.EvaluatedValues.{evaluate-has}
use Rattle.rules.proofs.Runs.EvaluatedValues.{find_place-has}
use Rattle.rules.proofs.Memory.GivenNames.{IsGiven, GivenValue, CellsGiven, TemporariesGiven, onward-stay}
use Rattle.rules.proofs.Memory.GivenNames.{end-stay}
use Rattle.rules.proofs.Memory.GivenNames.{temporaries-stay, MadeGiven, make_block-given, end_block-given, Changed}
use Rattle.rules.proofs.Memory.GivenNames.{assigned-given, allocated-given, freed-given, numbers-given}
use Rattle.rules.proofs.Memory.GivenNames.{moves-given}
use Rattle.rules.proofs.Memory.GivenNames.{opposite-given, queried-given}

-- the variables in scope have blocks whose names were given
abbrev pub VariablesGiven : Scope → Variables → Memory → Type 0
VariablesGiven σ ρ m = (x : ℕ) → σ x ≡ true → IsGiven m (ρ x)

-- every pointer in a cell or a temporary has a name that was given, and so has every variable in scope
pub record PointersGiven (σ : Scope) (ρ : Variables) (m : Memory) (τ : Temporaries) : Type 0 where
  pub invariant : Invariant m
  pub cells : CellsGiven m
  pub temporaries : TemporariesGiven m τ
  pub variables : VariablesGiven σ ρ m

abbrev pub GivenState : Scope → Variables → WatchedState → Type 0
GivenState σ ρ x = PointersGiven σ ρ x.memory x.temporaries

-- a run from any state with it
abbrev pub GivenOutcome : Scope → Variables → WatchedState → ℕ → Outcome WatchedState → Type 0
GivenOutcome σ ρ x f o = Reaches (λ y z. GivenState σ ρ z) AnyNumber x f o

-- ---- a let's variable comes into scope, and leaves it
enter-scope : (σ : Scope) (ρ : Variables) (x k : ℕ) (m : Memory) → VariablesGiven σ ρ m → IsGiven m k
    → VariablesGiven (adding σ x) (extend ρ x k) m
enter-scope σ ρ x k m h g y = pick (eqb y x)
  where
    pick : (b : Bool) → cond b true (σ y) ≡ true → IsGiven m (cond b k (ρ y))
    pick true e = g
    pick false e = h y e

leave-scope : (σ : Scope) (ρ : Variables) (x k : ℕ) (m : Memory) → σ x ≡ false
    → VariablesGiven (adding σ x) (extend ρ x k) m → VariablesGiven σ ρ m
leave-scope σ ρ x k m d h y e = pick (eqb y x) refl (h y)
  where
    pick : (b : Bool) → eqb y x ≡ b → (cond b true (σ y) ≡ true → IsGiven m (cond b k (ρ y))) → IsGiven m (ρ y)
    pick true q g = absurd (true≢false (sym e ∙ ap σ (eqb-true y x q) ∙ d))
    pick false q g = g e

leave : (σ : Scope) (ρ : Variables) (x k : ℕ) (m : Memory) (τ : Temporaries) → σ x ≡ false
    → PointersGiven (adding σ x) (extend ρ x k) m τ → PointersGiven σ ρ m τ
leave σ ρ x k m τ d i = record {
  invariant = i.invariant;
  cells = i.cells;
  temporaries = i.temporaries;
  variables = leave-scope σ ρ x k m d i.variables;
}

leave-outcome : (σ : Scope) (ρ : Variables) (y k : ℕ) (x : WatchedState) (f : ℕ) (o : Outcome WatchedState)
    → σ y ≡ false → GivenOutcome (adding σ y) (extend ρ y k) x f o → GivenOutcome σ ρ x f o
leave-outcome σ ρ y k x f (finished z g) d h = (leave σ ρ y k z.memory z.temporaries d h.0, h.1)
leave-outcome σ ρ y k x f (ended c s ρ₁ w z g) d h =
    (tt, (leave σ ρ y k z.memory z.temporaries d h.1.0, h.1.1))

-- ---- what a statement does
module _ (σ : Scope) (ρ : Variables) (x : WatchedState) (i : GivenState σ ρ x) where
  abbrev m : Memory
  m = x.memory

  abbrev τ : Temporaries
  τ = x.temporaries

  held-given : (n : ℕ) → EvaluatedHas (GivenValue m) (held_in τ n)
  held-given n = held-has (GivenValue m) (temporary_of τ n) (all_get_d i.temporaries n None tt)

  cell-given : (j : ℕ) → CellHas (GivenValue m) (cell_of m j)
  cell-given j = all_get_d i.cells j Cell.Free tt

  evaluate-given : (e : Expression ℕ) → SoundExpression e Named σ
      → EvaluatedHas (GivenValue m) (evaluate e (temporary_of τ) ρ m)
  evaluate-given e h =
      evaluate-has (GivenValue m) (numbers-given m) (moves-given m) Named (temporary_of τ) held-given ρ σ
      i.variables m cell-given e h

  place-given : (p : Place ℕ) → SoundPlace p Named σ → FoundHas (GivenValue m) (find_place p (temporary_of τ) ρ m)
  place-given p h =
      find_place-has (GivenValue m) (numbers-given m) (moves-given m) Named (temporary_of τ) held-given ρ σ
      i.variables m cell-given p h

  -- the memory is another, whose names were given too
  with-memory : (m₁ : Memory) → Changed m m₁ → PointersGiven σ ρ m₁ τ
  with-memory m₁ h = record {
    invariant = h.0.invariant;
    cells = h.1;
    temporaries = temporaries-stay m m₁ (onward-stay m m₁ h.0) i.temporaries;
    variables = λ y e. onward-stay m m₁ h.0 (ρ y) (i.variables y e);
  }

  changed-given : (c : Change Memory) → ChangeKeeps (Changed m) AnyNumber c
      → ChangeKeeps (GivenState σ ρ) AnyNumber (change_in (with_memory x) c)
  changed-given c h = change-in (Changed m) (GivenState σ ρ) AnyNumber (with_memory x) c with-memory h

  enter : (y k : ℕ) (m₁ : Memory) → MadeGiven m k m₁ → PointersGiven (adding σ y) (extend ρ y k) m₁ τ
  enter y k m₁ h =
      let j = with-memory m₁ (h.0, h.1) in
      record {
        invariant = j.invariant;
        cells = j.cells;
        temporaries = j.temporaries;
        variables = enter-scope σ ρ y k m₁ j.variables h.2;
      }

  end-let : (k : ℕ) → PointersGiven σ ρ (end_block m k) τ
  end-let k = record {
    invariant = end-invariant m k i.invariant;
    cells = end_block-given m k i.cells;
    temporaries = temporaries-stay m (end_block m k) (end-stay m k) i.temporaries;
    variables = λ y e. end-stay m k (ρ y) (i.variables y e);
  }

  taken-given : (n : ℕ) (e : Evaluated) → EvaluatedHas (GivenValue m) e
      → ChangeKeeps (GivenState σ ρ) AnyNumber (taken x n e)
  taken-given n e h =
      taken-keeps (GivenState σ ρ) AnyNumber (GivenValue m) x n e i h (λ w g. record {
        invariant = i.invariant;
        cells = i.cells;
        temporaries = all_set i.temporaries n {x = Some w} g;
        variables = i.variables;
      })

  query-given : (q : Query) (n : ℕ)
      → EvaluatedHas (GivenValue m) (on_value (held_in τ n) Err (query_observation q x.observation))
  query-given q n =
      on_value_lem (EvaluatedHas (GivenValue m)) AnyNumber Err (λ c y. tt) (held_in τ n) _ (held-given n)
      (λ v g.
      on-pointer (EvaluatedHas (GivenValue m)) AnyNumber Err (λ c y. tt) (GivenValue m) v _ tt g (λ p h.
      queried-given m q (record_of x.observation p.name) (λ j. is_marked x.observation j) p h))

  not-given : (n : ℕ) → EvaluatedHas (GivenValue m) (on_value (held_in τ n) Err opposite)
  not-given n =
      on_value_lem (EvaluatedHas (GivenValue m)) AnyNumber Err (λ c y. tt) (held_in τ n) _ (held-given n)
      (λ v g. opposite-given m v)

  observed-given : (r : Noted) → ChangeKeeps (GivenState σ ρ) AnyNumber (observed x r)
  observed-given (noted o) = i
  observed-given (refused c) = (tt, i)

-- one statement that makes a change
acted : (σ : Scope) (ρ : Variables) (x : WatchedState) (s f : ℕ) (c : Change WatchedState)
    → ChangeKeeps (GivenState σ ρ) AnyNumber c → GivenOutcome σ ρ x f (after s ρ f c)
acted σ ρ x s f c h = reach-after AnyNumber (staying (GivenState σ ρ)) x s ρ f c h

pub watch-given : (a : TargetStatement) (σ : Scope) → SoundTarget a σ → (ρ : Variables) (x : WatchedState) (f : ℕ)
    → GivenState σ ρ x → GivenOutcome σ ρ x f (watch a ρ x f)
unfolding watch
watch-given (skip s) σ h ρ x f i = reach-itself AnyNumber (staying (GivenState σ ρ)) x f i
watch-given (assign s p e) σ h ρ x f i =
    let c = assigned x.memory (place_in p ρ x) (value_in e ρ x) in
    acted σ ρ x s f (change_in (with_memory x) c)
    (changed-given σ ρ x i c (assigned-given x.memory i.invariant i.cells (place_in p ρ x) (value_in e ρ x)
    (place-given σ ρ x i p h.1) (evaluate-given σ ρ x i e h.2)))
watch-given (new s p e) σ h ρ x f i =
    let c = allocated x.memory (place_in p ρ x) (value_in e ρ x) in
    acted σ ρ x s f (change_in (with_memory x) c)
    (changed-given σ ρ x i c (allocated-given x.memory i.invariant i.cells (place_in p ρ x) (value_in e ρ x)
    (place-given σ ρ x i p h.1) (evaluate-given σ ρ x i e h.2)))
watch-given (free s e) σ h ρ x f i =
    let c = freed x.memory (value_in e ρ x) in
    acted σ ρ x s f (change_in (with_memory x) c)
    (changed-given σ ρ x i c (freed-given x.memory i.invariant i.cells (value_in e ρ x)
    (evaluate-given σ ρ x i e h.1)))
watch-given (sequence s a b) σ h ρ x f i =
    let w = staying (GivenState σ ρ) in
    reach-next AnyNumber w x f (into 0 (watch a ρ x f)) (λ y g. into 1 (watch b ρ y g))
    (reach-into AnyNumber w 0 x f (watch a ρ x f) (watch-given a σ h.1 ρ x f i))
    (λ y g j l. reach-into AnyNumber w 1 y g (watch b ρ y g) (watch-given b σ h.2 ρ y g j))
watch-given (branch s e a b) σ h ρ x f i =
    let w = staying (GivenState σ ρ) in
    reach-decide AnyNumber w s ρ (condition (value_in e ρ x)) x f (into 1 (watch a ρ x f)) (into 2 (watch b ρ x f)) i
    (any-test (condition (value_in e ρ x)))
    (reach-into AnyNumber w 1 x f (watch a ρ x f) (watch-given a σ h.2 ρ x f i))
    (reach-into AnyNumber w 2 x f (watch b ρ x f) (watch-given b σ h.3 ρ x f i))
watch-given (while s e b) σ h ρ x f i =
    let w = staying (GivenState σ ρ) in
    reach-turns AnyNumber w s ρ (λ y. condition (value_in e ρ y)) (λ y g. into 1 (watch b ρ y g)) tt
    (λ y j. any-test (condition (value_in e ρ y)))
    (λ y g j. reach-into AnyNumber w 1 y g (watch b ρ y g) (watch-given b σ h.2 ρ y g j)) f x f i
watch-given (let_in s z b) σ h ρ x f i =
    reach-let AnyNumber (staying (GivenState σ ρ))
    (λ k y. MadeGiven x.memory k y.memory × (y.temporaries ≡ x.temporaries))
    s ρ x f (making x) closing (λ k y g. into 0 (watch b (extend ρ z k) y g)) i
    (made_in_lem (MadeGiven x.memory) _ AnyNumber (with_memory x) (make_block x.memory fixed 1) (λ k m₁ u. (u, refl))
    (make_block-given x.memory fixed 1 i.invariant i.cells))
    (λ k y g. subst (PointersGiven σ ρ y.memory) (sym g.1) (with-memory σ ρ x i y.memory (g.0.0, g.0.1)))
    (λ k y g. reach-into AnyNumber (staying (GivenState σ ρ)) 0 y f (watch b (extend ρ z k) y f)
    (leave-outcome σ ρ z k y f (watch b (extend ρ z k) y f) h.2
    (watch-given b (adding σ z) h.3 (extend ρ z k) y f
    (subst (PointersGiven (adding σ z) (extend ρ z k) y.memory) (sym g.1)
    (enter σ ρ x i z k y.memory g.0)))))
    (λ k y y₁ g r. end-let σ ρ y₁ r k)
watch-given (take_address s n p) σ h ρ x f i =
    acted σ ρ x s f (taken x n (address_of (place_in p ρ x)))
    (taken-given σ ρ x i n (address_of (place_in p ρ x))
    (address_of-has (GivenValue x.memory) (place_in p ρ x) (place-given σ ρ x i p h.2)))
watch-given (take_value s n e) σ h ρ x f i =
    acted σ ρ x s f (taken x n (value_in e ρ x))
    (taken-given σ ρ x i n (value_in e ρ x) (evaluate-given σ ρ x i e h.2))
watch-given (take_operation s n q) σ h ρ x f i =
    acted σ ρ x s f (taken x n (operating q n x))
    (taken-given σ ρ x i n (operating q n x)
    (operated-gives (GivenValue x.memory) AnyNumber (numbers-given x.memory) (moves-given x.memory)
    (λ c y. tt) (asked_in x) q
    (holding x (suc n)) (holding x (suc (suc n)))
    (held-given σ ρ x i (suc n)) (held-given σ ρ x i (suc (suc n)))))
watch-given (take_query s n q) σ h ρ x f i =
    acted σ ρ x s f (taken x n (querying q n x))
    (taken-given σ ρ x i n (querying q n x) (query-given σ ρ x i q (suc n)))
watch-given (take_not s n) σ h ρ x f i =
    acted σ ρ x s f (taken x n (negating n x)) (taken-given σ ρ x i n (negating n x) (not-given σ ρ x i (suc n)))
watch-given (branch_on s n a b) σ h ρ x f i =
    let w = staying (GivenState σ ρ) in
    reach-decide AnyNumber w s ρ (condition (holding x n)) x f (into 1 (watch a ρ x f)) (into 2 (watch b ρ x f)) i
    (any-test (condition (holding x n)))
    (reach-into AnyNumber w 1 x f (watch a ρ x f) (watch-given a σ h.2 ρ x f i))
    (reach-into AnyNumber w 2 x f (watch b ρ x f) (watch-given b σ h.3 ρ x f i))
watch-given (assert_on s n) σ h ρ x f i =
    acted σ ρ x s f (asserted x (condition (holding x n)))
    (asserted-keeps (GivenState σ ρ) AnyNumber x (condition (holding x n)) tt i (any-test (condition (holding x n))))
watch-given (target.store_block s n) σ h ρ x f i =
    acted σ ρ x s f (observed x (storing n x)) (observed-given σ ρ x i (storing n x))
watch-given (target.delete_block s n) σ h ρ x f i =
    acted σ ρ x s f (observed x (deleting n x)) (observed-given σ ρ x i (deleting n x))
watch-given (target.initialise s n) σ h ρ x f i =
    acted σ ρ x s f (observed x (initialising n x)) (observed-given σ ρ x i (initialising n x))
