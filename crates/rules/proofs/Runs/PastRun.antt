-- The plain run is the run past false assertions, up to the first that is false.
use Prim.Native.Nat.{ℕ, zero, suc, ◌≤◌}
use native.Mathlib.Omega.{arith}
use mathlib.Core.Path.{◌≡◌, refl, ◌∙◌}
use mathlib.Core.List.{List, [], ◌∷◌, ◌++◌}
use Rattle.std.specs.Prelude.{Err, Ok, true, false}
use Rattle.rules.specs.Types.{Test, Stop}
use Rattle.rules.specs.Trees.{Statement, skip, assign, new, free, sequence, branch, while, let_in, assert}
use Rattle.rules.specs.Memory.{Memory, Change, changed, stopped, change_in, fixed, Made, made, unmade, made_in}
use Rattle.rules.specs.Memory.{make_block, end_block, assigned, allocated, freed}
use Rattle.rules.specs.Evaluation.{Variables, evaluate_source, find_source, evaluate_predicate, condition, extend}
use Rattle.rules.specs.Flow.{TreePath, Outcome, finished, ended, Ending, ending, into, next, after, decide, turns}
use Rattle.rules.specs.Flow.{in_let, run_by}
use Rattle.rules.specs.Plain.{asserted, run}
use Rattle.rules.specs.Past.{holds, fails, undecided, Reached, reached, PastState, with_memory, asserted_past}
use Rattle.rules.specs.Past.{past_meaning, run_past, up_to, at_first_false}
use Rattle.rules.proofs.Runs.Keeping.{AnyNumber, AnyState, any-change, any-made, any-test, ChangeKeeps}
use Rattle.rules.proofs.Runs.Outcomes.{AnyBlock, Onwards, Reaches, reach-turns, reach-into, outcomes-state}
use Rattle.rules.proofs.Runs.Outcomes.{change-in, made_in_lem}
use Rattle.rules.proofs.Runs.SourceRuns.{MeaningKeeps, run-reaches}

-- of the assertions reached one is false, whose ending is e; or none is
abbrev Decided : List Reached → Ending Memory → Type 0
Decided l e = (d : Ending Memory) → up_to l d ≡ e

abbrev Passed : List Reached → Type 0
Passed l = (d : Ending Memory) → up_to l d ≡ d

up_to-append : (l r : List Reached) (d : Ending Memory) → up_to (l ++ r) d ≡ up_to l (up_to r d)
up_to-append [] r d = refl
up_to-append (reached holds s m f ∷ l) r d = up_to-append l r d
up_to-append (reached fails s m f ∷ l) r d = refl
up_to-append (reached undecided s m f ∷ l) r d = up_to-append l r d

-- what was decided stays so, in every run
abbrev Later : PastState → PastState → Type 0
Later x y = (e : Ending Memory) → Decided x.assertions e → Decided y.assertions e

later : Onwards AnyState Later
later = record { valid = λ r. tt; itself = λ v e h. h; further = λ r q e h. q e (r e h) }

later-change : (x : PastState) (c : Change Memory) → ChangeKeeps (Later x) AnyNumber (change_in (with_memory x) c)
later-change x c = change-in AnyState (Later x) AnyNumber (with_memory x) c (λ m u e h. h) (any-change c)

later-reached : (x : PastState) (r : Reached) (e : Ending Memory) → Decided x.assertions e
    → Decided (x.assertions ++ (r ∷ [])) e
later-reached x r e h d = up_to-append x.assertions (r ∷ []) d ∙ h (up_to (r ∷ []) d)

later-asserted : (s : ℕ) (x : PastState) (f : ℕ) (t : Test) → ChangeKeeps (Later x) AnyNumber (asserted_past s x f t)
later-asserted s x f (Ok true) = later-reached x _
later-asserted s x f (Ok false) = later-reached x _
later-asserted s x f (Err c) = (tt, later-reached x _)

past-keeps : MeaningKeeps past_meaning AnyState Later AnyBlock AnyNumber
past-keeps = record {
  onwards = later;
  assigns =
      λ p e ρ x v. later-change x (assigned x.memory (find_source p ρ x.memory) (evaluate_source e ρ x.memory));
  allocates = λ p e ρ x v.
      later-change x (allocated x.memory (find_source p ρ x.memory) (evaluate_source e ρ x.memory));
  frees = λ e ρ x v. later-change x (freed x.memory (evaluate_source e ρ x.memory));
  asserts = λ s p ρ x f v. later-asserted s x f (condition (evaluate_predicate p ρ x.memory));
  decides = λ e ρ x v. any-test (condition (evaluate_source e ρ x.memory));
  makes = λ x v.
      made_in_lem (λ k m. Unit {0}) (λ k y. Unit {0} × Later x y) AnyNumber (with_memory x) (make_block x.memory fixed 1)
      (λ k m u. (tt, λ e h. h)) (any-made (make_block x.memory fixed 1));
  ends = λ x y k g r. r;
  out-of-fuel = tt;
}

-- a run from a state, and what it leaves decided
abbrev Going : Type 0
Going = PastState → ℕ → Outcome PastState

abbrev Stays : Going → Type 0
Stays k = (x : PastState) (f : ℕ) → Reaches Later AnyNumber x f (k x f)

past-stays : (a : Statement) (ρ : Variables) → Stays (λ x f. run_by past_meaning a ρ x f)
past-stays a ρ x f = run-reaches past-keeps a ρ x f tt

stays-into : (n : ℕ) (k : Going) → Stays k → Stays (λ x f. into n (k x f))
stays-into n k h x f = reach-into AnyNumber later n x f (k x f) (h x f)

-- the plain run beside it: alike while no assertion was false; at the first it has ended 33
data Follows : Outcome Memory → Outcome PastState → Type 0 where
  alike-finish : {x : PastState} {f : ℕ} → Passed x.assertions → Follows (finished x.memory f) (finished x f)
  alike_end : {c : Stop} {s : ℕ} {ρ : Variables} {w w₁ : TreePath} {x : PastState} {f : ℕ} → Passed x.assertions
      → Follows (ended c s ρ w x.memory f) (ended c s ρ w₁ x f)
  failed : {s : ℕ} {ρ : Variables} {w : TreePath} {m : Memory} {f : ℕ} {o : Outcome PastState}
      → Decided (ending o).state.assertions (record { number = 33; statement = s; state = m; fuel = f })
      → Follows (ended Stop.FalseAssertion s ρ w m f) o

follows-says : {p : Outcome Memory} {o : Outcome PastState} → Follows p o → at_first_false (ending o) ≡ ending p
follows-says (alike-finish h) = h _
follows-says (alike_end h) = h _
follows-says (failed h) = h _

follows-into : {p : Outcome Memory} {o : Outcome PastState} (n : ℕ) → Follows p o → Follows (into n p) (into n o)
follows-into n (alike-finish h) = alike-finish h
follows-into n (alike_end h) = alike_end h
follows-into n (failed {o = finished x f} h) = failed h
follows-into n (failed {o = ended c s ρ w x f} h) = failed h

follows_next : {p : Outcome Memory} {o : Outcome PastState} (k : Memory → ℕ → Outcome Memory) (kp : Going) → Follows p o
    → Stays kp → ((x : PastState) (f : ℕ) → Passed x.assertions → Follows (k x.memory f) (kp x f))
    → Follows (next p k) (next o kp)
follows_next k kp (alike-finish {x} {f} h) t g = g x f h
follows_next k kp (alike_end h) t g = alike_end h
follows_next k kp (failed {o = finished x f} h) t g =
    failed ((outcomes-state (λ y e. Later x y × (e ≤ f)) AnyNumber (kp x f) (t x f)).0 _ h)
follows_next k kp (failed {o = ended c s ρ w x f} h) t g = failed h

follows-after : (s : ℕ) (ρ : Variables) (x : PastState) (f : ℕ) (c : Change Memory) → Passed x.assertions
    → Follows (after s ρ f c) (after s ρ f (change_in (with_memory x) c))
follows-after s ρ x f (changed m) h = alike-finish {x = with_memory x m} h
follows-after s ρ x f (stopped c m) h = alike_end {x = with_memory x m} h

follows-assert : (s : ℕ) (ρ : Variables) (x : PastState) (f : ℕ) (t : Test) → Passed x.assertions
    → Follows (after s ρ f (asserted x.memory t)) (after s ρ f (asserted_past s x f t))
follows-assert s ρ x f (Ok true) h = alike-finish (λ d. up_to-append x.assertions _ d ∙ h d)
follows-assert s ρ x f (Ok false) h = failed (λ d. up_to-append x.assertions _ d ∙ h _)
follows-assert s ρ x f (Err c) h = alike_end (λ d. up_to-append x.assertions _ d ∙ h d)

follows-decide : (s : ℕ) (ρ : Variables) (t : Test) (x : PastState) (f : ℕ) (a b : Outcome Memory)
    (u v : Outcome PastState) → Passed x.assertions → Follows a u → Follows b v
    → Follows (decide s ρ t x.memory f a b) (decide s ρ t x f u v)
follows-decide s ρ (Ok true) x f a b u v h p q = p
follows-decide s ρ (Ok false) x f a b u v h p q = q
follows-decide s ρ (Err c) x f a b u v h p q = alike_end h

follows-turns : (g s : ℕ) (ρ : Variables) (test : Memory → Test) (k : Memory → ℕ → Outcome Memory) (kp : Going)
    → Stays kp → ((x : PastState) (f : ℕ) → Passed x.assertions → Follows (k x.memory f) (kp x f))
    → (x : PastState) (f : ℕ) → Passed x.assertions
    → Follows (turns g s ρ test k x.memory f) (turns g s ρ (λ y. test y.memory) kp x f)
unfolding turns
follows-turns zero s ρ test k kp t b x f h = alike_end h
follows-turns (suc g) s ρ test k kp t b x zero h = alike_end h
follows-turns (suc g) s ρ test k kp t b x (suc f) h =
    follows-decide s ρ (test x.memory) x f _ _ _ _ h
    (follows_next _ (λ y e. turns g s ρ (λ z. test z.memory) kp y e) (b x f h)
    (λ y e. reach-turns AnyNumber later s ρ (λ z. test z.memory) kp tt (λ z u. any-test (test z.memory))
    (λ z d u. t z d) g y e tt)
    (follows-turns g s ρ test k kp t b)) (alike-finish h)

follows-let : (s : ℕ) (ρ : Variables) (x : PastState) (f : ℕ) (r : Made Memory) (b : ℕ → Memory → ℕ → Outcome Memory)
    (bp : ℕ → Going) → Passed x.assertions
    → ((k : ℕ) (y : PastState) → Passed y.assertions → Follows (b k y.memory f) (bp k y f))
    → Follows (in_let s ρ x.memory f r end_block b)
    (in_let s ρ x f (made_in (with_memory x) r) (λ y k. with_memory y (end_block y.memory k)) bp)
follows-let s ρ x f (unmade c) b bp h g = alike_end h
follows-let s ρ x f (made k m) b bp h g =
    follows_next _ (λ y e. finished (with_memory y (end_block y.memory k)) e) (g k (with_memory x m) h)
    (λ y e. (λ d q. q, omega arith)) (λ y e q. alike-finish {x = with_memory y (end_block y.memory k)} q)

follows : (a : Statement) (ρ : Variables) (x : PastState) (f : ℕ) → Passed x.assertions
    → Follows (run a ρ x.memory f) (run_by past_meaning a ρ x f)
unfolding run_by
follows (skip s) ρ x f h = alike-finish h
follows (assign s p e) ρ x f h =
    follows-after s ρ x f (assigned x.memory (find_source p ρ x.memory) (evaluate_source e ρ x.memory)) h
follows (new s p e) ρ x f h =
    follows-after s ρ x f (allocated x.memory (find_source p ρ x.memory) (evaluate_source e ρ x.memory)) h
follows (free s e) ρ x f h = follows-after s ρ x f (freed x.memory (evaluate_source e ρ x.memory)) h
follows (sequence s a b) ρ x f h =
    follows_next _ (λ y e. into 1 (run_by past_meaning b ρ y e)) (follows-into 0 (follows a ρ x f h))
    (stays-into 1 (λ y e. run_by past_meaning b ρ y e) (past-stays b ρ))
    (λ y e q. follows-into 1 (follows b ρ y e q))
follows (branch s e a b) ρ x f h =
    follows-decide s ρ (condition (evaluate_source e ρ x.memory)) x f _ _ _ _ h
    (follows-into 1 (follows a ρ x f h)) (follows-into 2 (follows b ρ x f h))
follows (while s e b) ρ x f h =
    follows-turns f s ρ (λ m. condition (evaluate_source e ρ m)) _ (λ y d. into 1 (run_by past_meaning b ρ y d))
    (stays-into 1 (λ y d. run_by past_meaning b ρ y d) (past-stays b ρ))
    (λ y d q. follows-into 1 (follows b ρ y d q)) x f h
follows (let_in s z b) ρ x f h =
    follows-let s ρ x f (make_block x.memory fixed 1) _ (λ k y d. into 0 (run_by past_meaning b (extend ρ z k) y d)) h
    (λ k y q. follows-into 0 (follows b (extend ρ z k) y f q))
follows (assert s p) ρ x f h = follows-assert s ρ x f (condition (evaluate_predicate p ρ x.memory)) h

pub past_is : (a : Statement) (ρ : Variables) (m : Memory) (f : ℕ)
    → at_first_false (ending (run_past a ρ m f)) ≡ ending (run a ρ m f)
past_is a ρ m f = follows-says (follows a ρ (record { memory = m; assertions = [] }) f (λ d. refl))
