-- What every statement tells where it stops itself, an ended outcome tells of the statement that its path leads to.
use Prim.Native.Nat.{ℕ, zero, suc}
use mathlib.Core.List.{List}
use mathlib.Core.Option.{Option, none, some}
use mathlib.Core.Path.{◌≡◌, refl, sym, subst}
use lib.ListN.{get_or}
use Rattle.std.specs.Prelude.{Err, Ok, true, false}
use Rattle.rules.specs.Types.{Test, Stop}
use Rattle.rules.specs.Trees.{Place, Expression, Predicate, Operator, Query, Statement, skip, assign, new, free}
use Rattle.rules.specs.Trees.{sequence, branch, while, let_in, assert}
use Rattle.rules.specs.TargetTrees.{TargetStatement}
use Rattle.rules.specs.TargetTrees as target
use Rattle.rules.specs.Memory.{Change, changed, stopped, Made, made, unmade}
use Rattle.rules.specs.Evaluation.{Variables, address_of, condition, extend}
use Rattle.rules.specs.Flow.{parts, of_child, statement_on, Outcome, finished, ended, ending, into, next, after, decide}
use Rattle.rules.specs.Flow.{turns, in_let, Meaning, run_by}
use Rattle.rules.specs.Plain.{asserted}
use Rattle.rules.specs.Watched.{target_parts, WatchedState, value_in, place_in, holding, taken, observed, watch}
use Rattle.rules.proofs.Runs.Keeping.{TestStops, MadeKeeps}
use Rattle.rules.proofs.Runs.TargetRuns.{assigning, allocating, freeing, operating, querying, negating, storing}
use Rattle.rules.proofs.Runs.TargetRuns.{deleting, initialising, making, closing}

-- P of the statement that there is
abbrev pub There : {A : Type 0} → (A → Type 0) → Option A → Type 0
There P none = ⊥
There P (some b) = P b

-- P of the number and the state of a stop
abbrev pub ChangeStops : {S : Type 0} → (Stop → S → Type 0) → Change S → Type 0
ChangeStops P (changed x) = Unit {0}
ChangeStops P (stopped c x) = P c x

-- A are the statements of a language; K is of a statement, the number of its stop, its own number, the variables'
-- blocks and the state
module _ {A S : Type 0} (children : A → List (Option A)) (K : A → Stop → ℕ → Variables → S → Type 0) where
  abbrev pub EndsAt : A → Outcome S → Type 0
  EndsAt a (finished x f) = Unit {0}
  EndsAt a (ended c s ρ w x f) = There (λ b. K b c s ρ x) (statement_on children w a)

  module _ (a : A) where
    abbrev IsChild : ℕ → A → Type 0
    IsChild n b = get_or (children a) n none ≡ some b

    ends-into : (n : ℕ) (b : A) (o : Outcome S) → IsChild n b → EndsAt b o → EndsAt a (into n o)
    unfolding statement_on
    ends-into n b (finished x f) e h = tt
    ends-into n b (ended c s ρ w x f) e h =
        subst (λ (q : Option A). There (λ d. K d c s ρ x) (of_child q (λ d. statement_on children w d))) (sym e) h

    -- child n, and what follows it; J is of the state where a statement starts, with the variables as they are
    ends_next : (J : S → Type 0) (n : ℕ) (b : A) (o : Outcome S) (k : S → ℕ → Outcome S) → IsChild n b → EndsAt b o
        → J (ending o).state → ((x : S) (f : ℕ) → J x → EndsAt a (k x f)) → EndsAt a (next (into n o) k)
    ends_next J n b (finished x f) k e h j g = g x f j
    ends_next J n b (ended c s ρ w x f) k e h j g = ends-into n b (ended c s ρ w x f) e h

    ends-after : (s : ℕ) (ρ : Variables) (f : ℕ) (c : Change S) → ChangeStops (λ k x. K a k s ρ x) c
        → EndsAt a (after s ρ f c)
    unfolding statement_on
    ends-after s ρ f (changed x) h = tt
    ends-after s ρ f (stopped c x) h = h

    ends-decide : (s : ℕ) (ρ : Variables) (t : Test) (x : S) (f : ℕ) (o p : Outcome S)
        → TestStops (λ c. K a c s ρ x) t → EndsAt a o → EndsAt a p → EndsAt a (decide s ρ t x f o p)
    unfolding statement_on
    ends-decide s ρ (Ok true) x f o p k h g = h
    ends-decide s ρ (Ok false) x f o p k h g = g
    ends-decide s ρ (Err c) x f o p k h g = k

    ends-turns : (J : S → Type 0) (s : ℕ) (ρ : Variables) (holds : S → Test) (n : ℕ) (b : A) (body : S → ℕ → Outcome S)
        → IsChild n b → ((x : S) → J x → TestStops (λ c. K a c s ρ x) (holds x))
        → ((x : S) → J x → K a Stop.NoFuel s ρ x)
        → ((x : S) (f : ℕ) → J x → EndsAt b (body x f) × J (ending (body x f)).state)
        → (g : ℕ) (x : S) (f : ℕ) → J x → EndsAt a (turns g s ρ holds (λ y k. into n (body y k)) x f)
    unfolding turns statement_on
    ends-turns J s ρ holds n b body e t out h zero x f j = out x j
    ends-turns J s ρ holds n b body e t out h (suc g) x zero j = out x j
    ends-turns J s ρ holds n b body e t out h (suc g) x (suc f) j =
        ends-decide s ρ (holds x) x f _ (finished x f) (t x j)
        (ends_next J n b (body x f) _ e (h x f j).0 (h x f j).1 (λ y k i.
        ends-turns J s ρ holds n b body e t out h g y k i))
        tt

    -- I is of the new block's name and the state with it
    ends-let : (I : ℕ → S → Type 0) (s : ℕ) (ρ : Variables) (x : S) (f : ℕ) (r : Made S) (close : S → ℕ → S) (n : ℕ)
        (b : A) (body : ℕ → S → ℕ → Outcome S) → IsChild n b → MadeKeeps I (λ c. K a c s ρ x) r
        → ((k : ℕ) (y : S) → I k y → EndsAt b (body k y f))
        → EndsAt a (in_let s ρ x f r close (λ k y g. into n (body k y g)))
    unfolding statement_on
    ends-let I s ρ x f (unmade c) close n b body e m h = m
    ends-let I s ρ x f (made k y) close n b body e m h = closed (body k y f) (h k y m)
      where
        closed : (o : Outcome S) → EndsAt b o → EndsAt a (next (into n o) (λ z g. finished (close z k) g))
        closed (finished z g) i = tt
        closed (ended c s₁ ρ₁ w z g) i = ends-into n b (ended c s₁ ρ₁ w z g) e i

-- what follows from that and from the state that is left is told too
pub ends-map : {A S : Type 0} (children : A → List (Option A)) (K L : A → Stop → ℕ → Variables → S → Type 0) (a : A)
    (o : Outcome S)
    → ((b : A) (c : Stop) (s : ℕ) (ρ : Variables) → K b c s ρ (ending o).state → L b c s ρ (ending o).state)
    → EndsAt children K a o → EndsAt children L a o
ends-map children K L a (finished x f) g h = tt
ends-map {A} children K L a (ended c s ρ w x f) g h = go (statement_on children w a) h
  where
    go : (q : Option A) → There (λ b. K b c s ρ x) q → There (λ b. L b c s ρ x) q
    go none i = i
    go (some b) i = g b c s ρ i

-- what each statement of a source program tells where it stops itself, and what its run keeps
pub record SourceEnds {S : Type 0} (M : Meaning S) (J : Variables → S → Type 0)
    (K : Statement → Stop → ℕ → Variables → S → Type 0) : Type 0 where
  pub keeps : (a : Statement) (ρ : Variables) (x : S) (f : ℕ) → J ρ x → J ρ (ending (run_by M a ρ x f)).state
  pub assigns : (s : ℕ) (p : Place ⊥) (e : Expression ⊥) (ρ : Variables) (x : S) → J ρ x
      → ChangeStops (λ c y. K (assign s p e) c s ρ y) (M.assigns p e ρ x)
  pub allocates : (s : ℕ) (p : Place ⊥) (e : Expression ⊥) (ρ : Variables) (x : S) → J ρ x
      → ChangeStops (λ c y. K (new s p e) c s ρ y) (M.allocates p e ρ x)
  pub frees : (s : ℕ) (e : Expression ⊥) (ρ : Variables) (x : S) → J ρ x
      → ChangeStops (λ c y. K (free s e) c s ρ y) (M.frees e ρ x)
  pub asserts : (s : ℕ) (p : Predicate) (ρ : Variables) (x : S) (f : ℕ) → J ρ x
      → ChangeStops (λ c y. K (assert s p) c s ρ y) (M.asserts s p ρ x f)
  pub branches : (s : ℕ) (e : Expression ⊥) (a b : Statement) (ρ : Variables) (x : S) → J ρ x
      → TestStops (λ c. K (branch s e a b) c s ρ x) (M.decides e ρ x)
  pub turns-on : (s : ℕ) (e : Expression ⊥) (b : Statement) (ρ : Variables) (x : S) → J ρ x
      → TestStops (λ c. K (while s e b) c s ρ x) (M.decides e ρ x)
  pub out-of-fuel : (s : ℕ) (e : Expression ⊥) (b : Statement) (ρ : Variables) (x : S) → J ρ x
      → K (while s e b) Stop.NoFuel s ρ x
  pub makes : (s z : ℕ) (b : Statement) (ρ : Variables) (x : S) → J ρ x
      → MadeKeeps (λ k y. J (extend ρ z k) y) (λ c. K (let_in s z b) c s ρ x) (M.makes x)

module _ {S : Type 0} {M : Meaning S} {J : Variables → S → Type 0} {K : Statement → Stop → ℕ → Variables → S → Type 0}
    (h : SourceEnds M J K) where
  act : (a : Statement) (s : ℕ) (ρ : Variables) (f : ℕ) (c : Change S) → ChangeStops (λ k x. K a k s ρ x) c
      → EndsAt parts K a (after s ρ f c)
  act a s ρ f c k = ends-after parts K a s ρ f c k

  pub run-ends-at : (a : Statement) (ρ : Variables) (x : S) (f : ℕ) → J ρ x → EndsAt parts K a (run_by M a ρ x f)
  unfolding run_by
  run-ends-at (skip s) ρ x f j = tt
  run-ends-at (assign s p e) ρ x f j =
      act (assign s p e) s ρ f (M.assigns p e ρ x) (h.assigns s p e ρ x j)
  run-ends-at (new s p e) ρ x f j =
      act (new s p e) s ρ f (M.allocates p e ρ x) (h.allocates s p e ρ x j)
  run-ends-at (free s e) ρ x f j = act (free s e) s ρ f (M.frees e ρ x) (h.frees s e ρ x j)
  run-ends-at (sequence s a b) ρ x f j =
      ends_next parts K (sequence s a b) (J ρ) 0 a (run_by M a ρ x f) (λ y g. into 1 (run_by M b ρ y g)) refl
      (run-ends-at a ρ x f j) (h.keeps a ρ x f j) (λ y g i.
      ends-into parts K (sequence s a b) 1 b (run_by M b ρ y g) refl (run-ends-at b ρ y g i))
  run-ends-at (branch s e a b) ρ x f j =
      ends-decide parts K (branch s e a b) s ρ (M.decides e ρ x) x f (into 1 (run_by M a ρ x f))
      (into 2 (run_by M b ρ x f)) (h.branches s e a b ρ x j)
      (ends-into parts K (branch s e a b) 1 a (run_by M a ρ x f) refl (run-ends-at a ρ x f j))
      (ends-into parts K (branch s e a b) 2 b (run_by M b ρ x f) refl (run-ends-at b ρ x f j))
  run-ends-at (while s e b) ρ x f j =
      ends-turns parts K (while s e b) (J ρ) s ρ (λ y. M.decides e ρ y) 1 b (λ y g. run_by M b ρ y g) refl
      (λ y i. h.turns-on s e b ρ y i) (λ y i. h.out-of-fuel s e b ρ y i)
      (λ y g i. (run-ends-at b ρ y g i, h.keeps b ρ y g i)) f x f j
  run-ends-at (let_in s z b) ρ x f j =
      ends-let parts K (let_in s z b) (λ k y. J (extend ρ z k) y) s ρ x f (M.makes x) M.ends 0 b
      (λ k y g. run_by M b (extend ρ z k) y g) refl (h.makes s z b ρ x j)
      (λ k y i. run-ends-at b (extend ρ z k) y f i)
  run-ends-at (assert s p) ρ x f j =
      act (assert s p) s ρ f (M.asserts s p ρ x f) (h.asserts s p ρ x f j)

-- the same of target statements
pub record TargetEnds (J : Variables → WatchedState → Type 0)
    (K : TargetStatement → Stop → ℕ → Variables → WatchedState → Type 0) : Type 0 where
  pub keeps : (a : TargetStatement) (ρ : Variables) (x : WatchedState) (f : ℕ) → J ρ x
      → J ρ (ending (watch a ρ x f)).state
  pub assigns : (s : ℕ) (p : Place ℕ) (e : Expression ℕ) (ρ : Variables) (x : WatchedState) → J ρ x
      → ChangeStops (λ c y. K (target.assign s p e) c s ρ y) (assigning p e ρ x)
  pub allocates : (s : ℕ) (p : Place ℕ) (e : Expression ℕ) (ρ : Variables) (x : WatchedState) → J ρ x
      → ChangeStops (λ c y. K (target.new s p e) c s ρ y) (allocating p e ρ x)
  pub frees : (s : ℕ) (e : Expression ℕ) (ρ : Variables) (x : WatchedState) → J ρ x
      → ChangeStops (λ c y. K (target.free s e) c s ρ y) (freeing e ρ x)
  pub branches : (s : ℕ) (e : Expression ℕ) (a b : TargetStatement) (ρ : Variables) (x : WatchedState) → J ρ x
      → TestStops (λ c. K (target.branch s e a b) c s ρ x) (condition (value_in e ρ x))
  pub turns-on : (s : ℕ) (e : Expression ℕ) (b : TargetStatement) (ρ : Variables) (x : WatchedState) → J ρ x
      → TestStops (λ c. K (target.while s e b) c s ρ x) (condition (value_in e ρ x))
  pub out-of-fuel : (s : ℕ) (e : Expression ℕ) (b : TargetStatement) (ρ : Variables) (x : WatchedState) → J ρ x
      → K (target.while s e b) Stop.NoFuel s ρ x
  pub makes : (s z : ℕ) (b : TargetStatement) (ρ : Variables) (x : WatchedState) → J ρ x
      → MadeKeeps (λ k y. J (extend ρ z k) y) (λ c. K (target.let_in s z b) c s ρ x) (making x)
  pub takes-address : (s n : ℕ) (p : Place ℕ) (ρ : Variables) (x : WatchedState) → J ρ x
      → ChangeStops (λ c y. K (target.take_address s n p) c s ρ y) (taken x n (address_of (place_in p ρ x)))
  pub takes-value : (s n : ℕ) (e : Expression ℕ) (ρ : Variables) (x : WatchedState) → J ρ x
      → ChangeStops (λ c y. K (target.take_value s n e) c s ρ y) (taken x n (value_in e ρ x))
  pub takes-operation : (s n : ℕ) (q : Operator) (ρ : Variables) (x : WatchedState) → J ρ x
      → ChangeStops (λ c y. K (target.take_operation s n q) c s ρ y) (taken x n (operating q n x))
  pub takes-query : (s n : ℕ) (q : Query) (ρ : Variables) (x : WatchedState) → J ρ x
      → ChangeStops (λ c y. K (target.take_query s n q) c s ρ y) (taken x n (querying q n x))
  pub takes-not : (s n : ℕ) (ρ : Variables) (x : WatchedState) → J ρ x
      → ChangeStops (λ c y. K (target.take_not s n) c s ρ y) (taken x n (negating n x))
  pub branches-on : (s n : ℕ) (a b : TargetStatement) (ρ : Variables) (x : WatchedState) → J ρ x
      → TestStops (λ c. K (target.branch_on s n a b) c s ρ x) (condition (holding x n))
  pub asserts-on : (s n : ℕ) (ρ : Variables) (x : WatchedState) → J ρ x
      → ChangeStops (λ c y. K (target.assert_on s n) c s ρ y) (asserted x (condition (holding x n)))
  pub stores : (s n : ℕ) (ρ : Variables) (x : WatchedState) → J ρ x
      → ChangeStops (λ c y. K (target.store_block s n) c s ρ y) (observed x (storing n x))
  pub deletes : (s n : ℕ) (ρ : Variables) (x : WatchedState) → J ρ x
      → ChangeStops (λ c y. K (target.delete_block s n) c s ρ y) (observed x (deleting n x))
  pub initialises : (s n : ℕ) (ρ : Variables) (x : WatchedState) → J ρ x
      → ChangeStops (λ c y. K (target.initialise s n) c s ρ y) (observed x (initialising n x))

module _ {J : Variables → WatchedState → Type 0} {K : TargetStatement → Stop → ℕ → Variables → WatchedState → Type 0}
    (h : TargetEnds J K) where
  target-act : (a : TargetStatement) (s : ℕ) (ρ : Variables) (f : ℕ) (c : Change WatchedState)
      → ChangeStops (λ k x. K a k s ρ x) c → EndsAt target_parts K a (after s ρ f c)
  target-act a s ρ f c k = ends-after target_parts K a s ρ f c k

  pub watch-ends-at : (a : TargetStatement) (ρ : Variables) (x : WatchedState) (f : ℕ) → J ρ x
      → EndsAt target_parts K a (watch a ρ x f)
  unfolding watch
  watch-ends-at (target.skip s) ρ x f j = tt
  watch-ends-at (target.assign s p e) ρ x f j =
      target-act (target.assign s p e) s ρ f (assigning p e ρ x) (h.assigns s p e ρ x j)
  watch-ends-at (target.new s p e) ρ x f j =
      target-act (target.new s p e) s ρ f (allocating p e ρ x) (h.allocates s p e ρ x j)
  watch-ends-at (target.free s e) ρ x f j =
      target-act (target.free s e) s ρ f (freeing e ρ x) (h.frees s e ρ x j)
  watch-ends-at (target.sequence s a b) ρ x f j =
      ends_next target_parts K (target.sequence s a b) (J ρ) 0 a (watch a ρ x f) (λ y g. into 1 (watch b ρ y g)) refl
      (watch-ends-at a ρ x f j) (h.keeps a ρ x f j) (λ y g i.
      ends-into target_parts K (target.sequence s a b) 1 b (watch b ρ y g) refl (watch-ends-at b ρ y g i))
  watch-ends-at (target.branch s e a b) ρ x f j =
      ends-decide target_parts K (target.branch s e a b) s ρ (condition (value_in e ρ x)) x f (into 1 (watch a ρ x f))
      (into 2 (watch b ρ x f)) (h.branches s e a b ρ x j)
      (ends-into target_parts K (target.branch s e a b) 1 a (watch a ρ x f) refl (watch-ends-at a ρ x f j))
      (ends-into target_parts K (target.branch s e a b) 2 b (watch b ρ x f) refl (watch-ends-at b ρ x f j))
  watch-ends-at (target.while s e b) ρ x f j =
      ends-turns target_parts K (target.while s e b) (J ρ) s ρ (λ y. condition (value_in e ρ y)) 1 b (λ y g. watch b ρ y g)
      refl (λ y i. h.turns-on s e b ρ y i) (λ y i. h.out-of-fuel s e b ρ y i)
      (λ y g i. (watch-ends-at b ρ y g i, h.keeps b ρ y g i)) f x f j
  watch-ends-at (target.let_in s z b) ρ x f j =
      ends-let target_parts K (target.let_in s z b) (λ k y. J (extend ρ z k) y) s ρ x f (making x) closing 0 b
      (λ k y g. watch b (extend ρ z k) y g) refl (h.makes s z b ρ x j)
      (λ k y i. watch-ends-at b (extend ρ z k) y f i)
  watch-ends-at (target.take_address s n p) ρ x f j =
      target-act (target.take_address s n p) s ρ f (taken x n (address_of (place_in p ρ x)))
      (h.takes-address s n p ρ x j)
  watch-ends-at (target.take_value s n e) ρ x f j =
      target-act (target.take_value s n e) s ρ f (taken x n (value_in e ρ x))
      (h.takes-value s n e ρ x j)
  watch-ends-at (target.take_operation s n q) ρ x f j =
      target-act (target.take_operation s n q) s ρ f (taken x n (operating q n x))
      (h.takes-operation s n q ρ x j)
  watch-ends-at (target.take_query s n q) ρ x f j =
      target-act (target.take_query s n q) s ρ f (taken x n (querying q n x))
      (h.takes-query s n q ρ x j)
  watch-ends-at (target.take_not s n) ρ x f j =
      target-act (target.take_not s n) s ρ f (taken x n (negating n x)) (h.takes-not s n ρ x j)
  watch-ends-at (target.branch_on s n a b) ρ x f j =
      ends-decide target_parts K (target.branch_on s n a b) s ρ (condition (holding x n)) x f (into 1 (watch a ρ x f))
      (into 2 (watch b ρ x f)) (h.branches-on s n a b ρ x j)
      (ends-into target_parts K (target.branch_on s n a b) 1 a (watch a ρ x f) refl (watch-ends-at a ρ x f j))
      (ends-into target_parts K (target.branch_on s n a b) 2 b (watch b ρ x f) refl (watch-ends-at b ρ x f j))
  watch-ends-at (target.assert_on s n) ρ x f j =
      target-act (target.assert_on s n) s ρ f (asserted x (condition (holding x n)))
      (h.asserts-on s n ρ x j)
  watch-ends-at (target.store_block s n) ρ x f j =
      target-act (target.store_block s n) s ρ f (observed x (storing n x)) (h.stores s n ρ x j)
  watch-ends-at (target.delete_block s n) ρ x f j =
      target-act (target.delete_block s n) s ρ f (observed x (deleting n x)) (h.deletes s n ρ x j)
  watch-ends-at (target.initialise s n) ρ x f j =
      target-act (target.initialise s n) s ρ f (observed x (initialising n x))
      (h.initialises s n ρ x j)
