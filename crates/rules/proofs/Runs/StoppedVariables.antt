-- The variables' blocks that an ended outcome tells are those that the run started with, but where a let on the path to
-- its statement has given a variable another, in every run.
use Prim.Native.Nat.{ℕ, zero, suc}
use mathlib.Core.Bool.{Bool, true, false, cond, ◌||◌}
use mathlib.Core.List.{List, [], ◌∷◌}
use mathlib.Core.Option.{Option, none, some}
use mathlib.Core.Path.{◌≡◌, refl, sym, ap, ◌∙◌}
use lib.Dec.{eqb}
use lib.ListN.{get_or}
use Rattle.std.specs.Prelude.{Err, Ok}
use Rattle.rules.specs.Types.{Test}
use Rattle.rules.specs.Trees.{Statement, skip, assign, new, free, sequence, branch, while, let_in, assert}
use Rattle.rules.specs.TargetTrees.{TargetStatement}
use Rattle.rules.specs.TargetTrees as target
use Rattle.rules.specs.Memory.{Change, changed, stopped, Made, made, unmade}
use Rattle.rules.specs.Evaluation.{Variables, address_of, condition, extend}
use Rattle.rules.specs.Flow.{TreePath, parts, Outcome, finished, ended, into, next, after, decide, turns, in_let}
use Rattle.rules.specs.Flow.{Meaning, run_by}
use Rattle.rules.specs.Plain.{asserted}
use Rattle.rules.specs.Watched.{target_parts, WatchedState, value_in, place_in, holding, taken, observed, watch}
use Rattle.rules.proofs.Lists.BooleanLaws.{neither}
use Rattle.rules.proofs.Runs.TargetRuns.{assigning, allocating, freeing, operating, querying, negating, storing}
use Rattle.rules.proofs.Runs.TargetRuns.{deleting, initialising, making, closing}

-- A are the statements of a language, of which some bind a variable
module _ {A : Type 0} (children : A → List (Option A)) (binds : A → ℕ → Bool) where
  abbrev in_child : Option A → (A → Bool) → Bool
  in_child none test = false
  in_child (some b) test = test b

  -- a statement on the path, before its end, binds variable y
  abbrev pub bound_on : TreePath → A → ℕ → Bool
  bound_on [] a y = false
  bound_on (n ∷ w) a y = binds a y || in_child (get_or (children a) n none) (λ b. bound_on w b y)

  abbrev pub KeepsVariables : {S : Type 0} → A → Variables → Outcome S → Type 0
  KeepsVariables a ρ (finished x f) = Unit {0}
  KeepsVariables a ρ (ended c s ρ₁ w x f) = (y : ℕ) → bound_on w a y ≡ false → ρ₁ y ≡ ρ y

  module _ {S : Type 0} (a : A) (ρ : Variables) where
    -- child b runs with the variables ρ₂, which differ where a binds one
    kept-into : (n : ℕ) (b : A) (ρ₂ : Variables) (o : Outcome S) → get_or (children a) n none ≡ some b
        → ((y : ℕ) → binds a y ≡ false → ρ₂ y ≡ ρ y) → KeepsVariables b ρ₂ o → KeepsVariables a ρ (into n o)
    kept-into n b ρ₂ (finished x f) e g h = tt
    kept-into n b ρ₂ (ended c s ρ₁ w x f) e g h = λ y u.
        let v = neither (binds a y) (bound_on w b y)
        (ap (λ (q : Option A). binds a y || in_child q (λ d. bound_on w d y)) (sym e) ∙ u) in
        h y v.1 ∙ g y v.0

    kept_next : (o : Outcome S) (k : S → ℕ → Outcome S) → KeepsVariables a ρ o
        → ((x : S) (f : ℕ) → KeepsVariables a ρ (k x f)) → KeepsVariables a ρ (next o k)
    kept_next (finished x f) k h g = g x f
    kept_next (ended c s ρ₁ w x f) k h g = h

    kept-after : (s f : ℕ) (c : Change S) → KeepsVariables a ρ (after s ρ f c)
    kept-after s f (changed x) = tt
    kept-after s f (stopped c x) = λ y u. refl

    kept-decide : (s : ℕ) (t : Test) (x : S) (f : ℕ) (o p : Outcome S) → KeepsVariables a ρ o → KeepsVariables a ρ p
        → KeepsVariables a ρ (decide s ρ t x f o p)
    kept-decide s (Ok true) x f o p h g = h
    kept-decide s (Ok false) x f o p h g = g
    kept-decide s (Err c) x f o p h g = λ y u. refl

    kept-turns : (s : ℕ) (holds : S → Test) (body : S → ℕ → Outcome S)
        → ((x : S) (f : ℕ) → KeepsVariables a ρ (body x f)) → (g : ℕ) (x : S) (f : ℕ)
        → KeepsVariables a ρ (turns g s ρ holds body x f)
    unfolding turns
    kept-turns s holds body b zero x f = λ y u. refl
    kept-turns s holds body b (suc g) x zero = λ y u. refl
    kept-turns s holds body b (suc g) x (suc f) =
        kept-decide s (holds x) x f _ (finished x f)
        (kept_next (body x f) _ (b x f) (λ y k. kept-turns s holds body b g y k)) tt

    kept-let : (s : ℕ) (x : S) (f : ℕ) (r : Made S) (close : S → ℕ → S) (body : ℕ → S → ℕ → Outcome S)
        → ((k : ℕ) (y : S) → KeepsVariables a ρ (body k y f)) → KeepsVariables a ρ (in_let s ρ x f r close body)
    kept-let s x f (unmade c) close body b = λ y u. refl
    kept-let s x f (made k y) close body b = kept_next (body k y f) _ (b k y) (λ z g. tt)

-- a let binds its variable
abbrev pub binds_variable : Statement → ℕ → Bool
binds_variable (skip s) y = false
binds_variable (assign s p e) y = false
binds_variable (new s p e) y = false
binds_variable (free s e) y = false
binds_variable (sequence s a b) y = false
binds_variable (branch s e a b) y = false
binds_variable (while s e b) y = false
binds_variable (let_in s x b) y = eqb y x
binds_variable (assert s p) y = false

abbrev pub target_binds : TargetStatement → ℕ → Bool
target_binds (target.skip s) y = false
target_binds (target.assign s p e) y = false
target_binds (target.new s p e) y = false
target_binds (target.free s e) y = false
target_binds (target.sequence s a b) y = false
target_binds (target.branch s e a b) y = false
target_binds (target.while s e b) y = false
target_binds (target.let_in s x b) y = eqb y x
target_binds (target.take_address s n p) y = false
target_binds (target.take_value s n e) y = false
target_binds (target.take_operation s n o) y = false
target_binds (target.take_query s n q) y = false
target_binds (target.take_not s n) y = false
target_binds (target.branch_on s n a b) y = false
target_binds (target.assert_on s n) y = false
target_binds (target.store_block s n) y = false
target_binds (target.delete_block s n) y = false
target_binds (target.initialise s n) y = false

-- in the body of a let
bound-elsewhere : (ρ : Variables) (z k y : ℕ) → eqb y z ≡ false → extend ρ z k y ≡ ρ y
bound-elsewhere ρ z k y h = ap (λ (q : Bool). cond q k (ρ y)) h

module _ {S : Type 0} (M : Meaning S) where
  pub run-variables : (a : Statement) (ρ : Variables) (x : S) (f : ℕ)
      → KeepsVariables parts binds_variable a ρ (run_by M a ρ x f)
  unfolding run_by
  run-variables (skip s) ρ x f = tt
  run-variables (assign s p e) ρ x f = kept-after parts binds_variable (assign s p e) ρ s f (M.assigns p e ρ x)
  run-variables (new s p e) ρ x f = kept-after parts binds_variable (new s p e) ρ s f (M.allocates p e ρ x)
  run-variables (free s e) ρ x f = kept-after parts binds_variable (free s e) ρ s f (M.frees e ρ x)
  run-variables (sequence s a b) ρ x f =
      let c = sequence s a b in
      kept_next parts binds_variable c ρ (into 0 (run_by M a ρ x f)) (λ y g. into 1 (run_by M b ρ y g))
      (kept-into parts binds_variable c ρ 0 a ρ (run_by M a ρ x f) refl (λ y h. refl) (run-variables a ρ x f))
      (λ y g. kept-into parts binds_variable c ρ 1 b ρ (run_by M b ρ y g) refl (λ y₁ h. refl) (run-variables b ρ y g))
  run-variables (branch s e a b) ρ x f =
      let c = branch s e a b in
      kept-decide parts binds_variable c ρ s (M.decides e ρ x) x f (into 1 (run_by M a ρ x f)) (into 2 (run_by M b ρ x f))
      (kept-into parts binds_variable c ρ 1 a ρ (run_by M a ρ x f) refl (λ y h. refl) (run-variables a ρ x f))
      (kept-into parts binds_variable c ρ 2 b ρ (run_by M b ρ x f) refl (λ y h. refl) (run-variables b ρ x f))
  run-variables (while s e b) ρ x f =
      let c = while s e b in
      kept-turns parts binds_variable c ρ s (λ y. M.decides e ρ y) (λ y g. into 1 (run_by M b ρ y g))
      (λ y g. kept-into parts binds_variable c ρ 1 b ρ (run_by M b ρ y g) refl (λ y₁ h. refl) (run-variables b ρ y g))
      f x f
  run-variables (let_in s z b) ρ x f =
      let c = let_in s z b in
      kept-let parts binds_variable c ρ s x f (M.makes x) M.ends (λ k y g. into 0 (run_by M b (extend ρ z k) y g))
      (λ k y. kept-into parts binds_variable c ρ 0 b (extend ρ z k) (run_by M b (extend ρ z k) y f) refl
      (λ y₁ h. bound-elsewhere ρ z k y₁ h) (run-variables b (extend ρ z k) y f))
  run-variables (assert s p) ρ x f = kept-after parts binds_variable (assert s p) ρ s f (M.asserts s p ρ x f)

-- a target statement that makes a change
watch-change : (a : TargetStatement) (ρ : Variables) (s f : ℕ) (c : Change WatchedState)
    → KeepsVariables target_parts target_binds a ρ (after s ρ f c)
watch-change a ρ s f c = kept-after target_parts target_binds a ρ s f c

pub watch-variables : (a : TargetStatement) (ρ : Variables) (x : WatchedState) (f : ℕ)
    → KeepsVariables target_parts target_binds a ρ (watch a ρ x f)
unfolding watch
watch-variables (target.skip s) ρ x f = tt
watch-variables (target.assign s p e) ρ x f = watch-change (target.assign s p e) ρ s f (assigning p e ρ x)
watch-variables (target.new s p e) ρ x f = watch-change (target.new s p e) ρ s f (allocating p e ρ x)
watch-variables (target.free s e) ρ x f = watch-change (target.free s e) ρ s f (freeing e ρ x)
watch-variables (target.sequence s a b) ρ x f =
    let c = target.sequence s a b in
    kept_next target_parts target_binds c ρ (into 0 (watch a ρ x f)) (λ y g. into 1 (watch b ρ y g))
    (kept-into target_parts target_binds c ρ 0 a ρ (watch a ρ x f) refl (λ y h. refl) (watch-variables a ρ x f))
    (λ y g. kept-into target_parts target_binds c ρ 1 b ρ (watch b ρ y g) refl (λ y₁ h. refl) (watch-variables b ρ y g))
watch-variables (target.branch s e a b) ρ x f =
    let c = target.branch s e a b in
    kept-decide target_parts target_binds c ρ s (condition (value_in e ρ x)) x f (into 1 (watch a ρ x f))
    (into 2 (watch b ρ x f))
    (kept-into target_parts target_binds c ρ 1 a ρ (watch a ρ x f) refl (λ y h. refl) (watch-variables a ρ x f))
    (kept-into target_parts target_binds c ρ 2 b ρ (watch b ρ x f) refl (λ y h. refl) (watch-variables b ρ x f))
watch-variables (target.while s e b) ρ x f =
    let c = target.while s e b in
    kept-turns target_parts target_binds c ρ s (λ y. condition (value_in e ρ y)) (λ y g. into 1 (watch b ρ y g))
    (λ y g. kept-into target_parts target_binds c ρ 1 b ρ (watch b ρ y g) refl (λ y₁ h. refl) (watch-variables b ρ y g))
    f x f
watch-variables (target.let_in s z b) ρ x f =
    let c = target.let_in s z b in
    kept-let target_parts target_binds c ρ s x f (making x) closing (λ k y g. into 0 (watch b (extend ρ z k) y g))
    (λ k y. kept-into target_parts target_binds c ρ 0 b (extend ρ z k) (watch b (extend ρ z k) y f) refl
    (λ y₁ h. bound-elsewhere ρ z k y₁ h) (watch-variables b (extend ρ z k) y f))
watch-variables (target.take_address s n p) ρ x f =
    watch-change (target.take_address s n p) ρ s f (taken x n (address_of (place_in p ρ x)))
watch-variables (target.take_value s n e) ρ x f = watch-change (target.take_value s n e) ρ s f (taken x n (value_in e ρ x))
watch-variables (target.take_operation s n q) ρ x f =
    watch-change (target.take_operation s n q) ρ s f (taken x n (operating q n x))
watch-variables (target.take_query s n q) ρ x f =
    watch-change (target.take_query s n q) ρ s f (taken x n (querying q n x))
watch-variables (target.take_not s n) ρ x f = watch-change (target.take_not s n) ρ s f (taken x n (negating n x))
watch-variables (target.branch_on s n a b) ρ x f =
    let c = target.branch_on s n a b in
    kept-decide target_parts target_binds c ρ s (condition (holding x n)) x f (into 1 (watch a ρ x f))
    (into 2 (watch b ρ x f))
    (kept-into target_parts target_binds c ρ 1 a ρ (watch a ρ x f) refl (λ y h. refl) (watch-variables a ρ x f))
    (kept-into target_parts target_binds c ρ 2 b ρ (watch b ρ x f) refl (λ y h. refl) (watch-variables b ρ x f))
watch-variables (target.assert_on s n) ρ x f =
    watch-change (target.assert_on s n) ρ s f (asserted x (condition (holding x n)))
watch-variables (target.store_block s n) ρ x f = watch-change (target.store_block s n) ρ s f (observed x (storing n x))
watch-variables (target.delete_block s n) ρ x f = watch-change (target.delete_block s n) ρ s f (observed x (deleting n x))
watch-variables (target.initialise s n) ρ x f =
    watch-change (target.initialise s n) ρ s f (observed x (initialising n x))
