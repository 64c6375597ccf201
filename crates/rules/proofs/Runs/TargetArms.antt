-- What each statement of a target table does in the watched run, by its kind.
use Prim.Native.Nat.{ℕ, suc}
use mathlib.Core.List.{List, []}
use mathlib.Core.Path.{◌≡◌, sym, ap, ◌∙◌}
use Rattle.rules.specs.Types.{Stop}
use Rattle.rules.specs.Records.{kind_of, mark_of, child_a, child_b, child_c}
use Rattle.rules.specs.Kinds.{target, statement}
use Rattle.rules.specs.TargetTrees.{TargetStatement}
use Rattle.rules.specs.Nodes.{TargetNode, operator_of, query_of, target_statement, HasSort, target_expression_at}
use Rattle.rules.specs.Nodes.{target_place_at, target_statement_at, number_at}
use Rattle.rules.specs.Evaluation.{Variables, address_of, condition, extend}
use Rattle.rules.specs.Flow.{finished, ended, into, next, after, decide, in_let}
use Rattle.rules.specs.Plain.{asserted}
use Rattle.rules.specs.Watched.{WatchedState, value_in, place_in, holding, taken, observed, watch}
use Rattle.rules.proofs.Acceptance.KindViews.{form_at}
use Rattle.rules.proofs.Acceptance.FormLaws.{node_as}
use Rattle.rules.proofs.Runs.TargetRuns.{assigning, allocating, freeing, operating, querying, negating, storing}
use Rattle.rules.proofs.Runs.TargetRuns.{deleting, initialising, making, closing}
use Rattle.rules.proofs.Runs.Turns.{watched-while-zero, watched-while-suc}
use Rattle.rules.proofs.Runs.StatementArms.{statement-form}

module _ (t : List ℕ) (n : ℕ) (h : HasSort target statement t n) where
  module _ (ρ : Variables) (x : WatchedState) (f : ℕ) where
    watch-kind : (k : ℕ) → kind_of t n ≡ k
        → watch (target_statement_at t n) ρ x f
        ≡ watch (target_statement (node_as target (form_at target k).kind t n)) ρ x f
    watch-kind k e = ap (λ (y : TargetNode). watch (target_statement y) ρ x f) (statement-form target t n h k e).node

    pub watch-skip : kind_of t n ≡ 40
        → watch (target_statement_at t n) ρ x f
        ≡ finished x f
    unfolding watch
    watch-skip e = watch-kind 40 e

    pub watch-assign : kind_of t n ≡ 41
        → watch (target_statement_at t n) ρ x f
        ≡ after (number_at t n) ρ f (assigning (target_place_at t (child_a t n)) (target_expression_at t (child_b t n)) ρ x)
    unfolding watch
    watch-assign e = watch-kind 41 e

    pub watch-new : kind_of t n ≡ 42
        → watch (target_statement_at t n) ρ x f
        ≡ after (number_at t n) ρ f (allocating (target_place_at t (child_a t n)) (target_expression_at t (child_b t n)) ρ x)
    unfolding watch
    watch-new e = watch-kind 42 e

    pub watch-free : kind_of t n ≡ 43
        → watch (target_statement_at t n) ρ x f
        ≡ after (number_at t n) ρ f (freeing (target_expression_at t (child_a t n)) ρ x)
    unfolding watch
    watch-free e = watch-kind 43 e

    pub watch-sequence : kind_of t n ≡ 44
        → watch (target_statement_at t n) ρ x f
        ≡ next (into 0 (watch (target_statement_at t (child_a t n)) ρ x f))
        (λ y g. into 1 (watch (target_statement_at t (child_b t n)) ρ y g))
    unfolding watch
    watch-sequence e = watch-kind 44 e

    pub watch-branch : kind_of t n ≡ 45
        → watch (target_statement_at t n) ρ x f
        ≡ decide (number_at t n) ρ (condition (value_in (target_expression_at t (child_a t n)) ρ x)) x f
        (into 1 (watch (target_statement_at t (child_b t n)) ρ x f))
        (into 2 (watch (target_statement_at t (child_c t n)) ρ x f))
    unfolding watch
    watch-branch e = watch-kind 45 e

    pub watch-let : kind_of t n ≡ 47
        → watch (target_statement_at t n) ρ x f
        ≡ in_let (number_at t n) ρ x f (making x) closing
        (λ k y g. into 0 (watch (target_statement_at t (child_a t n)) (extend ρ (mark_of t n) k) y g))
    unfolding watch
    watch-let e = watch-kind 47 e

    pub watch-address : kind_of t n ≡ 60
        → watch (target_statement_at t n) ρ x f
        ≡ after (number_at t n) ρ f (taken x (mark_of t n) (address_of (place_in (target_place_at t (child_a t n)) ρ x)))
    unfolding watch
    watch-address e = watch-kind 60 e

    pub watch-value : kind_of t n ≡ 61
        → watch (target_statement_at t n) ρ x f
        ≡ after (number_at t n) ρ f (taken x (mark_of t n) (value_in (target_expression_at t (child_a t n)) ρ x))
    unfolding watch
    watch-value e = watch-kind 61 e

    pub watch-operation : kind_of t n ≡ 63
        → watch (target_statement_at t n) ρ x f
        ≡ after (number_at t n) ρ f (taken x (mark_of t n) (operating (operator_of (child_c t n)) (mark_of t n) x))
    unfolding watch
    watch-operation e = watch-kind 63 e

    pub watch-query : kind_of t n ≡ 64
        → watch (target_statement_at t n) ρ x f
        ≡ after (number_at t n) ρ f (taken x (mark_of t n) (querying (query_of (child_c t n)) (mark_of t n) x))
    unfolding watch
    watch-query e = watch-kind 64 e

    pub watch-not : kind_of t n ≡ 65
        → watch (target_statement_at t n) ρ x f
        ≡ after (number_at t n) ρ f (taken x (mark_of t n) (negating (mark_of t n) x))
    unfolding watch
    watch-not e = watch-kind 65 e

    pub watch-branch-on : kind_of t n ≡ 66
        → watch (target_statement_at t n) ρ x f
        ≡ decide (number_at t n) ρ (condition (holding x (mark_of t n))) x f
        (into 1 (watch (target_statement_at t (child_b t n)) ρ x f))
        (into 2 (watch (target_statement_at t (child_c t n)) ρ x f))
    unfolding watch
    watch-branch-on e = watch-kind 66 e

    pub watch-assert-on : kind_of t n ≡ 67
        → watch (target_statement_at t n) ρ x f
        ≡ after (number_at t n) ρ f (asserted x (condition (holding x (mark_of t n))))
    unfolding watch
    watch-assert-on e = watch-kind 67 e

    pub watch-store-block : kind_of t n ≡ 68
        → watch (target_statement_at t n) ρ x f
        ≡ after (number_at t n) ρ f (observed x (storing (mark_of t n) x))
    unfolding watch
    watch-store-block e = watch-kind 68 e

    pub watch-delete-block : kind_of t n ≡ 69
        → watch (target_statement_at t n) ρ x f
        ≡ after (number_at t n) ρ f (observed x (deleting (mark_of t n) x))
    unfolding watch
    watch-delete-block e = watch-kind 69 e

    pub watch-initialise : kind_of t n ≡ 70
        → watch (target_statement_at t n) ρ x f
        ≡ after (number_at t n) ρ f (observed x (initialising (mark_of t n) x))
    unfolding watch
    watch-initialise e = watch-kind 70 e

  -- a while, with fuel and without
  pub watch-while-zero : kind_of t n ≡ 46 → (ρ : Variables) (x : WatchedState)
      → watch (target_statement_at t n) ρ x 0 ≡ ended Stop.NoFuel (number_at t n) ρ [] x 0
  watch-while-zero e ρ x =
      watch-kind ρ x 0 46 e
      ∙ watched-while-zero (number_at t n) (target_expression_at t (child_a t n)) (target_statement_at t (child_b t n)) ρ x

  pub watch-while-suc : kind_of t n ≡ 46 → (ρ : Variables) (x : WatchedState) (f : ℕ)
      → watch (target_statement_at t n) ρ x (suc f)
      ≡ decide (number_at t n) ρ (condition (value_in (target_expression_at t (child_a t n)) ρ x)) x f
      (next (into 1 (watch (target_statement_at t (child_b t n)) ρ x f)) (λ y g. watch (target_statement_at t n) ρ y g))
      (finished x f)
  watch-while-suc e ρ x f =
      watch-kind ρ x (suc f) 46 e
      ∙ watched-while-suc (number_at t n) (target_expression_at t (child_a t n)) (target_statement_at t (child_b t n)) ρ x f
      ∙ sym (ap (λ (w : TargetStatement).
      decide (number_at t n) ρ (condition (value_in (target_expression_at t (child_a t n)) ρ x)) x f
      (next (into 1 (watch (target_statement_at t (child_b t n)) ρ x f)) (λ y g. watch w ρ y g)) (finished x f))
      (ap target_statement (statement-form target t n h 46 e).node))
