-- What each statement of a source table does in the plain run, by its kind.
use Prim.Native.Nat.{ℕ, suc}
use mathlib.Core.List.{List, []}
use mathlib.Core.Logic.{◌≢◌}
use mathlib.Core.Path.{◌≡◌, refl, sym, ap, ◌∙◌}
use Rattle.rules.specs.Types.{Stop}
use Rattle.rules.specs.Records.{kind_of, mark_of, child_a, child_b, child_c}
use Rattle.rules.specs.Kinds.{source, Sort, predicate, statement}
use Rattle.rules.specs.Trees.{Statement}
use Rattle.rules.specs.Nodes.{SourceNode, source_statement, HasSort, expression_at, place_at, predicate_at}
use Rattle.rules.specs.Nodes.{statement_at}
use Rattle.rules.specs.Memory.{Memory, fixed, make_block, end_block, assigned, allocated, freed}
use Rattle.rules.specs.Evaluation.{Variables, evaluate_source, find_source, evaluate_predicate, condition, extend}
use Rattle.rules.specs.Flow.{finished, ended, into, next, after, decide, in_let, run_by}
use Rattle.rules.specs.Plain.{plain_meaning, asserted, run}
use Rattle.rules.proofs.Acceptance.KindViews.{form_at, SourceKind, skip, assign, new, free, sequence, branch}
use Rattle.rules.proofs.Acceptance.KindViews.{while, let_in}
use Rattle.rules.proofs.Acceptance.KindViews.{assert}
use Rattle.rules.proofs.Acceptance.FormLaws.{FormHolds, node_as}
use Rattle.rules.proofs.Acceptance.Standing.{stands}
use Rattle.rules.proofs.Runs.Turns.{while-zero, while-suc}
use Rattle.rules.proofs.Runs.StatementArms.{ChildOfSort, statement-form}

-- a child of record n
abbrev pub Under : Sort → List ℕ → ℕ → ℕ → Type 0
Under s t n x = ChildOfSort source s t n x

module _ (t : List ℕ) (n : ℕ) (h : HasSort source statement t n) where
  form : (k : ℕ) → kind_of t n ≡ k → FormHolds source t n (form_at source k)
  form k e = statement-form source t n h k e

  -- the last kind is what is left
  pub statement-kinds : kind_of t n ≢ 40 → kind_of t n ≢ 41 → kind_of t n ≢ 42 → kind_of t n ≢ 43 → kind_of t n ≢ 44
      → kind_of t n ≢ 45 → kind_of t n ≢ 46 → kind_of t n ≢ 47 → kind_of t n ≡ 48
  statement-kinds = go (stands source t n statement h).kind
    where
      go : {k : ℕ} → SourceKind statement k → k ≢ 40 → k ≢ 41 → k ≢ 42 → k ≢ 43 → k ≢ 44 → k ≢ 45 → k ≢ 46 → k ≢ 47
          → k ≡ 48
      go skip a b c d e f g i = absurd (a refl)
      go assign a b c d e f g i = absurd (b refl)
      go new a b c d e f g i = absurd (c refl)
      go free a b c d e f g i = absurd (d refl)
      go sequence a b c d e f g i = absurd (e refl)
      go branch a b c d e f g i = absurd (f refl)
      go while a b c d e f g i = absurd (g refl)
      go let_in a b c d e f g i = absurd (i refl)
      go assert a b c d e f g i = refl

  -- the one child that StatementArms has not
  pub assert-child : kind_of t n ≡ 48 → Under predicate t n (child_a t n)
  assert-child e = (form 48 e).a

  -- what the statement does
  module _ (ρ : Variables) (m : Memory) (f : ℕ) where
    run-kind : (k : ℕ) → kind_of t n ≡ k
        → run (statement_at t n) ρ m f ≡ run (source_statement (node_as source (form_at source k).kind t n)) ρ m f
    run-kind k e = ap (λ (x : SourceNode). run (source_statement x) ρ m f) (form k e).node

    pub run-skip : kind_of t n ≡ 40 → run (statement_at t n) ρ m f ≡ finished m f
    unfolding run_by
    run-skip e = run-kind 40 e

    pub run-assign : kind_of t n ≡ 41
        → run (statement_at t n) ρ m f
        ≡ after n ρ f (assigned m (find_source (place_at t (child_a t n)) ρ m)
        (evaluate_source (expression_at t (child_b t n)) ρ m))
    unfolding run_by
    run-assign e = run-kind 41 e

    pub run-new : kind_of t n ≡ 42
        → run (statement_at t n) ρ m f
        ≡ after n ρ f (allocated m (find_source (place_at t (child_a t n)) ρ m)
        (evaluate_source (expression_at t (child_b t n)) ρ m))
    unfolding run_by
    run-new e = run-kind 42 e

    pub run-free : kind_of t n ≡ 43
        → run (statement_at t n) ρ m f ≡ after n ρ f (freed m (evaluate_source (expression_at t (child_a t n)) ρ m))
    unfolding run_by
    run-free e = run-kind 43 e

    pub run-sequence : kind_of t n ≡ 44
        → run (statement_at t n) ρ m f
        ≡ next (into 0 (run (statement_at t (child_a t n)) ρ m f))
        (λ m₁ f₁. into 1 (run (statement_at t (child_b t n)) ρ m₁ f₁))
    unfolding run_by
    run-sequence e = run-kind 44 e

    pub run-branch : kind_of t n ≡ 45
        → run (statement_at t n) ρ m f
        ≡ decide n ρ (condition (evaluate_source (expression_at t (child_a t n)) ρ m)) m f
        (into 1 (run (statement_at t (child_b t n)) ρ m f)) (into 2 (run (statement_at t (child_c t n)) ρ m f))
    unfolding run_by
    run-branch e = run-kind 45 e

    pub run-let : kind_of t n ≡ 47
        → run (statement_at t n) ρ m f
        ≡ in_let n ρ m f (make_block m fixed 1) end_block
        (λ k m₁ f₁. into 0 (run (statement_at t (child_a t n)) (extend ρ (mark_of t n) k) m₁ f₁))
    unfolding run_by
    run-let e = run-kind 47 e

    pub run-assert : kind_of t n ≡ 48
        → run (statement_at t n) ρ m f
        ≡ after n ρ f (asserted m (condition (evaluate_predicate (predicate_at t (child_a t n)) ρ m)))
    unfolding run_by
    run-assert e = run-kind 48 e

  -- a while, with fuel and without
  pub run-while-zero : kind_of t n ≡ 46 → (ρ : Variables) (m : Memory)
      → run (statement_at t n) ρ m 0 ≡ ended Stop.NoFuel n ρ [] m 0
  run-while-zero e ρ m =
      run-kind ρ m 0 46 e ∙ while-zero plain_meaning n (expression_at t (child_a t n)) (statement_at t (child_b t n)) ρ m

  pub run-while-suc : kind_of t n ≡ 46 → (ρ : Variables) (m : Memory) (f : ℕ)
      → run (statement_at t n) ρ m (suc f)
      ≡ decide n ρ (condition (evaluate_source (expression_at t (child_a t n)) ρ m)) m f
      (next (into 1 (run (statement_at t (child_b t n)) ρ m f)) (λ m₁ f₁. run (statement_at t n) ρ m₁ f₁)) (finished m f)
  run-while-suc e ρ m f =
      run-kind ρ m (suc f) 46 e
      ∙ while-suc plain_meaning n (expression_at t (child_a t n)) (statement_at t (child_b t n)) ρ m f
      ∙ sym (ap (λ (w : Statement).
      decide n ρ (condition (evaluate_source (expression_at t (child_a t n)) ρ m)) m f
      (next (into 1 (run (statement_at t (child_b t n)) ρ m f)) (λ m₁ f₁. run w ρ m₁ f₁)) (finished m f))
      (ap source_statement (form 46 e).node))
