-- What each arm of `evaluate_term` and `evaluate_predicate` gives, from what its calls gave.
use Prim.Native.Nat.{ℕ, ◌-◌, ◌≤◌}
use native.Mathlib.Omega.{arith}
use mathlib.Core.Bool.{Bool, true, false}
use mathlib.Core.List.{List}
use mathlib.Core.Logic.{◌≢◌}
use mathlib.Core.Path.{◌≡◌, refl, sym, ap, ap₂, ◌∙◌}
use lib.Dec.{eqb}
use Rattle.rules.specs.Records.{kind_of, mark_of, child_a, child_b}
use Rattle.rules.specs.Kinds.{source, target, Sort, sort_number, expression, term, predicate, child}
use Rattle.rules.specs.Nodes.{operator_of, query_of, SourceNode, as_expression, as_term, as_predicate, sort_of_node, node_at}
use Rattle.rules.specs.Numbers.{tested}
use Rattle.rules.specs.Memory.{Memory, on_value, live_block}
use Rattle.rules.specs.Evaluation.{Variables, operated, evaluate, query_memory, evaluate_term, evaluate_predicate}
use Rattle.rules.specs.Evaluation.{opposite, and_then, or_else, on_test}
use Rattle.rules.specs.Watched.{Temporaries, temporary_of}
use Rattle.rules.proofs.Acceptance.KindViews.{SourceKind, value, base, offset, block_length, combined, valid}
use Rattle.rules.proofs.Acceptance.KindViews.{initialised}
use Rattle.rules.proofs.Acceptance.KindViews.{compared, negated, both, either}
use Rattle.rules.proofs.Acceptance.FormLaws.{FieldHolds}
use Rattle.rules.proofs.Acceptance.Standing.{stands, stands_at}
use Rattle.rules.proofs.Runs.SharedExpressions.{target-expression, evaluated-alike}
use Rattle.table.specs.Within.{Within}
use Rattle.rules.specs.Types.{Evaluated, Test}
use Rattle.evaluation_predicates.specs.Joints.{joint_of}
use Rattle.std.specs.Prelude.{Err, Ok, Option, Some, None}
use Rattle.rules.specs.Trees.{Operator, Query}
use Rattle.rules.specs.Trees as tree

abbrev pub Stands : List ℕ → ℕ → Sort → Type 0
Stands t n s = sort_of_node source (node_at source t n) ≡ sort_number s

-- x is a child of record n, of sort s
abbrev pub Below : List ℕ → ℕ → Sort → ℕ → Type 0
Below t n s x = FieldHolds source t n (child s) x

pub within : (t : List ℕ) (n : ℕ) (s : Sort) → Stands t n s → Within t n
within t n s h =
    let r = stands source t n s h in
    (r.from_one, r.within)

module _ (t : List ℕ) (n : ℕ) where
  pub expression-below : Stands t n term → kind_of t n ≡ 20
      → sort_of_node target (node_at target t (child_a t n)) ≡ sort_number expression
  expression-below h d = target-expression t (child_a t n) (stands_at source t n 20 term h d).a.2

  pub combined-below : Stands t n term → kind_of t n ≡ 24
      → Below t n term (child_a t n) × Below t n term (child_b t n)
  combined-below h d =
      let f = stands_at source t n 24 term h d in
      (f.a, f.b)

  pub valid-below : Stands t n predicate → kind_of t n ≡ 30 → Below t n term (child_a t n)
  valid-below h d = (stands_at source t n 30 predicate h d).a

  pub initialised-below : Stands t n predicate → kind_of t n ≡ 31 → Below t n term (child_a t n)
  initialised-below h d = (stands_at source t n 31 predicate h d).a

  pub compared-below : Stands t n predicate → kind_of t n ≡ 32
      → Below t n term (child_a t n) × Below t n term (child_b t n)
  compared-below h d =
      let f = stands_at source t n 32 predicate h d in
      (f.a, f.b)

  pub negated-below : Stands t n predicate → kind_of t n ≡ 33 → Below t n predicate (child_a t n)
  negated-below h d = (stands_at source t n 33 predicate h d).a

-- B, where A leaves it open
abbrev pub by_joint : Option Evaluated → Evaluated → Evaluated
by_joint (Some e) b = e
by_joint None b = b

joint-and : (a b : Evaluated) → by_joint (joint_of false a) b ≡ on_value a Err (λ v. and_then v b)
joint-and (Err k) b = refl
joint-and (Ok v) b = go (tested v)
  where
    go : (t : Test)
        → by_joint (on_test t (λ k. Some (Err k)) None
        (Some (Ok v))) b
        ≡ on_test t Err b (Ok v)
    go (Ok true) = refl
    go (Ok false) = refl
    go (Err k) = refl

joint-or : (a b : Evaluated) → by_joint (joint_of true a) b ≡ on_value a Err (λ v. or_else v b)
joint-or (Err k) b = refl
joint-or (Ok v) b = go (tested v)
  where
    go : (t : Test)
        → by_joint (on_test t (λ k. Some (Err k)) (Some (Ok v))
        None) b
        ≡ on_test t Err (Ok v) b
    go (Ok true) = refl
    go (Ok false) = refl
    go (Err k) = refl

module _ (t : List ℕ) (ρ : Variables) (m : Memory) where
  abbrev pub term_at : ℕ → Evaluated
  term_at x = evaluate_term (as_term (node_at source t x)) ρ m

  abbrev pub predicate_at : ℕ → Evaluated
  predicate_at x = evaluate_predicate (as_predicate (node_at source t x)) ρ m

  by-term : {x y : SourceNode} → x ≡ y → evaluate_term (as_term x) ρ m ≡ evaluate_term (as_term y) ρ m
  by-term e = ap (λ (x : SourceNode). evaluate_term (as_term x) ρ m) e

  by-predicate : {x y : SourceNode} → x ≡ y
      → evaluate_predicate (as_predicate x) ρ m ≡ evaluate_predicate (as_predicate y) ρ m
  by-predicate e = ap (λ (x : SourceNode). evaluate_predicate (as_predicate x) ρ m) e

  abbrev pub asked_of : Query → Evaluated → Evaluated
  asked_of q e = on_value e Err (query_memory q m)

  module _ (n : ℕ) where
    pub value-arm : {r : Evaluated} {j : ℕ} (τ : Temporaries) → Stands t n term → kind_of t n ≡ 20 → j ≡ child_a t n
        → r ≡ evaluate (as_expression (node_at target t j)) (temporary_of τ) ρ m → r ≡ term_at n
    unfolding evaluate_term
    value-arm τ h d e r =
        let f = stands_at source t n 20 term h d in
        r
        ∙ ap (λ (j : ℕ). evaluate (as_expression (node_at target t j)) (temporary_of τ) ρ m) e
        ∙ evaluated-alike t (child_a t n) τ ρ m f.a.2
        ∙ sym (by-term f.node)

    -- base, offset, length
    pub record Asked : Type 0 where
      pub low : 21 ≤ kind_of t n
      pub a : Below t n term (child_a t n)
      pub value : term_at n ≡ asked_of (query_of (kind_of t n - 18)) (term_at (child_a t n))

    asked-kind : {k : ℕ} → SourceKind term k → Stands t n term → kind_of t n ≡ k → k ≢ 20 → k ≢ 24 → Asked
    unfolding evaluate_term
    asked-kind value h e a b = absurd (a refl)
    asked-kind base h e a b =
        let f = stands_at source t n 21 term h e in
        record { low = omega arith; a = f.a; value = rw e (by-term f.node) }
    asked-kind offset h e a b =
        let f = stands_at source t n 22 term h e in
        record { low = omega arith; a = f.a; value = rw e (by-term f.node) }
    asked-kind block_length h e a b =
        let f = stands_at source t n 23 term h e in
        record { low = omega arith; a = f.a; value = rw e (by-term f.node) }
    asked-kind combined h e a b = absurd (b refl)

    pub is-asked : Stands t n term → kind_of t n ≢ 20 → kind_of t n ≢ 24 → Asked
    is-asked h a b = asked-kind (stands source t n term h).kind h refl a b

    pub asked-arm : {r x : Evaluated} {q : Query} {j : ℕ} → Asked → j ≡ child_a t n → x ≡ term_at j
        → q ≡ query_of (kind_of t n - 18)
        → r ≡ asked_of q x → r ≡ term_at n
    asked-arm h e x q r = r ∙ ap₂ asked_of q (x ∙ ap term_at e) ∙ sym h.value

    pub combined-arm : {r x y : Evaluated} {o : Operator} {i j : ℕ} → Stands t n term → kind_of t n ≡ 24 → o ≡ operator_of (mark_of t n)
        → i ≡ child_a t n → x ≡ term_at i → j ≡ child_b t n → y ≡ term_at j → r ≡ operated (live_block m) o x y
        → r ≡ term_at n
    unfolding evaluate_term
    combined-arm h d o e x f y r =
        r
        ∙ (λ i. operated (live_block m) (o i) ((x ∙ ap term_at e) i) ((y ∙ ap term_at f) i))
        ∙ sym (by-term (stands_at source t n 24 term h d).node)

    pub valid-arm : {r x : Evaluated} {j : ℕ} → Stands t n predicate → kind_of t n ≡ 30 → j ≡ child_a t n
        → x ≡ term_at j → r ≡ asked_of tree.valid x → r ≡ predicate_at n
    unfolding evaluate_predicate
    valid-arm h d e x r =
        r ∙ ap (asked_of tree.valid) (x ∙ ap term_at e) ∙ sym (by-predicate (stands_at source t n 30 predicate h d).node)

    pub initialised-arm : {r x : Evaluated} {j : ℕ} → Stands t n predicate → kind_of t n ≡ 31 → j ≡ child_a t n
        → x ≡ term_at j → r ≡ asked_of tree.initialised x → r ≡ predicate_at n
    unfolding evaluate_predicate
    initialised-arm h d e x r =
        r ∙ ap (asked_of tree.initialised) (x ∙ ap term_at e) ∙ sym (by-predicate (stands_at source t n 31 predicate h d).node)

    pub compared-arm : {r x y : Evaluated} {o : Operator} {i j : ℕ} → Stands t n predicate → kind_of t n ≡ 32 → o ≡ operator_of (mark_of t n)
        → i ≡ child_a t n → x ≡ term_at i → j ≡ child_b t n → y ≡ term_at j → r ≡ operated (live_block m) o x y
        → r ≡ predicate_at n
    unfolding evaluate_predicate
    compared-arm h d o e x f y r =
        r
        ∙ (λ i. operated (live_block m) (o i) ((x ∙ ap term_at e) i) ((y ∙ ap term_at f) i))
        ∙ sym (by-predicate (stands_at source t n 32 predicate h d).node)

    pub negated-arm : {r x : Evaluated} {j : ℕ} → Stands t n predicate → kind_of t n ≡ 33 → j ≡ child_a t n
        → x ≡ predicate_at j → r ≡ on_value x Err opposite → r ≡ predicate_at n
    unfolding evaluate_predicate
    negated-arm h d e x r =
        r
        ∙ ap (λ (x : Evaluated). on_value x Err opposite) (x ∙ ap predicate_at e)
        ∙ sym (by-predicate (stands_at source t n 33 predicate h d).node)

    -- 'and' and 'or'
    pub record Joined : Type 0 where
      pub a : Below t n predicate (child_a t n)
      pub b : Below t n predicate (child_b t n)
      pub value : predicate_at n
          ≡ by_joint (joint_of (eqb (kind_of t n) 35) (predicate_at (child_a t n))) (predicate_at (child_b t n))

    joined-kind : {k : ℕ} → SourceKind predicate k → Stands t n predicate → kind_of t n ≡ k
        → k ≢ 30 → k ≢ 31 → k ≢ 32 → k ≢ 33 → Joined
    unfolding evaluate_predicate
    joined-kind valid h e a b c d = absurd (a refl)
    joined-kind initialised h e a b c d = absurd (b refl)
    joined-kind compared h e a b c d = absurd (c refl)
    joined-kind negated h e a b c d = absurd (d refl)
    joined-kind both h e a b c d =
        let f = stands_at source t n 34 predicate h e in
        let x = predicate_at (child_a t n) in
        let y = predicate_at (child_b t n) in
        record { a = f.a; b = f.b; value = rw e (by-predicate f.node ∙ sym (joint-and x y)) }
    joined-kind either h e a b c d =
        let f = stands_at source t n 35 predicate h e in
        let x = predicate_at (child_a t n) in
        let y = predicate_at (child_b t n) in
        record { a = f.a; b = f.b; value = rw e (by-predicate f.node ∙ sym (joint-or x y)) }

    pub is-joined : Stands t n predicate → kind_of t n ≢ 30 → kind_of t n ≢ 31 → kind_of t n ≢ 32 → kind_of t n ≢ 33
        → Joined
    is-joined h a b c d = joined-kind (stands source t n predicate h).kind h refl a b c d

    pub joined-arm : {x y : Evaluated} {b : Bool} {u : Option Evaluated} {i : ℕ} → Joined → i ≡ child_a t n
        → x ≡ predicate_at i → y ≡ predicate_at (child_b t n) → b ≡ eqb (kind_of t n) 35 → u ≡ joint_of b x
        → by_joint u y ≡ predicate_at n
    joined-arm h e x y b u = ap₂ by_joint (u ∙ ap₂ joint_of b (x ∙ ap predicate_at e)) y ∙ sym h.value
