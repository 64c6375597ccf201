-- The bytes of an emitted source tree are read back as the statement, numbered by its records.
use Prim.Native.Nat.{ℕ, ◌+◌, ◌≤◌}
use native.Mathlib.Omega.{arith}
use mathlib.Core.Path.{◌≡◌, refl, ap}
use mathlib.Core.Bool.{false≢true}
use mathlib.Core.List.{List}
use lib.IntN.{pos}
use Rattle.rules.specs.Records.{record_count, record_at, table_bytes}
use Rattle.rules.specs.Kinds.{source, form_of, look_up}
use Rattle.rules.specs.Trees.{Operator, valid, initialised, base, offset, block_length, Expression, literal}
use Rattle.rules.specs.Trees.{read, address, operation, shifted, Place, variable, pointed, temporary, Term, value}
use Rattle.rules.specs.Trees.{asked, combined, Predicate, holds, compared, negated, both, either, Statement}
use Rattle.rules.specs.Trees.{skip, assign, new, free, sequence, branch, while, let_in, assert}
use Rattle.rules.specs.Nodes.{expression_node, place_node, term_node, predicate_node, statement_node}
use Rattle.rules.specs.Nodes.{source_statement, source_program}
use Rattle.rules.specs.Emission.{operator_number, expression_tree, tree_size, emit}
use Rattle.rules.specs.Emission as records
use Rattle.rules.specs.Translation.{embed}
use Rattle.rules.specs.SourceRecords.{source_expression, source_place, term_tree, predicate_tree, source_tree}
use Rattle.rules.specs.SourceRecords.{numbered}
use Rattle.rules.proofs.Acceptance.Sound.{Scope}
use Rattle.rules.proofs.Translation.EmissionLaws.{Holds}
use Rattle.rules.proofs.Translation.FittingTrees.{Fitting}
use Rattle.rules.proofs.Translation.RootNodes.{IsNode, no_node, field-node, FaultFree, root-node, two-node}
use Rattle.rules.proofs.Translation.RootNodes.{leaf-node}
use Rattle.rules.proofs.Translation.RootNodes.{last-node}
use Rattle.rules.proofs.Translation.ReadBack.{operator-back}
use Rattle.rules_rewriting.proofs.Writable.{WritableTerm, WritablePredicate, Writable}

module _ (t : List ℕ) (clean : FaultFree source t) where
  mutual
    unfolding embed expression_tree form_of look_up

    expression-back : (e : Expression ⊥) (n : ℕ) → Holds (record_at t) (source_expression e) n
        → n + tree_size (source_expression e) ≤ record_count t → IsNode source t (source_expression e) n (expression_node e)
    expression-back (literal z) n h s = leaf-node clean 1 0 z 0 n h s (λ C. refl) (λ C. refl)
    expression-back (read p) n h s =
        two-node clean 2 0 (pos 0) 0 (source_place p) records.none n h s (place-back p n h.0 (omega arith))
        (no_node source t n) (λ C. refl) (λ C. refl)
    expression-back (address p) n h s =
        two-node clean 3 0 (pos 0) 0 (source_place p) records.none n h s (place-back p n h.0 (omega arith))
        (no_node source t n) (λ C. refl) (λ C. refl)
    expression-back (operation o a b) n h s =
        two-node clean 4 (operator_number o) (pos 0) 0 (source_expression a) (source_expression b) n h s
        (expression-back a n h.0 (omega arith))
        (expression-back b (n + tree_size (source_expression a)) h.1 (omega arith)) (λ C. refl)
        (λ C. ap (λ (o : Operator). expression_node (operation o a b)) (operator-back o))
    expression-back (shifted a b) n h s =
        two-node clean 5 0 (pos 0) 0 (source_expression a) (source_expression b) n h s
        (expression-back a n h.0 (omega arith))
        (expression-back b (n + tree_size (source_expression a)) h.1 (omega arith)) (λ C. refl) (λ C. refl)

    place-back : (p : Place ⊥) (n : ℕ) → Holds (record_at t) (source_place p) n
        → n + tree_size (source_place p) ≤ record_count t → IsNode source t (source_place p) n (place_node p)
    place-back (variable x) n h s = leaf-node clean 10 x (pos 0) 0 n h s (λ C. refl) (λ C. refl)
    place-back (pointed e) n h s =
        two-node clean 11 0 (pos 0) 0 (source_expression e) records.none n h s
        (expression-back e n h.0 (omega arith)) (no_node source t n) (λ C. refl) (λ C. refl)
    place-back (temporary x) n h s = elim x [ ]

  term-back : (u : Term) (n : ℕ) → WritableTerm u → Holds (record_at t) (term_tree u) n
      → n + tree_size (term_tree u) ≤ record_count t → IsNode source t (term_tree u) n (term_node u)
  unfolding term_tree form_of look_up
  term-back (value e) n w h s =
      two-node clean 20 0 (pos 0) 0 (source_expression e) records.none n h s (expression-back e n h.0 (omega arith))
      (no_node source t n) (λ C. refl) (λ C. refl)
  term-back (asked valid u) n w h s = absurd (false≢true w.0)
  term-back (asked initialised u) n w h s = absurd (false≢true w.0)
  term-back (asked base u) n w h s =
      two-node clean 21 0 (pos 0) 0 (term_tree u) records.none n h s (term-back u n w.1 h.0 (omega arith))
      (no_node source t n) (λ C. refl) (λ C. refl)
  term-back (asked offset u) n w h s =
      two-node clean 22 0 (pos 0) 0 (term_tree u) records.none n h s (term-back u n w.1 h.0 (omega arith))
      (no_node source t n) (λ C. refl) (λ C. refl)
  term-back (asked block_length u) n w h s =
      two-node clean 23 0 (pos 0) 0 (term_tree u) records.none n h s (term-back u n w.1 h.0 (omega arith))
      (no_node source t n) (λ C. refl) (λ C. refl)
  term-back (combined o a b) n w h s =
      two-node clean 24 (operator_number o) (pos 0) 0 (term_tree a) (term_tree b) n h s
      (term-back a n w.1 h.0 (omega arith))
      (term-back b (n + tree_size (term_tree a)) w.2 h.1 (omega arith)) (λ C. refl)
      (λ C. ap (λ (o : Operator). term_node (combined o a b)) (operator-back o))

  predicate-back : (p : Predicate) (n : ℕ) → WritablePredicate p → Holds (record_at t) (predicate_tree p) n
      → n + tree_size (predicate_tree p) ≤ record_count t → IsNode source t (predicate_tree p) n (predicate_node p)
  unfolding predicate_tree form_of look_up
  predicate-back (holds valid u) n w h s =
      two-node clean 30 0 (pos 0) 0 (term_tree u) records.none n h s (term-back u n w.1 h.0 (omega arith))
      (no_node source t n) (λ C. refl) (λ C. refl)
  predicate-back (holds initialised u) n w h s =
      two-node clean 31 0 (pos 0) 0 (term_tree u) records.none n h s (term-back u n w.1 h.0 (omega arith))
      (no_node source t n) (λ C. refl) (λ C. refl)
  predicate-back (holds base u) n w h s = absurd (false≢true w.0)
  predicate-back (holds offset u) n w h s = absurd (false≢true w.0)
  predicate-back (holds block_length u) n w h s = absurd (false≢true w.0)
  predicate-back (compared o a b) n w h s =
      two-node clean 32 (operator_number o) (pos 0) 0 (term_tree a) (term_tree b) n h s
      (term-back a n w.1 h.0 (omega arith))
      (term-back b (n + tree_size (term_tree a)) w.2 h.1 (omega arith)) (λ C. refl)
      (λ C. ap (λ (o : Operator). predicate_node (compared o a b)) (operator-back o))
  predicate-back (negated a) n w h s =
      two-node clean 33 0 (pos 0) 0 (predicate_tree a) records.none n h s (predicate-back a n w h.0 (omega arith))
      (no_node source t n) (λ C. refl) (λ C. refl)
  predicate-back (both a b) n w h s =
      two-node clean 34 0 (pos 0) 0 (predicate_tree a) (predicate_tree b) n h s
      (predicate-back a n w.0 h.0 (omega arith))
      (predicate-back b (n + tree_size (predicate_tree a)) w.1 h.1 (omega arith)) (λ C. refl) (λ C. refl)
  predicate-back (either a b) n w h s =
      two-node clean 35 0 (pos 0) 0 (predicate_tree a) (predicate_tree b) n h s
      (predicate-back a n w.0 h.0 (omega arith))
      (predicate-back b (n + tree_size (predicate_tree a)) w.1 h.1 (omega arith)) (λ C. refl) (λ C. refl)

  statement-back : (a : Statement) (n : ℕ) → Writable a → Holds (record_at t) (source_tree a) n
      → n + tree_size (source_tree a) ≤ record_count t → IsNode source t (source_tree a) n (statement_node (numbered a n))
  unfolding source_tree numbered form_of look_up
  statement-back (skip i) n w h s = leaf-node clean 40 0 (pos 0) 0 n h s (λ C. refl) (λ C. refl)
  statement-back (assign i p e) n w h s =
      two-node clean 41 0 (pos 0) 0 (source_place p) (source_expression e) n h s (place-back p n h.0 (omega arith))
      (expression-back e (n + tree_size (source_place p)) h.1 (omega arith)) (λ C. refl) (λ C. refl)
  statement-back (new i p e) n w h s =
      two-node clean 42 0 (pos 0) 0 (source_place p) (source_expression e) n h s (place-back p n h.0 (omega arith))
      (expression-back e (n + tree_size (source_place p)) h.1 (omega arith)) (λ C. refl) (λ C. refl)
  statement-back (free i e) n w h s =
      two-node clean 43 0 (pos 0) 0 (source_expression e) records.none n h s (expression-back e n h.0 (omega arith))
      (no_node source t n) (λ C. refl) (λ C. refl)
  statement-back (sequence i a b) n w h s =
      two-node clean 44 0 (pos 0) 0 (source_tree a) (source_tree b) n h s
      (statement-back a n w.0 h.0 (omega arith))
      (statement-back b (n + tree_size (source_tree a)) w.1 h.1 (omega arith)) (λ C. refl) (λ C. refl)
  statement-back (branch i e a b) n w h s =
      let nb : ℕ = n + tree_size (source_expression e) in
      let nc : ℕ = nb + tree_size (source_tree a) in
      root-node clean 45 0 (pos 0) 0 (source_expression e) (source_tree a) (source_tree b) n
      (expression_node e) (statement_node (numbered a nb)) (statement_node (numbered b nc)) h s
      (expression-back e n h.0 (omega arith)) (statement-back a nb w.0 h.1 (omega arith))
      (field-node source t (source_tree b) nc _ (statement_node (numbered b nc)) (omega arith)
      (statement-back b nc w.1 h.2 (omega arith)))
      refl
  statement-back (while i e b) n w h s =
      two-node clean 46 0 (pos 0) 0 (source_expression e) (source_tree b) n h s
      (expression-back e n h.0 (omega arith))
      (statement-back b (n + tree_size (source_expression e)) w h.1 (omega arith)) (λ C. refl) (λ C. refl)
  statement-back (let_in i x b) n w h s =
      two-node clean 47 x (pos 0) 0 (source_tree b) records.none n h s (statement-back b n w h.0 (omega arith))
      (no_node source t n) (λ C. refl) (λ C. refl)
  statement-back (assert i p) n w h s =
      two-node clean 48 0 (pos 0) 0 (predicate_tree p) records.none n h s (predicate-back p n w h.0 (omega arith))
      (no_node source t n) (λ C. refl) (λ C. refl)

-- the last record of a statement's bytes is that statement, numbered by its records
pub source-back : (a : Statement) (ρ : Scope) → Writable a → Fitting source (source_tree a) ρ
    → tree_size (source_tree a) ≤ 256 → source_program (table_bytes (emit (source_tree a) 0)) ≡ numbered a 0
source-back a ρ w h s =
    ap source_statement
    (last-node source (source_tree a) ρ (statement_node (numbered a 0)) h (omega arith)
    (λ t clean holds inside. statement-back t clean a 0 w holds (omega arith)))
