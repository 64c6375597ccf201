-- The bytes of an emitted target tree are read back as that tree.
use Prim.Native.Nat.{ℕ, ◌+◌, ◌≤◌}
use native.Mathlib.Omega.{arith}
use mathlib.Core.Path.{◌≡◌, refl, ap}
use mathlib.Core.List.{List}
use lib.IntN.{pos}
use Rattle.rules.specs.Records.{record_count, record_at, table_bytes}
use Rattle.rules.specs.Kinds.{target, form_of, look_up}
use Rattle.rules.specs.Trees.{Operator, add, subtract, multiply, divide, nearest, at_most, equal, shift, Query}
use Rattle.rules.specs.Trees.{valid, initialised, base, offset, block_length, Expression, literal, read, address}
use Rattle.rules.specs.Trees.{operation, shifted, Place, variable, pointed, temporary}
use Rattle.rules.specs.TargetTrees.{TargetStatement, skip, assign, new, free, sequence, branch, while, let_in}
use Rattle.rules.specs.TargetTrees.{take_address, take_value, take_operation, take_query, take_not, branch_on}
use Rattle.rules.specs.TargetTrees.{assert_on, store_block, delete_block, initialise}
use Rattle.rules.specs.Nodes.{operator_of, query_of, expression_node, place_node, statement_node, junk}
use Rattle.rules.specs.Nodes.{target_statement, node_at}
use Rattle.rules.specs.Nodes.{target_program}
use Rattle.rules.specs.Emission.{none, operator_number, query_number, expression_tree, place_tree}
use Rattle.rules.specs.Emission.{statement_tree, tree_size, emit}
use Rattle.rules.proofs.Acceptance.Sound.{start_scope, SoundTarget}
use Rattle.rules.proofs.Translation.EmissionLaws.{Holds}
use Rattle.rules.proofs.Translation.TargetFitting.{statement-fits}
use Rattle.rules.proofs.Translation.RootNodes.{IsNode, no_node, field-node, FaultFree, root-node, two-node}
use Rattle.rules.proofs.Translation.RootNodes.{leaf-node}
use Rattle.rules.proofs.Translation.RootNodes.{last-node}

pub operator-back : (o : Operator) → operator_of (operator_number o) ≡ o
operator-back add = refl
operator-back subtract = refl
operator-back multiply = refl
operator-back divide = refl
operator-back nearest = refl
operator-back at_most = refl
operator-back equal = refl
operator-back shift = refl

pub query-back : (q : Query) → query_of (query_number q) ≡ q
query-back valid = refl
query-back initialised = refl
query-back base = refl
query-back offset = refl
query-back block_length = refl

module _ (t : List ℕ) (clean : FaultFree target t) where
  mutual
    unfolding expression_tree form_of look_up

    expression-back : (e : Expression ℕ) (n : ℕ) → Holds (record_at t) (expression_tree e) n
        → n + tree_size (expression_tree e) ≤ record_count t → IsNode target t (expression_tree e) n (expression_node e)
    expression-back (literal z) n h s = leaf-node clean 1 0 z 0 n h s (λ C. refl) (λ C. refl)
    expression-back (read p) n h s =
        two-node clean 2 0 (pos 0) 0 (place_tree p) none n h s (place-back p n h.0 (omega arith)) (no_node target t n)
        (λ C. refl) (λ C. refl)
    expression-back (address p) n h s =
        two-node clean 3 0 (pos 0) 0 (place_tree p) none n h s (place-back p n h.0 (omega arith)) (no_node target t n)
        (λ C. refl) (λ C. refl)
    expression-back (operation o a b) n h s =
        two-node clean 4 (operator_number o) (pos 0) 0 (expression_tree a) (expression_tree b) n h s
        (expression-back a n h.0 (omega arith)) (expression-back b _ h.1 (omega arith))
        (λ C. refl) (λ C. ap (λ (o : Operator). expression_node (operation o a b)) (operator-back o))
    expression-back (shifted a b) n h s =
        two-node clean 5 0 (pos 0) 0 (expression_tree a) (expression_tree b) n h s
        (expression-back a n h.0 (omega arith)) (expression-back b _ h.1 (omega arith)) (λ C. refl) (λ C. refl)

    place-back : (p : Place ℕ) (n : ℕ) → Holds (record_at t) (place_tree p) n
        → n + tree_size (place_tree p) ≤ record_count t → IsNode target t (place_tree p) n (place_node p)
    place-back (variable x) n h s = leaf-node clean 10 x (pos 0) 0 n h s (λ C. refl) (λ C. refl)
    place-back (pointed e) n h s =
        two-node clean 11 0 (pos 0) 0 (expression_tree e) none n h s (expression-back e n h.0 (omega arith))
        (no_node target t n)
        (λ C. refl) (λ C. refl)
    place-back (temporary m) n h s = leaf-node clean 12 m (pos 0) 0 n h s (λ C. refl) (λ C. refl)

  statement-back : (w : TargetStatement) (n : ℕ) → Holds (record_at t) (statement_tree w) n
      → n + tree_size (statement_tree w) ≤ record_count t → IsNode target t (statement_tree w) n (statement_node w)
  unfolding statement_tree form_of look_up
  statement-back (skip i) n h s = leaf-node clean 40 0 (pos i) 0 n h s (λ C. refl) (λ C. refl)
  statement-back (assign i p e) n h s =
      two-node clean 41 0 (pos i) 0 (place_tree p) (expression_tree e) n h s (place-back p n h.0 (omega arith))
      (expression-back e (n + tree_size (place_tree p)) h.1 (omega arith)) (λ C. refl) (λ C. refl)
  statement-back (new i p e) n h s =
      two-node clean 42 0 (pos i) 0 (place_tree p) (expression_tree e) n h s (place-back p n h.0 (omega arith))
      (expression-back e (n + tree_size (place_tree p)) h.1 (omega arith)) (λ C. refl) (λ C. refl)
  statement-back (free i e) n h s =
      two-node clean 43 0 (pos i) 0 (expression_tree e) none n h s (expression-back e n h.0 (omega arith))
      (no_node target t n)
      (λ C. refl) (λ C. refl)
  statement-back (sequence i a b) n h s =
      two-node clean 44 0 (pos i) 0 (statement_tree a) (statement_tree b) n h s (statement-back a n h.0 (omega arith))
      (statement-back b (n + tree_size (statement_tree a)) h.1 (omega arith)) (λ C. refl) (λ C. refl)
  statement-back (branch i e a b) n h s =
      let nb : ℕ = n + tree_size (expression_tree e) in
      let nc : ℕ = nb + tree_size (statement_tree a) in
      root-node clean 45 0 (pos i) 0 (expression_tree e) (statement_tree a) (statement_tree b) n
      (expression_node e) (statement_node a) (statement_node b) h s (expression-back e n h.0 (omega arith))
      (statement-back a nb h.1 (omega arith))
      (field-node target t (statement_tree b) nc _ (statement_node b) (omega arith)
      (statement-back b nc h.2 (omega arith)))
      refl
  statement-back (while i e b) n h s =
      two-node clean 46 0 (pos i) 0 (expression_tree e) (statement_tree b) n h s
      (expression-back e n h.0 (omega arith))
      (statement-back b (n + tree_size (expression_tree e)) h.1 (omega arith)) (λ C. refl) (λ C. refl)
  statement-back (let_in i x b) n h s =
      two-node clean 47 x (pos i) 0 (statement_tree b) none n h s (statement-back b n h.0 (omega arith))
      (no_node target t n)
      (λ C. refl) (λ C. refl)
  statement-back (take_address i m p) n h s =
      two-node clean 60 m (pos i) 0 (place_tree p) none n h s (place-back p n h.0 (omega arith)) (no_node target t n)
      (λ C. refl) (λ C. refl)
  statement-back (take_value i m e) n h s =
      two-node clean 61 m (pos i) 0 (expression_tree e) none n h s (expression-back e n h.0 (omega arith))
      (no_node target t n)
      (λ C. refl) (λ C. refl)
  statement-back (take_operation i m o) n h s =
      leaf-node clean 63 m (pos i) (operator_number o) n h s (λ C. refl)
      (λ C. ap (λ (o : Operator). statement_node (take_operation i m o)) (operator-back o))
  statement-back (take_query i m q) n h s =
      leaf-node clean 64 m (pos i) (query_number q) n h s (λ C. refl)
      (λ C. ap (λ (q : Query). statement_node (take_query i m q)) (query-back q))
  statement-back (take_not i m) n h s = leaf-node clean 65 m (pos i) 0 n h s (λ C. refl) (λ C. refl)
  statement-back (branch_on i m a b) n h s =
      let nc : ℕ = n + 0 + tree_size (statement_tree a) in
      root-node clean 66 m (pos i) 0 none (statement_tree a) (statement_tree b) n junk (statement_node a)
      (statement_node b) h s (no_node target t n) (statement-back a (n + 0) h.1 (omega arith))
      (field-node target t (statement_tree b) nc _ (statement_node b) (omega arith)
      (statement-back b nc h.2 (omega arith)))
      refl
  statement-back (assert_on i m) n h s = leaf-node clean 67 m (pos i) 0 n h s (λ C. refl) (λ C. refl)
  statement-back (store_block i m) n h s = leaf-node clean 68 m (pos i) 0 n h s (λ C. refl) (λ C. refl)
  statement-back (delete_block i m) n h s = leaf-node clean 69 m (pos i) 0 n h s (λ C. refl) (λ C. refl)
  statement-back (initialise i m) n h s = leaf-node clean 70 m (pos i) 0 n h s (λ C. refl) (λ C. refl)

-- the last record of the bytes of a sound target statement is that statement
pub read_back : (w : TargetStatement) → SoundTarget w start_scope → tree_size (statement_tree w) ≤ 4096
    → node_at target (table_bytes (emit (statement_tree w) 0)) (record_count (table_bytes (emit (statement_tree w) 0)))
    ≡ statement_node w
read_back w h s =
    last-node target (statement_tree w) start_scope (statement_node w) (statement-fits w start_scope h) s
    (λ t clean holds inside. statement-back t clean w 0 holds (omega arith))

pub program-back : (w : TargetStatement) → SoundTarget w start_scope → tree_size (statement_tree w) ≤ 4096
    → target_program (table_bytes (emit (statement_tree w) 0)) ≡ w
program-back w h s = ap target_statement (read_back w h s)
