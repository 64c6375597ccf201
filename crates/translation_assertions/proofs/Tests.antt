-- The tree of a term or a predicate by its kind.
use Prim.Native.Nat.{ℕ, suc, ◌≤◌, ◌<◌}
use native.Mathlib.Omega.{arith}
use mathlib.Core.Bool.{Bool, true, false, ◌||◌}
use mathlib.Core.Logic.{inr}
use mathlib.Core.Path.{◌≡◌, refl, ap, ◌∙◌, subst}
use mathlib.Core.List.{List}
use borrow.Author.Tests.{leb-true, eqb-true}
use lib.Dec.{leb, eqb}
use lib.IntN.{pos}
use Rattle.rules.specs.Records.{kind_of, mark_of, child_a, child_b}
use Rattle.rules.specs.Checker.{is_unary, is_binary}
use Rattle.rules.specs.Kinds.{source, Sort, expression, term, predicate, between}
use Rattle.rules.specs.Nodes.{SourceNode, expression_node, place_node, term_node, predicate_node, statement_node, junk}
use Rattle.rules.specs.Nodes.{node_sort, as_term, as_predicate, operator_of, node_at}
use Rattle.rules.specs.Emission.{operator_number, RecordTree, none, node, statement_tree}
use Rattle.rules.specs.Translation.{translate_term, translate_predicate}
use Rattle.rules.proofs.Acceptance.KindViews.{and_split, form_at, SourceKind, literal, read, address, operation, shifted}
use Rattle.rules.proofs.Acceptance.KindViews.{variable, pointed, value, base, offset, block_length, combined, valid}
use Rattle.rules.proofs.Acceptance.KindViews.{initialised}
use Rattle.rules.proofs.Acceptance.KindViews.{compared, negated, both, either, skip, assign, new, free, sequence}
use Rattle.rules.proofs.Acceptance.KindViews.{branch, while}
use Rattle.rules.proofs.Acceptance.KindViews.{let_in, assert}
use Rattle.rules.proofs.Acceptance.FormLaws.{FormHolds}
use Rattle.rules.proofs.Acceptance.Standing.{Stands, stands, stands_at}
use Rattle.translation_sizes.specs.Trees.{target_tree, tree_at, copy_at, sort_at}
use Rattle.translation_emission.specs.Emission.{Copied, sequence_tree, part_tree, leaf_tree}
use Rattle.translation_assertions.specs.Tests.{TermLevels, PredicateLevels, Levels, LevelsAt, last_kind, last_field}
use Rattle.translation_emission.proofs.Copying.{operator-back}
use Rattle.translation_emission.proofs.Emitting.{Some, statement-some}
use Rattle.rules.proofs.Translation.RecordSizes.{none-at, SizeLaw, size-law, tree-as}

levels-as-term : (y : SourceNode) (v : ℕ) → node_sort y ≡ 3 → TermLevels (as_term y) v → Levels y v
levels-as-term (expression_node x) v e h = absurd (omega arith)
levels-as-term (place_node x) v e h = absurd (omega arith)
levels-as-term (term_node x) v e h = h
levels-as-term (predicate_node x) v e h = absurd (omega arith)
levels-as-term (statement_node x) v e h = absurd (omega arith)
levels-as-term junk v e h = absurd (omega arith)

pub levels-as-predicate : (y : SourceNode) (v : ℕ) → node_sort y ≡ 4 → PredicateLevels (as_predicate y) v → Levels y v
levels-as-predicate (expression_node x) v e h = absurd (omega arith)
levels-as-predicate (place_node x) v e h = absurd (omega arith)
levels-as-predicate (term_node x) v e h = absurd (omega arith)
levels-as-predicate (predicate_node x) v e h = h
levels-as-predicate (statement_node x) v e h = absurd (omega arith)
levels-as-predicate junk v e h = absurd (omega arith)

test-operator : (m : ℕ) → between 6 7 m ≡ true → operator_number (operator_of m) ≡ m
test-operator m h =
    let r = and_split (leb 6 m) (leb m 7) h in
    operator-back m (omega (arith, leb-true 6 m r.0)) (omega (arith, leb-true m 7 r.1))

term-operator : (m : ℕ) → (between 1 5 m || eqb m 8) ≡ true → operator_number (operator_of m) ≡ m
term-operator m h = go (between 1 5 m) refl h
  where
    go : (b : Bool) → between 1 5 m ≡ b → (b || eqb m 8) ≡ true → operator_number (operator_of m) ≡ m
    go true e h =
        let r = and_split (leb 1 m) (leb m 5) e in
        operator-back m (leb-true 1 m r.0) (omega (arith, leb-true m 5 r.1))
    go false e h = let q = eqb-true m 8 h in operator-back m (omega arith) (omega arith)

-- what each kind says of record n
abbrev pub ValueTest : List ℕ → ℕ → ℕ → ℕ → ℕ → Type 0
ValueTest t n s v k =
    (k ≡ 20) × Copied t (child_a t n) × (v < 64) × (tree_at t n s v ≡ part_tree t s 61 v (child_a t n) 0)

abbrev pub UnaryTest : List ℕ → ℕ → ℕ → ℕ → ℕ → ℕ → Type 0
UnaryTest t n s v k c =
    (child_a t n < n) × LevelsAt t (child_a t n) (suc v) × (suc v < 64)
    × (tree_at t n s v ≡ sequence_tree s (tree_at t (child_a t n) s (suc v)) (leaf_tree s k v c))

abbrev pub BinaryTest : List ℕ → ℕ → ℕ → ℕ → Type 0
BinaryTest t n s v =
    (child_a t n < n) × (child_b t n < n) × LevelsAt t (child_a t n) (suc v) × LevelsAt t (child_b t n) (suc (suc v))
    × (suc (suc v) < 64)
    × (tree_at t n s v
    ≡ sequence_tree s (tree_at t (child_a t n) s (suc v))
    (sequence_tree s (tree_at t (child_b t n) s (suc (suc v))) (leaf_tree s 63 v (mark_of t n))))

abbrev pub JointTest : List ℕ → ℕ → ℕ → ℕ → RecordTree → RecordTree → Type 0
JointTest t n s v b c =
    (child_a t n < n) × (child_b t n < n) × LevelsAt t (child_a t n) v × LevelsAt t (child_b t n) v × (v < 64)
    × (tree_at t n s v ≡ sequence_tree s (tree_at t (child_a t n) s v) (node 66 v (pos s) 0 none b c))

abbrev pub skip_tree : ℕ → RecordTree
skip_tree s = leaf_tree s 40 0 0

-- where the kind is unary, binary, 34, 35 or none of these
abbrev pub TestWhere : List ℕ → ℕ → ℕ → ℕ → ℕ → Bool → Bool → Bool → Bool → Type 0
TestWhere t n s v k true b c d = UnaryTest t n s v (last_kind k) (last_field k)
TestWhere t n s v k false true c d = BinaryTest t n s v
TestWhere t n s v k false false true d = JointTest t n s v (tree_at t (child_b t n) s v) (skip_tree s)
TestWhere t n s v k false false false true = JointTest t n s v (skip_tree s) (tree_at t (child_b t n) s v)
TestWhere t n s v k false false false false = ValueTest t n s v k

abbrev pub TestOf : List ℕ → ℕ → ℕ → ℕ → ℕ → Type 0
TestOf t n s v k = TestWhere t n s v k (is_unary k) (is_binary k) (eqb k 34) (eqb k 35)

module _ (t : List ℕ) (n s v : ℕ) (l : LevelsAt t n v) where
  levels : {y : SourceNode} → node_at source t n ≡ y → Levels y v
  levels e = subst (λ (y : SourceNode). Levels y v) e l

  tree_of : {y : SourceNode} → node_at source t n ≡ y → tree_at t n s v ≡ target_tree y s v
  tree_of e = ap (λ (y : SourceNode). target_tree y s v) e

  nothing : none ≡ copy_at t 0
  nothing = none-at t 0 0 0 refl

  some_of : (x : ℕ) {k : ℕ} → sort_at t x ≡ k → 1 ≤ k → k ≤ 2 → (1 ≤ sort_at t x) × (sort_at t x ≤ 2)
  some_of x e p q = (omega arith, omega arith)

  abbrev observed : ℕ → ℕ → RecordTree → RecordTree
  observed k c w = sequence_tree s w (leaf_tree s k v c)

  -- a query of a term
  queried : (k c : ℕ) → child_a t n < n → sort_at t (child_a t n) ≡ 3
      → (suc v < 64) × TermLevels (as_term (node_at source t (child_a t n))) (suc v)
      → tree_at t n s v
      ≡ sequence_tree s (statement_tree (translate_term (as_term (node_at source t (child_a t n))) s (suc v)))
      (leaf_tree s k v c)
      → UnaryTest t n s v k c
  queried k c below sort l e = (
    below,
    levels-as-term (node_at source t (child_a t n)) (suc v) sort l.1,
    l.0,
    e ∙ (λ i. observed k c (tree-as term (node_at source t (child_a t n)) s (suc v) sort i)),
  )

  abbrev operated : RecordTree → RecordTree → ℕ → RecordTree
  operated a b m = sequence_tree s a (sequence_tree s b (leaf_tree s 63 v m))

  abbrev conjoined : RecordTree → RecordTree → RecordTree
  conjoined a b = sequence_tree s a (node 66 v (pos s) 0 none b (skip_tree s))

  abbrev disjoined : RecordTree → RecordTree → RecordTree
  disjoined a b = sequence_tree s a (node 66 v (pos s) 0 none (skip_tree s) b)

  test-arm : {r : Sort} {k : ℕ} → SourceKind r k → FormHolds source t n (form_at source k)
      → TestOf t n s v k
  unfolding translate_term translate_predicate statement_tree
  test-arm literal h = elim (levels h.node) [ ]
  test-arm read h = elim (levels h.node) [ ]
  test-arm address h = elim (levels h.node) [ ]
  test-arm operation h = elim (levels h.node) [ ]
  test-arm shifted h = elim (levels h.node) [ ]
  test-arm variable h = elim (levels h.node) [ ]
  test-arm pointed h = elim (levels h.node) [ ]
  test-arm value h = (
    refl,
    inr (some_of (child_a t n) h.a.2 (omega arith) (omega arith)),
    levels h.node,
    tree_of h.node
        ∙ (λ i. node 61 v (pos s) 0 (tree-as expression (node_at source t (child_a t n)) 0 0 h.a.2 i)
        (nothing i) none),
  )
  test-arm base h = queried 64 3 h.a.1 h.a.2 (levels h.node) (tree_of h.node)
  test-arm offset h = queried 64 4 h.a.1 h.a.2 (levels h.node) (tree_of h.node)
  test-arm block_length h = queried 64 5 h.a.1 h.a.2 (levels h.node) (tree_of h.node)
  test-arm combined h =
      let l = levels h.node in (
        h.a.1,
        h.b.1,
        levels-as-term (node_at source t (child_a t n)) (suc v) h.a.2 l.1,
        levels-as-term (node_at source t (child_b t n)) (suc (suc v)) h.b.2 l.2,
        l.0,
        tree_of h.node
            ∙ (λ i. operated (tree-as term (node_at source t (child_a t n)) s (suc v) h.a.2 i)
            (tree-as term (node_at source t (child_b t n)) s (suc (suc v)) h.b.2 i)
            (term-operator (mark_of t n) h.mark i)),
      )
  test-arm valid h = queried 64 1 h.a.1 h.a.2 (levels h.node) (tree_of h.node)
  test-arm initialised h = queried 64 2 h.a.1 h.a.2 (levels h.node) (tree_of h.node)
  test-arm compared h =
      let l = levels h.node in (
        h.a.1,
        h.b.1,
        levels-as-term (node_at source t (child_a t n)) (suc v) h.a.2 l.1,
        levels-as-term (node_at source t (child_b t n)) (suc (suc v)) h.b.2 l.2,
        l.0,
        tree_of h.node
            ∙ (λ i. operated (tree-as term (node_at source t (child_a t n)) s (suc v) h.a.2 i)
            (tree-as term (node_at source t (child_b t n)) s (suc (suc v)) h.b.2 i)
            (test-operator (mark_of t n) h.mark i)),
      )
  test-arm negated h =
      let l = levels h.node in (
        h.a.1,
        levels-as-predicate (node_at source t (child_a t n)) (suc v) h.a.2 l.1,
        l.0,
        tree_of h.node ∙ (λ i. observed 65 0
            (tree-as predicate (node_at source t (child_a t n)) s (suc v) h.a.2 i)),
      )
  test-arm both h =
      let l = levels h.node in (
        h.a.1,
        h.b.1,
        levels-as-predicate (node_at source t (child_a t n)) v h.a.2 l.1,
        levels-as-predicate (node_at source t (child_b t n)) v h.b.2 l.2,
        l.0,
        tree_of h.node
            ∙ (λ i. conjoined (tree-as predicate (node_at source t (child_a t n)) s v h.a.2 i)
            (tree-as predicate (node_at source t (child_b t n)) s v h.b.2 i)),
      )
  test-arm either h =
      let l = levels h.node in (
        h.a.1,
        h.b.1,
        levels-as-predicate (node_at source t (child_a t n)) v h.a.2 l.1,
        levels-as-predicate (node_at source t (child_b t n)) v h.b.2 l.2,
        l.0,
        tree_of h.node
            ∙ (λ i. disjoined (tree-as predicate (node_at source t (child_a t n)) s v h.a.2 i)
            (tree-as predicate (node_at source t (child_b t n)) s v h.b.2 i)),
      )
  test-arm skip h = elim (levels h.node) [ ]
  test-arm assign h = elim (levels h.node) [ ]
  test-arm new h = elim (levels h.node) [ ]
  test-arm free h = elim (levels h.node) [ ]
  test-arm sequence h = elim (levels h.node) [ ]
  test-arm branch h = elim (levels h.node) [ ]
  test-arm while h = elim (levels h.node) [ ]
  test-arm let_in h = elim (levels h.node) [ ]
  test-arm assert h = elim (levels h.node) [ ]

-- what a term or a predicate says of record n
pub record TestLaw (t : List ℕ) (n s v : ℕ) : Type 0 where
  pub law : SizeLaw t n
  pub test : TestOf t n s v (kind_of t n)

pub test_at : (t : List ℕ) (n s v : ℕ) → LevelsAt t n v → TestLaw t n s v
test_at t n s v l = go (node_at source t n) refl l
  where
    by-sort : (r : Sort) → Stands source t n r → FormHolds source t n (form_at source (kind_of t n)) → TestLaw t n s v
    by-sort r w h = record { law = size-law t n r w; test = test-arm t n s v l w.kind h }

    go : (y : SourceNode) → node_at source t n ≡ y → Levels y v → TestLaw t n s v
    go (expression_node x) e h = elim h [ ]
    go (place_node x) e h = elim h [ ]
    go (term_node x) e h =
        by-sort term (stands source t n term (ap node_sort e))
        (stands_at source t n (kind_of t n) term (ap node_sort e) refl)
    go (predicate_node x) e h =
        by-sort predicate (stands source t n predicate (ap node_sort e))
        (stands_at source t n (kind_of t n) predicate (ap node_sort e) refl)
    go (statement_node x) e h = elim h [ ]
    go junk e h = elim h [ ]

-- a term or a predicate has a record
pub test-some : (t : List ℕ) (n s v : ℕ) → LevelsAt t n v → Some (tree_at t n s v)
test-some t n s v l = go (node_at source t n) l
  where
    go : (y : SourceNode) → Levels y v → Some (target_tree y s v)
    go (expression_node x) h = elim h [ ]
    go (place_node x) h = elim h [ ]
    go (term_node x) h = statement-some (translate_term x s v)
    go (predicate_node x) h = statement-some (translate_predicate x s v)
    go (statement_node x) h = elim h [ ]
    go junk h = elim h [ ]
