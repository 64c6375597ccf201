-- The tree of a statement that has no statement below it, by its kind.
use Prim.Native.Nat.{ℕ, ◌≤◌}
use native.Mathlib.Omega.{arith}
use mathlib.Core.Logic.{inr}
use mathlib.Core.Path.{◌≡◌, refl, ap, ◌∙◌, subst}
use mathlib.Core.List.{List}
use lib.IntN.{pos}
use Rattle.rules.specs.Sizes.{source_limit}
use Rattle.rules.specs.Records.{kind_of, child_a, child_b}
use Rattle.rules.specs.Kinds.{source, Sort, sort_number, expression, place, predicate, statement}
use Rattle.rules.specs.Nodes.{SourceNode, expression_node, place_node, term_node, predicate_node, statement_node, junk}
use Rattle.rules.specs.Nodes.{node_sort, node_at}
use Rattle.rules.specs.Emission.{expression_tree, statement_tree, none, node}
use Rattle.rules.specs.Translation.{translate}
use Rattle.rules.proofs.Acceptance.KindViews.{form_at, SourceKind, literal, read, address, operation, shifted, variable}
use Rattle.rules.proofs.Acceptance.KindViews.{pointed}
use Rattle.rules.proofs.Acceptance.KindViews.{value, base, offset, block_length, combined, valid, initialised, compared}
use Rattle.rules.proofs.Acceptance.KindViews.{negated}
use Rattle.rules.proofs.Acceptance.KindViews.{both, either, skip, assign, new, free, sequence, branch, while, let_in}
use Rattle.rules.proofs.Acceptance.KindViews.{assert}
use Rattle.rules.proofs.Acceptance.FormLaws.{FormHolds}
use Rattle.rules.proofs.Acceptance.Standing.{stands, stands_at}
use Rattle.table.specs.Within.{Within}
use Rattle.translation_sizes.specs.Trees.{target_tree, tree_at, copy_at, sort_at}
use Rattle.translation_emission.specs.Emission.{Copied, sequence_tree, leaf_tree}
use Rattle.translation_statements.specs.Statements.{fetch_tree, saved_tree, new_tree, StatementNode, StatementAt}
use Rattle.translation_statements.specs.Statements.{Simple}
use Rattle.translation_assertions.specs.Tests.{assert_tree, LevelsAt}
use Rattle.rules.proofs.Translation.RecordSizes.{none-at, SizeLaw, size-law, tree-as}
use Rattle.translation_assertions.proofs.Tests.{levels-as-predicate}

module _ (t : List ℕ) (n : ℕ) (e : sort_at t n ≡ 5) where
  tree_of : {y : SourceNode} → node_at source t n ≡ y → tree_at t n 0 0 ≡ target_tree y 0 0
  tree_of d = ap (λ (y : SourceNode). target_tree y 0 0) d

  nothing : none ≡ copy_at t 0
  nothing = none-at t 0 0 0 refl

  copied : (x k : ℕ) → sort_at t x ≡ k → 1 ≤ k → k ≤ 2 → Copied t x
  copied x k d p q = inr (omega arith, omega arith)

  pub skip-tree : kind_of t n ≡ 40 → tree_at t n 0 0 ≡ leaf_tree n 40 0 0
  unfolding translate statement_tree
  skip-tree d = tree_of (stands_at source t n 40 statement e d).node

  pub assign-tree : kind_of t n ≡ 41 → Copied t (child_a t n) × Copied t (child_b t n)
      × (tree_at t n 0 0 ≡ saved_tree t n 60 41 70 (child_a t n) (child_b t n))
  unfolding translate statement_tree
  assign-tree d =
      let h = stands_at source t n 41 statement e d in
      let a = tree-as place (node_at source t (child_a t n)) 0 0 h.a.2 in
      let b = tree-as expression (node_at source t (child_b t n)) 0 0 h.b.2 in (
        copied (child_a t n) 2 h.a.2 (omega arith) (omega arith),
        copied (child_b t n) 1 h.b.2 (omega arith) (omega arith),
        tree_of h.node
            ∙ (λ i.
            sequence_tree n (node 60 0 (pos n) 0 (a i) (nothing i) none)
            (sequence_tree n (node 41 0 (pos n) 0 (a i) (b i) none) (leaf_tree n 70 0 0))),
      )

  pub new-tree : kind_of t n ≡ 42 → Copied t (child_a t n) × Copied t (child_b t n)
      × (tree_at t n 0 0 ≡ new_tree t n (child_a t n) (child_b t n))
  unfolding translate statement_tree expression_tree
  new-tree d =
      let h = stands_at source t n 42 statement e d in
      let a = tree-as place (node_at source t (child_a t n)) 0 0 h.a.2 in
      let b = tree-as expression (node_at source t (child_b t n)) 0 0 h.b.2 in (
        copied (child_a t n) 2 h.a.2 (omega arith) (omega arith),
        copied (child_b t n) 1 h.b.2 (omega arith) (omega arith),
        tree_of h.node
            ∙ (λ i.
            sequence_tree n (node 60 0 (pos n) 0 (a i) (nothing i) none)
            (sequence_tree n (node 61 2 (pos n) 0 (b i) (nothing i) none)
            (sequence_tree n (node 42 0 (pos n) 0 (a i) (b i) none)
            (sequence_tree n (fetch_tree n)
            (sequence_tree n (leaf_tree n 68 1 0)
            (leaf_tree n 70 0 0)))))),
      )

  pub free-tree : kind_of t n ≡ 43 → Copied t (child_a t n) × (tree_at t n 0 0 ≡ saved_tree t n 61 43 69 (child_a t n) 0)
  unfolding translate statement_tree
  free-tree d =
      let h = stands_at source t n 43 statement e d in
      let a = tree-as expression (node_at source t (child_a t n)) 0 0 h.a.2 in (
        copied (child_a t n) 1 h.a.2 (omega arith) (omega arith),
        tree_of h.node
            ∙ (λ i.
            sequence_tree n (node 61 0 (pos n) 0 (a i) (nothing i) none)
            (sequence_tree n (node 43 0 (pos n) 0 (a i) (nothing i) none)
            (leaf_tree n 69 0 0))),
      )

  pub assert-tree : kind_of t n ≡ 48 → tree_at t n 0 0 ≡ assert_tree t n (child_a t n)
  unfolding translate statement_tree
  assert-tree d =
      let h = stands_at source t n 48 statement e d in
      let a = tree-as predicate (node_at source t (child_a t n)) n 0 h.a.2 in
      tree_of h.node ∙ (λ i. sequence_tree n (a i) (leaf_tree n 67 0 0))

-- what a statement says of record n
pub statement-sort : (t : List ℕ) (n : ℕ) → StatementAt t n → sort_at t n ≡ 5
statement-sort t n l = go (node_at source t n) l
  where
    go : (y : SourceNode) → StatementNode y → node_sort y ≡ 5
    go (expression_node x) h = elim h [ ]
    go (place_node x) h = elim h [ ]
    go (term_node x) h = elim h [ ]
    go (predicate_node x) h = elim h [ ]
    go (statement_node x) h = refl
    go junk h = elim h [ ]

pub statement-law : (t : List ℕ) (n : ℕ) → StatementAt t n → SizeLaw t n
statement-law t n l = size-law t n statement (stands source t n statement (statement-sort t n l))

pub within_statement : (t : List ℕ) (n : ℕ) → StatementAt t n → Within t n
within_statement t n l = (statement-law t n l).within

number-arm : (t : List ℕ) (n : ℕ) {r : Sort} {k : ℕ} → SourceKind r k → FormHolds source t n (form_at source k)
    → StatementAt t n
    → n ≤ source_limit
number-arm t n literal h l = elim (subst StatementNode h.node l) [ ]
number-arm t n read h l = elim (subst StatementNode h.node l) [ ]
number-arm t n address h l = elim (subst StatementNode h.node l) [ ]
number-arm t n operation h l = elim (subst StatementNode h.node l) [ ]
number-arm t n shifted h l = elim (subst StatementNode h.node l) [ ]
number-arm t n variable h l = elim (subst StatementNode h.node l) [ ]
number-arm t n pointed h l = elim (subst StatementNode h.node l) [ ]
number-arm t n value h l = elim (subst StatementNode h.node l) [ ]
number-arm t n base h l = elim (subst StatementNode h.node l) [ ]
number-arm t n offset h l = elim (subst StatementNode h.node l) [ ]
number-arm t n block_length h l = elim (subst StatementNode h.node l) [ ]
number-arm t n combined h l = elim (subst StatementNode h.node l) [ ]
number-arm t n valid h l = elim (subst StatementNode h.node l) [ ]
number-arm t n initialised h l = elim (subst StatementNode h.node l) [ ]
number-arm t n compared h l = elim (subst StatementNode h.node l) [ ]
number-arm t n negated h l = elim (subst StatementNode h.node l) [ ]
number-arm t n both h l = elim (subst StatementNode h.node l) [ ]
number-arm t n either h l = elim (subst StatementNode h.node l) [ ]
number-arm t n skip h l = subst StatementNode h.node l
number-arm t n assign h l = subst StatementNode h.node l
number-arm t n new h l = subst StatementNode h.node l
number-arm t n free h l = subst StatementNode h.node l
number-arm t n sequence h l = (subst StatementNode h.node l).0
number-arm t n branch h l = (subst StatementNode h.node l).0
number-arm t n while h l = (subst StatementNode h.node l).0
number-arm t n let_in h l = (subst StatementNode h.node l).0
number-arm t n assert h l = (subst StatementNode h.node l).0

pub number_small : (t : List ℕ) (n : ℕ) → StatementAt t n → n ≤ source_limit
number_small t n l =
    let e = statement-sort t n l in
    number-arm t n (stands source t n statement e).kind (stands_at source t n (kind_of t n) statement e refl) l

pub assert-levels : (t : List ℕ) (n : ℕ) → StatementAt t n → kind_of t n ≡ 48 → LevelsAt t (child_a t n) 0
assert-levels t n l d =
    let h = stands_at source t n 48 statement (statement-sort t n l) d in
    levels-as-predicate (node_at source t (child_a t n)) 0 h.a.2 (subst StatementNode h.node l).1

-- past the other kinds
assert-kind : {r : Sort} {k : ℕ} → SourceKind r k → r ≡ statement → Simple k → (k ≡ 40 → ⊥) → (k ≡ 41 → ⊥)
    → (k ≡ 42 → ⊥)
    → (k ≡ 43 → ⊥) → k ≡ 48
assert-kind literal e w p q u v = absurd (omega (arith, ap sort_number e))
assert-kind read e w p q u v = absurd (omega (arith, ap sort_number e))
assert-kind address e w p q u v = absurd (omega (arith, ap sort_number e))
assert-kind operation e w p q u v = absurd (omega (arith, ap sort_number e))
assert-kind shifted e w p q u v = absurd (omega (arith, ap sort_number e))
assert-kind variable e w p q u v = absurd (omega (arith, ap sort_number e))
assert-kind pointed e w p q u v = absurd (omega (arith, ap sort_number e))
assert-kind value e w p q u v = absurd (omega (arith, ap sort_number e))
assert-kind base e w p q u v = absurd (omega (arith, ap sort_number e))
assert-kind offset e w p q u v = absurd (omega (arith, ap sort_number e))
assert-kind block_length e w p q u v = absurd (omega (arith, ap sort_number e))
assert-kind combined e w p q u v = absurd (omega (arith, ap sort_number e))
assert-kind valid e w p q u v = absurd (omega (arith, ap sort_number e))
assert-kind initialised e w p q u v = absurd (omega (arith, ap sort_number e))
assert-kind compared e w p q u v = absurd (omega (arith, ap sort_number e))
assert-kind negated e w p q u v = absurd (omega (arith, ap sort_number e))
assert-kind both e w p q u v = absurd (omega (arith, ap sort_number e))
assert-kind either e w p q u v = absurd (omega (arith, ap sort_number e))
assert-kind skip e w p q u v = absurd (p refl)
assert-kind assign e w p q u v = absurd (q refl)
assert-kind new e w p q u v = absurd (u refl)
assert-kind free e w p q u v = absurd (v refl)
assert-kind sequence e w p q u v = absurd (w.0 refl)
assert-kind branch e w p q u v = absurd (w.1 refl)
assert-kind while e w p q u v = absurd (w.2 refl)
assert-kind let_in e w p q u v = absurd (w.3 refl)
assert-kind assert e w p q u v = refl

pub last-kind : (t : List ℕ) (n : ℕ) → StatementAt t n → Simple (kind_of t n) → (kind_of t n ≡ 40 → ⊥)
    → (kind_of t n ≡ 41 → ⊥) → (kind_of t n ≡ 42 → ⊥) → (kind_of t n ≡ 43 → ⊥) → kind_of t n ≡ 48
last-kind t n l = assert-kind (stands source t n statement (statement-sort t n l)).kind refl
