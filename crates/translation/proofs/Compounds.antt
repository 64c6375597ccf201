-- The tree of a statement with statements below it, by its kind.
use Prim.Native.Nat.{ℕ, ◌≤◌, ◌<◌}
use native.Mathlib.Omega.{arith}
use mathlib.Core.Path.{◌≡◌, refl, sym, ap, ◌∙◌, subst}
use mathlib.Core.List.{List}
use lib.IntN.{pos}
use Rattle.rules.specs.Records.{kind_of, mark_of, child_a, child_b, child_c}
use Rattle.rules.specs.Kinds.{source, expression, statement}
use Rattle.rules.specs.Nodes.{SourceNode, expression_node, place_node, term_node, predicate_node, statement_node, junk}
use Rattle.rules.specs.Nodes.{node_sort, source_statement, node_at}
use Rattle.rules.specs.Emission.{expression_tree, statement_tree, none, node}
use Rattle.rules.specs.Translation.{translate}
use Rattle.rules.proofs.Acceptance.Standing.{stands_at}
use Rattle.translation_sizes.specs.Trees.{target_tree, copy_at, sort_at}
use Rattle.translation_emission.specs.Emission.{sequence_tree, leaf_tree}
use Rattle.translation_statements.specs.Statements.{StatementLevels, StatementNode, StatementAt}
use Rattle.translation.specs.Lets.{over_tree, ending_tree, let_tree, inside_tree}
use Rattle.translation_emission.proofs.Emitting.{Some, some, statement-some}
use Rattle.translation_emission.proofs.Copying.{copy-at}
use Rattle.rules.proofs.Translation.RecordSizes.{tree-as}
use Rattle.translation_statements.proofs.Statements.{statement-sort}

pub statement-as : (y : SourceNode) → node_sort y ≡ 5 → StatementLevels (source_statement y) → StatementNode y
statement-as (expression_node x) e h = absurd (omega arith)
statement-as (place_node x) e h = absurd (omega arith)
statement-as (term_node x) e h = absurd (omega arith)
statement-as (predicate_node x) e h = absurd (omega arith)
statement-as (statement_node x) e h = h
statement-as junk e h = absurd (omega arith)

module _ (t : List ℕ) (n : ℕ) (l : StatementAt t n) where
  levels-of : {y : SourceNode} → node_at source t n ≡ y → StatementNode y
  levels-of d = subst StatementNode d l

  below : (x : ℕ) → sort_at t x ≡ 5 → StatementLevels (source_statement (node_at source t x)) → StatementAt t x
  below x d h = statement-as (node_at source t x) d h

  sequence-tree : kind_of t n ≡ 44 → (child_a t n < n) × (child_b t n < n) × StatementAt t (child_a t n)
      × StatementAt t (child_b t n) × (copy_at t n ≡ sequence_tree n (copy_at t (child_a t n)) (copy_at t (child_b t n)))
  unfolding translate statement_tree
  sequence-tree d =
      let h = stands_at source t n 44 statement (statement-sort t n l) d in
      let a = tree-as statement (node_at source t (child_a t n)) 0 0 h.a.2 in
      let b = tree-as statement (node_at source t (child_b t n)) 0 0 h.b.2 in
      let m = levels-of h.node in (
        h.a.1,
        h.b.1,
        below (child_a t n) h.a.2 m.1,
        below (child_b t n) h.b.2 m.2,
        ap (λ (y : SourceNode). target_tree y 0 0) h.node ∙ (λ i. sequence_tree n (a i) (b i)),
      )

  branch-tree : kind_of t n ≡ 45
      → (child_b t n < n) × (child_c t n < n) × ((1 ≤ sort_at t (child_a t n)) × (sort_at t (child_a t n) ≤ 2))
      × StatementAt t (child_b t n) × StatementAt t (child_c t n)
      × (copy_at t n ≡ node 45 0 (pos n) 0 (copy_at t (child_a t n)) (copy_at t (child_b t n)) (copy_at t (child_c t n)))
  unfolding translate statement_tree
  branch-tree d =
      let h = stands_at source t n 45 statement (statement-sort t n l) d in
      let a = tree-as expression (node_at source t (child_a t n)) 0 0 h.a.2 in
      let b = tree-as statement (node_at source t (child_b t n)) 0 0 h.b.2 in
      let c = tree-as statement (node_at source t (child_c t n)) 0 0 h.c.2 in
      let m = levels-of h.node in
      let s = h.a.2 in (
        h.b.1,
        h.c.1,
        (omega arith, omega arith),
        below (child_b t n) h.b.2 m.1,
        below (child_c t n) h.c.2 m.2,
        ap (λ (y : SourceNode). target_tree y 0 0) h.node ∙ (λ i. node 45 0 (pos n) 0 (a i) (b i) (c i)),
      )

  while-tree : kind_of t n ≡ 46
      → (child_b t n < n) × ((1 ≤ sort_at t (child_a t n)) × (sort_at t (child_a t n) ≤ 2)) × StatementAt t (child_b t n)
      × (copy_at t n ≡ node 46 0 (pos n) 0 (copy_at t (child_a t n)) (copy_at t (child_b t n)) none)
  unfolding translate statement_tree
  while-tree d =
      let h = stands_at source t n 46 statement (statement-sort t n l) d in
      let a = tree-as expression (node_at source t (child_a t n)) 0 0 h.a.2 in
      let b = tree-as statement (node_at source t (child_b t n)) 0 0 h.b.2 in
      let m = levels-of h.node in
      let s = h.a.2 in (
        h.b.1,
        (omega arith, omega arith),
        below (child_b t n) h.b.2 m.1,
        ap (λ (y : SourceNode). target_tree y 0 0) h.node ∙ (λ i. node 46 0 (pos n) 0 (a i) (b i) none),
      )

  let-tree : kind_of t n ≡ 47 → (child_a t n < n) × StatementAt t (child_a t n)
      × (copy_at t n ≡ let_tree n (mark_of t n) (copy_at t (child_a t n)))
  unfolding translate statement_tree expression_tree
  let-tree d =
      let h = stands_at source t n 47 statement (statement-sort t n l) d in
      let a = tree-as statement (node_at source t (child_a t n)) 0 0 h.a.2 in
      let m = levels-of h.node in
      let x = mark_of t n in (
        h.a.1,
        below (child_a t n) h.a.2 m.1,
        ap (λ (y : SourceNode). target_tree y 0 0) h.node
            ∙ (λ i.
            node 47 x (pos n) 0
            (sequence_tree n (over_tree 10 x (pos 0) n 60 0)
            (sequence_tree n (over_tree 1 0 (pos 1) n 61 1)
            (sequence_tree n (leaf_tree n 68 0 0)
            (sequence_tree n (a i)
            (sequence_tree n (over_tree 10 x (pos 0) n 60 0) (leaf_tree n 69 0 0))))))
            none none),
      )

-- the same where the children were read
module _ (t : List ℕ) (n : ℕ) (l : StatementAt t n) where
  pub sequence-read : {a b : ℕ} → kind_of t n ≡ 44 → a ≡ child_a t n → b ≡ child_b t n
      → (a < n) × (b < n) × StatementAt t a × StatementAt t b × (copy_at t n ≡ sequence_tree n (copy_at t a) (copy_at t b))
  sequence-read d e f = rw (e, f) (sequence-tree t n l d)

  pub branch_read : {a b c : ℕ} → kind_of t n ≡ 45 → a ≡ child_a t n → b ≡ child_b t n → c ≡ child_c t n
      → (b < n) × (c < n) × ((1 ≤ sort_at t a) × (sort_at t a ≤ 2)) × StatementAt t b × StatementAt t c
      × (copy_at t n ≡ node 45 0 (pos n) 0 (copy_at t a) (copy_at t b) (copy_at t c))
  branch_read d e f g = rw (e, f, g) (branch-tree t n l d)

  pub while-read : {a b : ℕ} → kind_of t n ≡ 46 → a ≡ child_a t n → b ≡ child_b t n
      → (b < n) × ((1 ≤ sort_at t a) × (sort_at t a ≤ 2)) × StatementAt t b
      × (copy_at t n ≡ node 46 0 (pos n) 0 (copy_at t a) (copy_at t b) none)
  while-read d e f = rw (e, f) (while-tree t n l d)

  pub let-read : {x : ℕ} → kind_of t n ≡ 47 → x ≡ mark_of t n
      → copy_at t n ≡ let_tree n x (copy_at t (child_a t n))
  let-read d e = rw e (let-tree t n l d).2

  pub inside-read : {a : ℕ} (x : ℕ) → kind_of t n ≡ 47 → a ≡ child_a t n → (a < n) × StatementAt t a
      × (inside_tree t n x ≡ sequence_tree n (copy_at t a) (ending_tree n x))
  inside-read x d e = let h = let-tree t n l d in rw e (h.0, h.1, refl)

pub statement-has : (t : List ℕ) (n : ℕ) → StatementAt t n → Some (copy_at t n)
statement-has t n l = go (node_at source t n) l
  where
    go : (y : SourceNode) → StatementNode y → Some (target_tree y 0 0)
    go (expression_node x) h = elim h [ ]
    go (place_node x) h = elim h [ ]
    go (term_node x) h = elim h [ ]
    go (predicate_node x) h = elim h [ ]
    go (statement_node x) h = statement-some (translate x)
    go junk h = elim h [ ]
