-- The size of a record's translation from its kind and its children's sizes.
use Prim.Native.Nat.{ℕ, suc, ◌≤◌, ◌<◌}
use native.Mathlib.Omega.{arith}
use mathlib.Core.Bool.{Bool, true, false, ◌&&◌, false≢true}
use mathlib.Core.Logic.{inl, inr}
use mathlib.Core.Path.{◌≡◌, refl, sym, ap, ◌∙◌, subst}
use mathlib.Core.List.{List}
use mathlib.Core.Option.{some}
use Rattle.rules.specs.Records.{record_count, kind_of, child_a, child_b, child_c}
use Rattle.rules.specs.Kinds.{source, Sort, sort_number, expression, place, term, predicate, statement, Field}
use Rattle.rules.specs.Kinds.{unnamed}
use Rattle.rules.specs.Kinds.{child, number, Form, field_of, forms, form_of}
use Rattle.rules.specs.Nodes.{SourceNode, expression_node, place_node, term_node, predicate_node, statement_node, junk}
use Rattle.rules.specs.Nodes.{node_sort, as_expression, as_place, as_term, as_predicate, source_statement, node_at}
use Rattle.rules.specs.Trees.{Term, Predicate}
use Rattle.rules.specs.Trees as tree
use Rattle.rules.specs.Emission.{RecordTree, none, expression_tree, place_tree, statement_tree, tree_size}
use Rattle.rules.specs.Translation.{embed, embed_place, translate_term, translate_predicate, translate}
use Rattle.rules.proofs.Lists.BooleanLaws.{three-pass}
use Rattle.rules.proofs.Acceptance.KindViews.{form_at, found_at, every, found-passes, SourceKind, literal, read}
use Rattle.rules.proofs.Acceptance.KindViews.{address, operation, shifted, variable, pointed, value, base}
use Rattle.rules.proofs.Acceptance.KindViews.{offset}
use Rattle.rules.proofs.Acceptance.KindViews.{block_length}
use Rattle.rules.proofs.Acceptance.KindViews.{combined, valid, initialised, compared, negated, both, either}
use Rattle.rules.proofs.Acceptance.KindViews.{skip, assign}
use Rattle.rules.proofs.Acceptance.KindViews.{new}
use Rattle.rules.proofs.Acceptance.KindViews.{free, sequence, branch, while, let_in, assert}
use Rattle.rules.proofs.Acceptance.FormLaws.{some-sort, FieldHolds, node_as}
use Rattle.rules.proofs.Acceptance.NodeLaws.{node-zero}
use Rattle.rules.proofs.Acceptance.Standing.{Stands, stands}
use Rattle.rules.proofs.Acceptance.Readiness.{node-as}
use Rattle.rules.specs.RecordTrees.{target_tree, tree_at, Sorted, size_from}

-- the tree of a child that is none
pub none-at : (t : List ℕ) (x s v : ℕ) → x ≡ 0 → none ≡ tree_at t x s v
none-at t x s v e =
    sym (ap (λ (y : ℕ). tree_at t y s v) e ∙ ap (λ (y : SourceNode). target_tree y s v) (node-zero source t))

-- sizes count neither the statement's number nor the level
pub term-level : (x : Term) (s v : ℕ)
    → tree_size (statement_tree (translate_term x s v)) ≡ tree_size (statement_tree (translate_term x 0 0))
unfolding translate_term statement_tree
term-level (tree.value e) s v = refl
term-level (tree.asked q x) s v = omega (arith, term-level x s (suc v), term-level x 0 1)
term-level (tree.combined o x y) s v =
    omega (arith, term-level x s (suc v), term-level x 0 1, term-level y s (suc (suc v)), term-level y 0 2)

pub predicate-level : (p : Predicate) (s v : ℕ)
    → tree_size (statement_tree (translate_predicate p s v)) ≡ tree_size (statement_tree (translate_predicate p 0 0))
unfolding translate_predicate statement_tree
predicate-level (tree.holds q x) s v = omega (arith, term-level x s (suc v), term-level x 0 1)
predicate-level (tree.compared o x y) s v =
    omega (arith, term-level x s (suc v), term-level x 0 1, term-level y s (suc (suc v)), term-level y 0 2)
predicate-level (tree.negated p) s v = omega (arith, predicate-level p s (suc v), predicate-level p 0 1)
predicate-level (tree.both p q) s v = omega (arith, predicate-level p s v, predicate-level q s v)
predicate-level (tree.either p q) s v = omega (arith, predicate-level p s v, predicate-level q s v)

-- the tree of a node as one of a sort, and of a field's child
abbrev pub tree_as : Sort → SourceNode → ℕ → ℕ → RecordTree
tree_as expression y s v = expression_tree (embed (as_expression y))
tree_as place y s v = place_tree (embed_place (as_place y))
tree_as term y s v = statement_tree (translate_term (as_term y) s v)
tree_as predicate y s v = statement_tree (translate_predicate (as_predicate y) s v)
tree_as statement y s v = statement_tree (translate (source_statement y))

pub tree-as : (s : Sort) (y : SourceNode) (i v : ℕ) → node_sort y ≡ sort_number s → tree_as s y i v ≡ target_tree y i v
tree-as expression (expression_node x) i v h = refl
tree-as expression (place_node x) i v h = absurd (omega arith)
tree-as expression (term_node x) i v h = absurd (omega arith)
tree-as expression (predicate_node x) i v h = absurd (omega arith)
tree-as expression (statement_node x) i v h = absurd (omega arith)
tree-as expression junk i v h = absurd (omega arith)
tree-as place (expression_node x) i v h = absurd (omega arith)
tree-as place (place_node x) i v h = refl
tree-as place (term_node x) i v h = absurd (omega arith)
tree-as place (predicate_node x) i v h = absurd (omega arith)
tree-as place (statement_node x) i v h = absurd (omega arith)
tree-as place junk i v h = absurd (omega arith)
tree-as term (expression_node x) i v h = absurd (omega arith)
tree-as term (place_node x) i v h = absurd (omega arith)
tree-as term (term_node x) i v h = refl
tree-as term (predicate_node x) i v h = absurd (omega arith)
tree-as term (statement_node x) i v h = absurd (omega arith)
tree-as term junk i v h = absurd (omega arith)
tree-as predicate (expression_node x) i v h = absurd (omega arith)
tree-as predicate (place_node x) i v h = absurd (omega arith)
tree-as predicate (term_node x) i v h = absurd (omega arith)
tree-as predicate (predicate_node x) i v h = refl
tree-as predicate (statement_node x) i v h = absurd (omega arith)
tree-as predicate junk i v h = absurd (omega arith)
tree-as statement (expression_node x) i v h = absurd (omega arith)
tree-as statement (place_node x) i v h = absurd (omega arith)
tree-as statement (term_node x) i v h = absurd (omega arith)
tree-as statement (predicate_node x) i v h = absurd (omega arith)
tree-as statement (statement_node x) i v h = refl
tree-as statement junk i v h = absurd (omega arith)

abbrev field_size : Field → SourceNode → ℕ
field_size unnamed y = 0
field_size (child s) y = tree_size (tree_as s y 0 0)
field_size (number p) y = 0

abbrev Sized : List ℕ → ℕ → ℕ → ℕ → ℕ → Form → Type 0
Sized t n i v k f =
    tree_size (target_tree (node_as source k t n) i v)
    ≡ size_from k (field_size (field_of f 0) (node_at source t (child_a t n)))
    (field_size (field_of f 1) (node_at source t (child_b t n))) (field_size (field_of f 2) (node_at source t (child_c t n)))

size-arm : (t : List ℕ) (n i v : ℕ) {s : Sort} {k : ℕ} → SourceKind s k → Sized t n i v k (form_at source k)
unfolding expression_tree embed translate_term translate_predicate translate statement_tree
size-arm t n i v literal = omega arith
size-arm t n i v read = omega arith
size-arm t n i v address = omega arith
size-arm t n i v operation = omega arith
size-arm t n i v shifted = omega arith
size-arm t n i v variable = omega arith
size-arm t n i v pointed = omega arith
size-arm t n i v value = omega arith
size-arm t n i v base = omega (arith, term-level (as_term (node_at source t (child_a t n))) i (suc v))
size-arm t n i v offset = omega (arith, term-level (as_term (node_at source t (child_a t n))) i (suc v))
size-arm t n i v block_length = omega (arith, term-level (as_term (node_at source t (child_a t n))) i (suc v))
size-arm t n i v combined =
    omega (
      arith,
      term-level (as_term (node_at source t (child_a t n))) i (suc v),
      term-level (as_term (node_at source t (child_b t n))) i (suc (suc v)),
    )
size-arm t n i v valid = omega (arith, term-level (as_term (node_at source t (child_a t n))) i (suc v))
size-arm t n i v initialised = omega (arith, term-level (as_term (node_at source t (child_a t n))) i (suc v))
size-arm t n i v compared =
    omega (
      arith,
      term-level (as_term (node_at source t (child_a t n))) i (suc v),
      term-level (as_term (node_at source t (child_b t n))) i (suc (suc v)),
    )
size-arm t n i v negated =
    omega (arith, predicate-level (as_predicate (node_at source t (child_a t n))) i (suc v))
size-arm t n i v both =
    omega (
      arith,
      predicate-level (as_predicate (node_at source t (child_a t n))) i v,
      predicate-level (as_predicate (node_at source t (child_b t n))) i v,
    )
size-arm t n i v either =
    omega (
      arith,
      predicate-level (as_predicate (node_at source t (child_a t n))) i v,
      predicate-level (as_predicate (node_at source t (child_b t n))) i v,
    )
size-arm t n i v skip = omega arith
size-arm t n i v assign = omega arith
size-arm t n i v new = omega arith
size-arm t n i v free = omega arith
size-arm t n i v sequence = omega arith
size-arm t n i v branch = omega arith
size-arm t n i v while = omega arith
size-arm t n i v let_in = omega arith
size-arm t n i v assert = omega (arith, predicate-level (as_predicate (node_at source t (child_a t n))) n 0)

-- no field of a source record but the mark has a number
abbrev pub has_no_number : Field → Bool
has_no_number unnamed = true
has_no_number (child s) = true
has_no_number (number p) = false

has_children : Form → Bool
has_children f = has_no_number (field_of f 0) && has_no_number (field_of f 1) && has_no_number (field_of f 2)

all-children : every has_children (forms source) ≡ true
unfolding has_children
all-children = refl

pub children-only : (k : ℕ) (f : Form) → form_of source k ≡ some f
    → (has_no_number (field_of f 0) ≡ true) × (has_no_number (field_of f 1) ≡ true) × (has_no_number (field_of f 2) ≡ true)
unfolding has_children
children-only k f e = three-pass _ _ _ (found-passes has_children source k f all-children e)

-- a field's child: below n, one that stands, of that size
pub record Child (t : List ℕ) (n x : ℕ) (size : ℕ) : Type 0 where
  pub below : x < n
  pub sorted : Sorted t x
  pub size_is : size ≡ tree_size (tree_at t x 0 0)

field-child : (t : List ℕ) (n : ℕ) (f : Field) (x : ℕ) → 1 ≤ n → has_no_number f ≡ true → FieldHolds source t n f x
    → Child t n x (field_size f (node_at source t x))
field-child t n unnamed x p q h =
    record { below = omega arith; sorted = inl h; size_is = ap tree_size (none-at t x 0 0 h) }
field-child t n (child s) x p q h =
    let e = h.2 in
    record {
      below = h.1;
      sorted = inr (omega (arith, some-sort s));
      size_is = ap tree_size (tree-as s (node_at source t x) 0 0 h.2);
    }
field-child t n (number g) x p q h = absurd (false≢true q)

-- what a record that stands says of its translation's size
pub record SizeLaw (t : List ℕ) (n : ℕ) : Type 0 where
  pub within : (1 ≤ n) × (n ≤ record_count t)
  pub a-below : child_a t n < n
  pub b-below : child_b t n < n
  pub c-below : child_c t n < n
  pub a-sorted : Sorted t (child_a t n)
  pub b-sorted : Sorted t (child_b t n)
  pub c-sorted : Sorted t (child_c t n)
  pub size : (i v : ℕ) → tree_size (tree_at t n i v)
      ≡ size_from (kind_of t n) (tree_size (tree_at t (child_a t n) 0 0)) (tree_size (tree_at t (child_b t n) 0 0))
      (tree_size (tree_at t (child_c t n) 0 0))

pub size-law : (t : List ℕ) (n : ℕ) (s : Sort) → Stands source t n s → SizeLaw t n
size-law t n s w =
    let k = kind_of t n in
    let f = w.form in
    let p = children-only k f w.found in
    let a = field-child t n (field_of f 0) (child_a t n) w.from_one p.0 w.holds.a in
    let b = field-child t n (field_of f 1) (child_b t n) w.from_one p.1 w.holds.b in
    let c = field-child t n (field_of f 2) (child_c t n) w.from_one p.2 w.holds.c in
    record {
      within = (w.from_one, w.within);
      a-below = a.below;
      b-below = b.below;
      c-below = c.below;
      a-sorted = a.sorted;
      b-sorted = b.sorted;
      c-sorted = c.sorted;
      size = λ i v.
          ap (λ (z : SourceNode). tree_size (target_tree z i v)) (sym (node-as source t n s w))
          ∙ subst (Sized t n i v k) (sym (found_at source k f w.found)) (size-arm t n i v w.kind)
          ∙ (λ j. size_from k (a.size_is j) (b.size_is j) (c.size_is j));
    }

-- a record with a sort stands
pub sorted-at : (t : List ℕ) (n : ℕ) → Sorted t n → (n ≡ 0 → ⊥) → SizeLaw t n
sorted-at t n (inl e) h = absurd (h e)
sorted-at t n (inr q) h = go (node_at source t n) refl
  where
    go : (y : SourceNode) → node_at source t n ≡ y → SizeLaw t n
    go (expression_node x) e = size-law t n expression (stands source t n expression (ap node_sort e))
    go (place_node x) e = size-law t n place (stands source t n place (ap node_sort e))
    go (term_node x) e = size-law t n term (stands source t n term (ap node_sort e))
    go (predicate_node x) e = size-law t n predicate (stands source t n predicate (ap node_sort e))
    go (statement_node x) e = size-law t n statement (stands source t n statement (ap node_sort e))
    go junk e = absurd (omega (arith, ap node_sort e))
