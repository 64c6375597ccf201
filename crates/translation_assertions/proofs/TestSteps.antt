-- What the emission of a term or a predicate starts from, kind by kind, in the values that the code has read.
use Prim.Native.Nat.{ℕ, suc, ◌<◌}
use mathlib.Core.Bool.{Bool, true, false}
use mathlib.Core.Logic.{◌⊎◌, inl, inr}
use mathlib.Core.Path.{◌≡◌, refl, sym, ◌∙◌, subst}
use mathlib.Core.List.{List}
use lib.IntN.{pos}
use borrow.Author.Tests.{ne_eqb}
use Rattle.rules.specs.Records.{kind_of, mark_of, child_a, child_b}
use Rattle.rules.specs.Checker.{is_unary}
use Rattle.rules.specs.Emission.{RecordTree, none, node}
use Rattle.table.specs.Within.{Within}
use Rattle.translation_emission.specs.Emission.{Copied, sequence_tree, part_tree, leaf_tree}
use Rattle.translation_sizes.specs.Trees.{tree_at}
use Rattle.translation_emission.specs.declared.Output.{Output}
use Rattle.translation_assertions.specs.Tests.{LevelsAt, Ready, last_kind, last_field}
use Rattle.translation_assertions.proofs.Tests.{BinaryTest, skip_tree, TestOf, test_at}

abbrev pub ValueAt : List ℕ → ℕ → ℕ → ℕ → ℕ → Type 0
ValueAt t n s v a = Copied t a × (v < 64) × (tree_at t n s v ≡ part_tree t s 61 v a 0)

abbrev pub UnaryAt : List ℕ → ℕ → ℕ → ℕ → ℕ → ℕ → ℕ → ℕ → Type 0
UnaryAt t n s v k c a w =
    (a < n) × LevelsAt t a w × (suc v < 64)
    × (tree_at t n s v ≡ sequence_tree s (tree_at t a s w) (leaf_tree s k v c))

abbrev pub BinaryAt : List ℕ → ℕ → ℕ → ℕ → ℕ → ℕ → ℕ → ℕ → ℕ → Type 0
BinaryAt t n s v a b m w x =
    (a < n) × (b < n) × LevelsAt t a w × LevelsAt t b x × (suc (suc v) < 64)
    × (tree_at t n s v ≡ sequence_tree s (tree_at t a s w) (sequence_tree s (tree_at t b s x) (leaf_tree s 63 v m)))

abbrev pub JointAt : List ℕ → ℕ → ℕ → ℕ → ℕ → ℕ → RecordTree → RecordTree → Type 0
JointAt t n s v a b y z =
    (a < n) × (b < n) × LevelsAt t a v × LevelsAt t b v × (v < 64)
    × (tree_at t n s v ≡ sequence_tree s (tree_at t a s v) (node 66 v (pos s) 0 none y z))

module _ (t : List ℕ) (n s v : ℕ) (l : LevelsAt t n v) where
  of-kind : (k : ℕ) → kind_of t n ≡ k → TestOf t n s v k
  of-kind k e = subst (TestOf t n s v) e (test_at t n s v l).test

  pub value-at : {a : ℕ} → kind_of t n ≡ 20 → a ≡ child_a t n → ValueAt t n s v a
  value-at e p = let r = of-kind 20 e in rw p (r.1, r.2, r.3)

  pub unary-at : {k c a w : ℕ} → is_unary (kind_of t n) ≡ true → k ≡ last_kind (kind_of t n) → c ≡ last_field (kind_of t n)
      → a ≡ child_a t n → w ≡ suc v → UnaryAt t n s v k c a w
  unary-at e f g p q = rw (f, g, p, q) (rw e at (test_at t n s v l).test)

  binary_test : (kind_of t n ≡ 24) ⊎ (kind_of t n ≡ 32) → BinaryTest t n s v
  binary_test (inl e) = of-kind 24 e
  binary_test (inr e) = of-kind 32 e

  pub binary-at : {a b m w x : ℕ} → (kind_of t n ≡ 24) ⊎ (kind_of t n ≡ 32) → a ≡ child_a t n → b ≡ child_b t n
      → m ≡ mark_of t n → w ≡ suc v → x ≡ suc (suc v) → BinaryAt t n s v a b m w x
  binary-at e p q r i j = rw (p, q, r, i, j) (binary_test e)

  pub both_at : {a b : ℕ} → kind_of t n ≡ 34 → a ≡ child_a t n → b ≡ child_b t n
      → JointAt t n s v a b (tree_at t b s v) (skip_tree s)
  both_at e p q = rw (p, q) (of-kind 34 e)

  pub either-at : {a b : ℕ} → kind_of t n ≡ 35 → a ≡ child_a t n → b ≡ child_b t n
      → JointAt t n s v a b (skip_tree s) (tree_at t b s v)
  either-at e p q = rw (p, q) (of-kind 35 e)

  -- past the kinds that are named
  pub last-unary : {k : ℕ} → k ≡ kind_of t n → (k ≡ 20 → ⊥) → ((k ≡ 24) ⊎ (k ≡ 32) → ⊥) → (k ≡ 34 → ⊥) → (k ≡ 35 → ⊥)
      → is_unary (kind_of t n) ≡ true
  last-unary {k = k} e a b c d = rw (sym e) (go (is_unary k) refl)
    where
      go : (u : Bool) → is_unary k ≡ u → is_unary k ≡ true
      go true h = h
      go false h =
          let r = rw (
            h,
            ne_eqb k 24 (λ x. b (inl x)),
            ne_eqb k 32 (λ x. b (inr x)),
            ne_eqb k 34 c,
            ne_eqb k 35 d,
          ) at (of-kind k (sym e)) in
          absurd (a r.0)

pub within_ready : {t : List ℕ} {n : ℕ} {o : Output} {s v : ℕ} → Ready t n o s v → Within t n
within_ready {t} {n} {s = s} {v} r = (test_at t n s v r.levels).law.within
