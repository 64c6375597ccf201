-- The steps of counting: each child's size is at most the record's, and the sizes add up.
use Prim.Native.Nat.{ℕ, ◌*◌, ◌≤◌, ◌<◌}
use native.Mathlib.Omega.{arith}
use mathlib.Core.Bool.{Bool, true, false, cond, ◌&&◌}
use mathlib.Core.Path.{◌≡◌, sym, ap, ◌∙◌}
use mathlib.Core.List.{List}
use lib.Dec.{leb, eqb}
use Rattle.rules.specs.Sizes.{target_limit}
use Rattle.rules.specs.Records.{kind_of, child_a, child_b, child_c}
use Rattle.rules.specs.Emission.{tree_size}
use Rattle.rules.specs.RecordTrees.{tree_at, Sorted, size_from}
use Rattle.table.specs.Within.{Within}
use Rattle.rules.proofs.Translation.RecordSizes.{none-at, sorted-at}

copies-least : (twice : Bool) (x : ℕ) → x ≤ cond twice 2 1 * x
copies-least true x = omega arith
copies-least false x = omega arith

-- a record that keeps the rules is there
pub within_sorted : (t : List ℕ) (n : ℕ) → Sorted t n → (n ≡ 0 → ⊥) → Within t n
within_sorted t n s h = (sorted-at t n s h).within

pub size_none : (t : List ℕ) (n : ℕ) → n ≡ 0 → ◌≡◌ {A = ℕ} 0 (tree_size (tree_at t n 0 0))
size_none t n e = ap tree_size (none-at t n 0 0 e)

-- each child of record n stands before it and keeps the rules, and its size leaves room
module _ (t : List ℕ) (n : ℕ) (s : Sorted t n) (some : n ≡ 0 → ⊥) (small : tree_size (tree_at t n 0 0) ≤ target_limit) where
  pub size_a : (x : ℕ) → x ≡ child_a t n → (x < n) × (Sorted t x × (tree_size (tree_at t x 0 0) ≤ target_limit))
  size_a x e =
      let l = sorted-at t n s some in
      let k = kind_of t n in
      rw e (
        l.a-below,
        (
          l.a-sorted,
          omega (arith, l.size 0 0, copies-least (leb 41 k && leb k 43) (tree_size (tree_at t (child_a t n) 0 0))),
        ),
      )

  pub size_b : (x : ℕ) → x ≡ child_b t n → (x < n) × (Sorted t x × (tree_size (tree_at t x 0 0) ≤ target_limit))
  size_b x e =
      let l = sorted-at t n s some in
      rw e (
        l.b-below,
        (l.b-sorted, omega (arith, l.size 0 0, copies-least (eqb (kind_of t n) 42) (tree_size (tree_at t (child_b t n) 0 0)))),
      )

  pub size_c : (x : ℕ) → x ≡ child_c t n → (x < n) × (Sorted t x × (tree_size (tree_at t x 0 0) ≤ target_limit))
  size_c x e =
      let l = sorted-at t n s some in
      rw e (l.c-below, (l.c-sorted, omega (arith, l.size 0 0)))

  pub size_sum : {k a b c x y z : ℕ} → k ≡ kind_of t n → x ≡ child_a t n → y ≡ child_b t n → z ≡ child_c t n
      → a ≡ tree_size (tree_at t x 0 0) → b ≡ tree_size (tree_at t y 0 0) → c ≡ tree_size (tree_at t z 0 0)
      → size_from k a b c ≡ tree_size (tree_at t n 0 0)
  size_sum e p q r u v w =
      let l = sorted-at t n s some in
      (λ i.
      size_from (e i) ((u ∙ ap (λ (j : ℕ). tree_size (tree_at t j 0 0)) p) i)
      ((v ∙ ap (λ (j : ℕ). tree_size (tree_at t j 0 0)) q) i) ((w ∙ ap (λ (j : ℕ). tree_size (tree_at t j 0 0)) r) i))
      ∙ sym (l.size 0 0)
