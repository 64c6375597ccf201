-- How far a child's level is from its parent's, and in which field it stands.
use Prim.Native.Nat.{ℕ, suc, ◌+◌, ◌≤◌}
use native.Mathlib.Omega.{arith}
use mathlib.Core.Bool.{Bool, true, false, cond}
use mathlib.Core.List.{List, [], ◌∷◌}
use mathlib.Core.Path.{◌≡◌}
use borrow.Author.Tests.{eq-eqb, ne_eqb}
use lib.Dec.{eqb}
use lib.ListN.{length}
use Rattle.rules.specs.Checker.{is_unary, is_binary, is_joint, level_below, position_in}

-- the level below
module _ (k i n : ℕ) where
  pub below-most : level_below k i n ≤ n + 1 + i
  below-most = go (is_unary k) (is_binary k) (is_joint k)
    where
      go : (u v w : Bool) → cond u (suc n) (cond v (n + 1 + i) (cond w n 0)) ≤ n + 1 + i
      go true v w = omega arith
      go false true w = omega arith
      go false false true = omega arith
      go false false false = omega arith

-- ---- which of three a number is
module _ (a b c x : ℕ) where
  pub at_first : a ≡ x → 0 ≡ position_in (a ∷ b ∷ c ∷ []) x
  at_first e = rw (eq-eqb a x e)

  pub at_second : (a ≡ x → ⊥) → b ≡ x → 1 ≡ position_in (a ∷ b ∷ c ∷ []) x
  at_second d e = rw (ne_eqb a x d, eq-eqb b x e)

  pub at-third : (a ≡ x → ⊥) → (b ≡ x → ⊥) → c ≡ x → 2 ≡ position_in (a ∷ b ∷ c ∷ []) x
  at-third d e f = rw (ne_eqb a x d, ne_eqb b x e, eq-eqb c x f)

pub position-most : (xs : List ℕ) (x : ℕ) → position_in xs x ≤ length xs
position-most [] x = omega arith
position-most (y ∷ ys) x = go (eqb y x) (position-most ys x)
  where
    go : (b : Bool) → position_in ys x ≤ length ys → cond b 0 (suc (position_in ys x)) ≤ suc (length ys)
    go true h = omega arith
    go false h = omega arith
