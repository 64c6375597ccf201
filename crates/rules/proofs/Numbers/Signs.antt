-- Whole numbers by sign and magnitude: a product, a quotient's product with its divisor, and a difference.
use Prim.Native.Nat.{ℕ, zero, suc, ◌+◌, ◌-◌, ◌*◌, ◌<◌}
use native.Mathlib.Nat.{zero-mul}
use native.Mathlib.Omega.{arith}
use mathlib.Core.Path.{◌≡◌, refl, sym, ap, ◌∙◌}
use mathlib.Core.Bool.{Bool, true, false, not, cond}
use borrow.Author.Tests.{ltb-true, ltb-false}
use lib.Dec.{ltb, eqb-suc-zero}
use lib.IntN.{ℤ, pos, negsuc, neg_ℤ, nat_abs, sub_ℕ, ◌+ℤ◌, ◌-ℤ◌, ◌*ℤ◌, neg_ℤ-+ℤ}
use Rattle.rules.specs.Numbers.{is_negative, signed, signs_differ, quotient_of, ranged, divided}

pub signed-itself : (x : ℤ) → signed (is_negative x) (nat_abs x) ≡ x
signed-itself (pos n) = refl
signed-itself (negsuc n) = refl

pub magnitude-signed : (s : Bool) (m : ℕ) → nat_abs (signed s m) ≡ m
magnitude-signed false m = refl
magnitude-signed true zero = refl
magnitude-signed true (suc m) = refl

pub product-signed : (x y : ℤ) → x *ℤ y ≡ signed (signs_differ x y) (nat_abs x * nat_abs y)
product-signed (pos x) (pos y) = refl
product-signed (pos x) (negsuc y) = refl
product-signed (negsuc x) (pos y) = refl
product-signed (negsuc x) (negsuc y) = refl

-- a number with the sign of x by y, times y, has the sign of x
pub quotient-times : (x y : ℤ) (m : ℕ) → signed (signs_differ x y) m *ℤ y ≡ signed (is_negative x) (m * nat_abs y)
quotient-times (pos x) (pos y) m = refl
quotient-times (pos x) (negsuc y) zero = rw (zero-mul (suc y))
quotient-times (pos x) (negsuc y) (suc m) = refl
quotient-times (negsuc x) (pos y) zero = rw (zero-mul y)
quotient-times (negsuc x) (pos y) (suc m) = refl
quotient-times (negsuc x) (negsuc y) m = refl

-- how far two natural numbers lie apart
abbrev pub distance : ℕ → ℕ → ℕ
distance a b = (a - b) + (b - a)

less-apart : (a b : ℕ) → nat_abs (sub_ℕ a b) ≡ distance a b
less-apart a b = pick (ltb a b) refl
  where
    pick : (t : Bool) → ltb a b ≡ t → nat_abs (cond t (negsuc (b - suc a)) (pos (a - b))) ≡ distance a b
    pick true e = omega (arith, ltb-true a b e)
    pick false e = omega (arith, ltb-false a b e)

magnitude-opposite : (x : ℤ) → nat_abs (neg_ℤ x) ≡ nat_abs x
magnitude-opposite (pos zero) = refl
magnitude-opposite (pos (suc n)) = refl
magnitude-opposite (negsuc n) = refl

-- the magnitude of a difference, where the signs are alike and where they are not
positive-apart : (a b : ℕ) → nat_abs (pos a -ℤ pos b) ≡ distance a b
positive-apart a zero = omega arith
positive-apart a (suc b) = less-apart a (suc b)

pub alike-apart : (s : Bool) (a b : ℕ) → nat_abs (signed s a -ℤ signed s b) ≡ distance a b
alike-apart false a b = positive-apart a b
alike-apart true a b =
    ap nat_abs (sym (neg_ℤ-+ℤ (pos a) (neg_ℤ (pos b)))) ∙ magnitude-opposite (pos a -ℤ pos b) ∙ positive-apart a b

pub unlike-apart : (s : Bool) (a b : ℕ) → nat_abs (signed s a -ℤ signed (not s) b) ≡ a + b
unlike-apart false a zero = refl
unlike-apart false a (suc b) = refl
unlike-apart true a b = ap nat_abs (sym (neg_ℤ-+ℤ (pos a) (pos b))) ∙ magnitude-opposite (pos a +ℤ pos b)

-- a quotient by a number that is not 0
pub magnitude-positive : (y : ℤ) → (y ≡ pos 0 → ⊥) → zero < nat_abs y
magnitude-positive (pos zero) z = absurd (z refl)
magnitude-positive (pos (suc n)) z = omega arith
magnitude-positive (negsuc n) z = omega arith

pub divided-is : (rounded : ℕ → ℕ → ℕ) (x y : ℤ) → (y ≡ pos 0 → ⊥)
    → ranged (quotient_of rounded x y) ≡ divided rounded x y
divided-is rounded x (pos zero) z = absurd (z refl)
divided-is rounded x (pos (suc n)) z = rw (eqb-suc-zero n)
divided-is rounded x (negsuc n) z = rw (eqb-suc-zero n)
