-- Tests of integers as `omega` reads them: an integer z is `up z - down z`, of which one is 0.
use Prim.Native.Nat.{ℕ, suc, ◌+◌, ◌≤◌, ◌<◌}
use native.Mathlib.Omega.{arith}
use mathlib.Core.Path.{◌≡◌, sym, ap, ◌∙◌, subst}
use mathlib.Core.Bool.{true, false}
use lib.Dec.{T}
use lib.IntN.{ℤ, pos, negsuc}
use lib.Signed.{lt_z}
use borrow.Author.Tests.{ltb-true, ltb-false}
use mir.Syntax.{w64}
use mir.Val.{SFits, of_z, to_z}
use mir.Facts.{to_z-of_z}

abbrev pub up : ℤ → ℕ
up (pos n) = n
up (negsuc n) = 0

abbrev pub down : ℤ → ℕ
down (pos n) = 0
down (negsuc n) = suc n

pub lt_z-true : (a b : ℤ) → lt_z a b ≡ true → up a + down b < up b + down a
lt_z-true (pos a) (pos b) e = omega (arith, ltb-true a b e)
lt_z-true (pos a) (negsuc b) e = absurd (subst T (sym e) tt)
lt_z-true (negsuc a) (pos b) e = omega arith
lt_z-true (negsuc a) (negsuc b) e = omega (arith, ltb-true b a e)

pub lt_z-false : (a b : ℤ) → lt_z a b ≡ false → up b + down a ≤ up a + down b
lt_z-false (pos a) (pos b) e = omega (arith, ltb-false a b e)
lt_z-false (pos a) (negsuc b) e = omega arith
lt_z-false (negsuc a) (pos b) e = absurd (subst T e tt)
lt_z-false (negsuc a) (negsuc b) e = omega (arith, ltb-false b a e)

-- a local's bits, tested against a number that is written out
pub of-bits : {z : ℤ} (n : ℕ) → SFits w64 z → of_z w64 z ≡ n → z ≡ to_z w64 n
of-bits n h e = sym (to_z-of_z h) ∙ ap (to_z w64) e
