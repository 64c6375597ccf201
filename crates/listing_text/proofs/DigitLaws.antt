-- A number's digits: how many they are, and that they are those which the library writes.
use Prim.Native.Nat.{ℕ, zero, suc, ◌+◌, ◌/◌, ◌%◌, ◌^◌, ◌≤◌, ◌<◌}
use native.Mathlib.Omega.{arith}
use native.Mathlib.Decide.{dec_lt}
use native.Mathlib.Nat.{lt_of_lt_of_le}
use mathlib.Core.Path.{◌≡◌, refl, sym, ap, ◌∙◌}
use mathlib.Core.Bool.{true, false}
use mathlib.Core.List.{List, [], ◌∷◌, ◌++◌}
use lib.Dec.{lit≤}
use lib.IntN.{ℤ, pos, negsuc, nat_abs}
use lib.Signed.{lt_z}
use lib.ListN.{length, length-append}
use mir.Syntax.{w64}
use mir.Val.{Fits, SFits}
use borrow.Author.Tests.{ltb-true, lt-ltb, le-ltb}
use Rattle.std.specs.Fmt.{decimal, signed_decimal}
use Rattle.std.proofs.lemmas.Fmt.{decimal_from_appends, length-decimal-le}
use Rattle.rules.specs.Listing.{decimal_digits, natural, integer}

-- none, one digit, or more
digits-none : (n : ℕ) → decimal_digits 0 n ≡ []
unfolding decimal_digits
digits-none n = refl

digits-one : (k n : ℕ) → n < 10 → decimal_digits (suc k) n ≡ (48 + n) ∷ []
unfolding decimal_digits
digits-one k n h = rw (lt-ltb n 10 h, decimal_digits)

digits_more : (k n : ℕ) → 10 ≤ n → decimal_digits (suc k) n ≡ decimal_digits k (n / 10) ++ ((48 + n % 10) ∷ [])
unfolding decimal_digits
digits_more k n h = rw (le-ltb n 10 h, decimal_digits)

length-one : (k n : ℕ) → n < 10 → length (decimal_digits (suc k) n) ≡ 1
length-one k n h = ap length (digits-one k n h)

length_more : (k n : ℕ) → 10 ≤ n → length (decimal_digits (suc k) n) ≡ suc (length (decimal_digits k (n / 10)))
length_more k n h =
    ap length (digits_more k n h) ∙ length-append (decimal_digits k (n / 10)) ((48 + n % 10) ∷ []) ∙ omega arith

by_size : {P : Type 0} (n : ℕ) → (n < 10 → P) → (10 ≤ n → P) → P
by_size {P} n one more = go (dec_lt n 10)
  where
    go : Dec (n < 10) → P
    go (yes h) = one h
    go (no h) = more (omega arith)

-- at most as many digits as are asked for, and at most d + 1 of a number below 10 ^ (d + 1)
pub length_most : (k n : ℕ) → length (decimal_digits k n) ≤ k
length_most zero n = omega (arith, ap length (digits-none n))
length_most (suc k) n =
    let rest = length_most k (n / 10) in
    by_size n (λ h. omega (arith, length-one k n h)) (λ h. omega (arith, length_more k n h))

pub length-below : (k d n : ℕ) → n < 10 ^ suc d → length (decimal_digits k n) ≤ suc d
length-below zero d n h = omega (arith, ap length (digits-none n))
length-below (suc k) zero n h = omega (arith, length-one k n (omega arith))
length-below (suc k) (suc d) n h =
    let rest = length-below k d (n / 10) (omega arith) in
    by_size n (λ l. omega (arith, length-one k n l)) (λ l. omega (arith, length_more k n l))

-- the library writes the same
natural_decimal : (n : ℕ) → n < 2 ^ 64 → natural n ≡ decimal n
natural_decimal n h =
    decimal_from_appends decimal_digits (record { one = digits-one; more = digits_more }) 20 n h
    (length-decimal-le 20 n (omega arith) (lt_of_lt_of_le h (lit≤ tt)) h)

pub natural-printed : (n : ℕ) → Fits w64 n → {text : List ℕ} → text ≡ decimal n → natural n ≡ text
natural-printed n h e = natural_decimal n h.fits ∙ sym e

pub integer-printed : (z : ℤ) → SFits w64 z → {text : List ℕ} → text ≡ signed_decimal z → integer z ≡ text
integer-printed (pos n) h e = natural_decimal n (omega (arith, h.sfits)) ∙ sym e
integer-printed (negsuc n) h e = ap (λ (w : List ℕ). 45 ∷ w) (natural_decimal (suc n) (omega (arith, h.sfits))) ∙ sym e

-- a signed number is its magnitude, behind a sign where it is negative
pub integer-negative : (z : ℤ) (n : ℕ) → lt_z z (pos 0) ≡ true → n ≡ nat_abs z → integer z ≡ (45 ∷ []) ++ natural n
integer-negative (pos m) n t e = absurd (omega (arith, ltb-true m 0 t))
integer-negative (negsuc m) n t e = ap (λ (k : ℕ). 45 ∷ natural k) (sym e)

pub integer-other : (z : ℤ) (n : ℕ) → lt_z z (pos 0) ≡ false → n ≡ nat_abs z → integer z ≡ natural n
integer-other (pos m) n t e = ap natural (sym e)
integer-other (negsuc m) n t e = absurd (cc)
