-- Bits of a number.
use Prim.Native.Nat.{ℕ, zero, suc, ◌*◌, ◌/◌, ◌%◌, ◌^◌, ◌<◌}
use native.Mathlib.Omega.{arith}
use native.Mathlib.Decide.{ℕ_discrete}
use native.Mathlib.Nat.{div-div-eq-div-mul, pow-suc, pow-succ', mod-eq_of_lt, one-mul, div-one}
use mathlib.Core.Bool.{Bool, true, false, ◌&&◌, ◌||◌}
use mathlib.Core.Path.{◌≡◌, refl, sym, ap, ◌∙◌}
use borrow.Author.Tests.{eq-eqb, ne_eqb, eqb-true}
use lib.Bits.{bit_or, or_mod, or_shr}
use lib.Dec.{eqb, eqb-zero-suc, eqb-suc-zero, eqb-suc-suc}
use lib.Pow.{pow-lt}
use Rattle.checker.specs.Scopes.{bit}

pub bit_shifted : (x s : ℕ) → eqb (s / 2 ^ x % 2) 1 ≡ bit s x
unfolding bit
bit_shifted zero s = ap (λ (n : ℕ). eqb (n % 2) 1) (div-one s)
bit_shifted (suc x) s =
    ap (λ (n : ℕ). eqb (n % 2) 1) (ap (λ (p : ℕ). s / p) (pow-succ' 2 x) ∙ sym (div-div-eq-div-mul s 2 (2 ^ x)))
    ∙ bit_shifted x (s / 2)

bit-zero : (y : ℕ) → bit 0 y ≡ false
unfolding bit
bit-zero zero = refl
bit-zero (suc y) = bit-zero y

bit-power : (x y : ℕ) → bit (2 ^ x) y ≡ eqb x y
unfolding bit
bit-power zero zero = refl
bit-power zero (suc y) = bit-zero y ∙ sym (eqb-zero-suc y)
bit-power (suc x) zero =
    let even : 2 ^ suc x % 2 ≡ 0 = omega (arith, pow-suc 2 x) in
    ap (λ (n : ℕ). eqb n 1) even ∙ sym (eqb-suc-zero x)
bit-power (suc x) (suc y) =
    let half : 2 ^ suc x / 2 ≡ 2 ^ x = omega (arith, pow-suc 2 x) in
    ap (λ (n : ℕ). bit n y) half ∙ bit-power x y ∙ sym (eqb-suc-suc x y)

low_or : (a b : ℕ) → eqb (bit_or a b % 2) 1 ≡ (eqb (a % 2) 1 || eqb (b % 2) 1)
low_or a b = ap (λ (n : ℕ). eqb n 1) (or_mod a b 1) ∙ go (ℕ_discrete (a % 2) 1) (ℕ_discrete (b % 2) 1)
  where
    both : (m n : ℕ) → a % 2 ≡ m → b % 2 ≡ n → eqb (bit_or m n) 1 ≡ (eqb m 1 || eqb n 1)
        → eqb (bit_or (a % 2) (b % 2)) 1 ≡ (eqb (a % 2) 1 || eqb (b % 2) 1)
    both m n e f h = (λ i. eqb (bit_or (e i) (f i)) 1) ∙ h ∙ sym (λ i. eqb (e i) 1 || eqb (f i) 1)

    go : Dec (a % 2 ≡ 1) → Dec (b % 2 ≡ 1) → eqb (bit_or (a % 2) (b % 2)) 1 ≡ (eqb (a % 2) 1 || eqb (b % 2) 1)
    go (yes e) (yes f) = both 1 1 e f refl
    go (yes e) (no f) = both 1 0 e (omega arith) refl
    go (no e) (yes f) = both 0 1 (omega arith) f refl
    go (no e) (no f) = both 0 0 (omega arith) (omega arith) refl

bit-or : (y a b : ℕ) → bit (bit_or a b) y ≡ (bit a y || bit b y)
unfolding bit
bit-or zero a b = low_or a b
bit-or (suc y) a b = ap (λ (n : ℕ). bit n y) (or_shr a b 1) ∙ bit-or y (a / 2) (b / 2)

pub bit-with : (x s y : ℕ) → x < 64 → bit (bit_or ((1 * 2 ^ x) % 2 ^ 64) s) y ≡ (eqb x y || bit s y)
bit-with x s y h =
    let power : (1 * 2 ^ x) % 2 ^ 64 ≡ 2 ^ x = ap (λ (n : ℕ). n % 2 ^ 64) (one-mul (2 ^ x)) ∙ mod-eq_of_lt (pow-lt h) in
    bit-or y ((1 * 2 ^ x) % 2 ^ 64) s
    ∙ ap (λ (b : Bool). b || bit s y) (ap (λ (n : ℕ). bit n y) power ∙ bit-power x y)

-- ---- the scope below a record
pub below-let : (k v y : ℕ) (b : Bool) → k ≡ 47 → (eqb v y || b) ≡ ((eqb k 47 && eqb v y) || b)
below-let k v y b e = sym (ap (λ (p : Bool). (p && eqb v y) || b) (eq-eqb k 47 e))

pub below_other : (k v y : ℕ) (b : Bool) → (k ≡ 47 → ⊥) → b ≡ ((eqb k 47 && eqb v y) || b)
below_other k v y b e = sym (ap (λ (p : Bool). (p && eqb v y) || b) (ne_eqb k 47 e))

-- ---- bit 0 is set in an odd number
odd-of : (s : ℕ) → bit s 0 ≡ true → s % 2 ≡ 1
unfolding bit
odd-of s h = eqb-true (s % 2) 1 h

odd_set : (s y : ℕ) → s % 2 ≡ 1 → (eqb 0 y || bit s y) ≡ bit s y
unfolding bit
odd_set s zero h = sym (eq-eqb (s % 2) 1 h)
odd_set s (suc y) h = ap (λ (b : Bool). b || bit s (suc y)) (eqb-zero-suc y)

or-true : (p : Bool) → (p || true) ≡ true
or-true true = refl
or-true false = refl

-- r has the bits of s, and bit 0
module _ (s r : ℕ) (low : (y : ℕ) → bit r y ≡ (eqb 0 y || bit s y)) where
  pub low-odd : r % 2 ≡ 1
  low-odd = odd-of r (low 0)

  pub low_same : s % 2 ≡ 1 → (y : ℕ) → bit r y ≡ bit s y
  low_same h y = low y ∙ odd_set s y h

pub with-odd : (x s r : ℕ) → ((y : ℕ) → bit r y ≡ (eqb x y || bit s y)) → s % 2 ≡ 1 → r % 2 ≡ 1
unfolding bit
with-odd x s r high h = odd-of r (high 0 ∙ ap (λ (b : Bool). eqb x 0 || b) (eq-eqb (s % 2) 1 h) ∙ or-true (eqb x 0))
