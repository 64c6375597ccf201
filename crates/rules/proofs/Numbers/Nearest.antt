-- Operator 5 gives the nearest whole number, at an exact half the even one; no other number is that.
use Prim.Native.Nat.{ℕ, zero, suc, ◌+◌, ◌*◌, ◌/◌, ◌%◌, ◌≤◌, ◌<◌}
use native.Mathlib.Nat.{div-add-mod', mod-lt, mul-le-mul_right, add-mul, suc-mul, zero-mul}
use native.Mathlib.Omega.{arith}
use mathlib.Core.Path.{◌≡◌, refl, sym, ap, ◌∙◌}
use mathlib.Core.Bool.{Bool, true, false, not, beq, cond}
use mathlib.Core.Logic.{◌⊎◌, inl, inr, ⊎_elim}
use borrow.Author.Tests.{eqb-true, eqb-false, ltb-true, ltb-false}
use lib.Dec.{ltb, eqb}
use lib.IntN.{ℤ, pos, negsuc, nat_abs, ◌-ℤ◌, ◌*ℤ◌}
use Rattle.rules.specs.Types.{Value}
use Rattle.rules.specs.Nodes.{operator_of}
use Rattle.rules.specs.Numbers.{is_negative, signed, signs_differ, to_nearest, quotient_of, IsNearest, Liveness}
use Rattle.rules.specs.Numbers.{ranged, numbered, on_integers, operate}
use Rattle.rules.proofs.Numbers.Signs.{signed-itself, magnitude-signed, product-signed, quotient-times}
use Rattle.rules.proofs.Numbers.Signs.{distance, alike-apart, unlike-apart, divided-is, magnitude-positive}

-- the rule of magnitudes
record Near (x d n : ℕ) : Type 0 where
  within : 2 * distance x (n * d) ≤ d
  even : 2 * distance x (n * d) ≡ d → n % 2 ≡ 0

-- the quotient, or one more, as the remainder and the quotient ask
to_nearest-near : (x d : ℕ) → zero < d → Near x d (to_nearest x d)
to_nearest-near x d p = pick (eqb (2 * r) d) (eqb (q % 2) 1) (ltb d (2 * r)) refl refl refl
  where
    q : ℕ
    q = x / d

    r : ℕ
    r = x % d

    pick : (half odd over : Bool) → eqb (2 * r) d ≡ half → eqb (q % 2) 1 ≡ odd → ltb d (2 * r) ≡ over
        → Near x d (cond (cond half odd over) (q + 1) q)
    pick true true over h o l =
        let e = eqb-true (2 * r) d h in
        let c = eqb-true (q % 2) 1 o in
        record {
          within = omega (arith, e, div-add-mod' x d, add-mul q 1 d);
          even = λ _. omega (arith, c);
        }
    pick true false over h o l =
        let e = eqb-true (2 * r) d h in
        let c = eqb-false (q % 2) 1 o in
        record {
          within = omega (arith, e, div-add-mod' x d);
          even = λ _. omega (arith, c);
        }
    pick false odd true h o l =
        let g = ltb-true d (2 * r) l in
        let m = mod-lt x p in
        record {
          within = omega (arith, g, m, div-add-mod' x d, add-mul q 1 d);
          even = λ e. absurd (omega (arith, e, g, m, div-add-mod' x d, add-mul q 1 d));
        }
    pick false odd false h o l =
        let g = ltb-false d (2 * r) l in
        let n = eqb-false (2 * r) d h in
        record {
          within = omega (arith, g, div-add-mod' x d);
          even = λ e. absurd (omega (arith, e, n, g, div-add-mod' x d));
        }

-- Of two different ones, one lies at least a whole divisor below the other, so that both lie at a half and are even:
-- then they lie two divisors apart.
near-not-less : (x d m n : ℕ) → zero < d → Near x d m → Near x d n → m < n → ⊥
near-not-less x d m n p a b l =
    let one : m * d + d ≤ n * d = omega (arith, mul-le-mul_right d l, suc-mul m d) in
    let at-m = a.even (omega (arith, p, a.within, b.within, one)) in
    let at_n = b.even (omega (arith, p, a.within, b.within, one)) in
    let further : m + 2 ≤ n = omega (arith, l, at-m, at_n) in
    omega (arith, p, a.within, b.within, mul-le-mul_right d further, add-mul m 2 d)

near-alone : (x d m n : ℕ) → zero < d → Near x d m → Near x d n → m ≡ n
near-alone x d m n p a b =
    let up : m < n → ⊥ = near-not-less x d m n p a b in
    let down : n < m → ⊥ = near-not-less x d n m p b a in
    omega (arith, up, down)

differ-twice : (a b : Bool) → not (beq (not (beq a b)) b) ≡ a
differ-twice true true = refl
differ-twice true false = refl
differ-twice false true = refl
differ-twice false false = refl

alike-or-not : (a b : Bool) → (a ≡ b) ⊎ (not a ≡ b)
alike-or-not true true = inl refl
alike-or-not true false = inr refl
alike-or-not false true = inr refl
alike-or-not false false = inl refl

-- a product that is less than half of one factor
small_product : (n d : ℕ) → zero < d → 2 * (n * d) ≤ d → n ≡ 0
small_product zero d p h = refl
small_product (suc n) d p h = absurd (omega (arith, p, h, suc-mul n d))

magnitude-zero : (q : ℤ) → nat_abs q ≡ 0 → q ≡ pos 0
magnitude-zero (pos n) e = ap pos e
magnitude-zero (negsuc n) e = absurd (omega (arith, e))

signed-zero : (s : Bool) → signed s 0 ≡ pos 0
signed-zero true = refl
signed-zero false = refl

-- What is nearest has the sign of x by y and a magnitude that is nearest, whichever sign its product with y has: where
-- that is not the sign of x, it is 0.
abbrev Quotient : ℤ → ℤ → ℤ → Type 0
Quotient x y q = (signed (signs_differ x y) (nat_abs q) ≡ q) × Near (nat_abs x) (nat_abs y) (nat_abs q)

module _ (x y q : ℤ) (p : zero < nat_abs y) (h : IsNearest x y q) where
  apart : nat_abs (x -ℤ q *ℤ y)
      ≡ nat_abs (signed (is_negative x) (nat_abs x) -ℤ signed (signs_differ q y) (nat_abs q * nat_abs y))
  apart i = nat_abs (sym (signed-itself x) i -ℤ product-signed q y i)

  alike-quotient : is_negative x ≡ signs_differ q y → Quotient x y q
  alike-quotient e =
      let far : nat_abs (x -ℤ q *ℤ y) ≡ distance (nat_abs x) (nat_abs q * nat_abs y) =
      apart ∙ rw (sym e) (alike-apart (is_negative x) (nat_abs x) (nat_abs q * nat_abs y)) in
      let s : signs_differ x y ≡ is_negative q = rw e (differ-twice (is_negative q) (is_negative y)) in (
        ap (λ (t : Bool). signed t (nat_abs q)) s ∙ signed-itself q,
        record { within = rw (← far) h.within; even = λ d. h.even (ap (λ (n : ℕ). 2 * n) far ∙ d) },
      )

  unlike-quotient : not (is_negative x) ≡ signs_differ q y → Quotient x y q
  unlike-quotient e =
      let far : nat_abs (x -ℤ q *ℤ y) ≡ nat_abs x + nat_abs q * nat_abs y =
      apart ∙ rw (sym e) (unlike-apart (is_negative x) (nat_abs x) (nat_abs q * nat_abs y)) in
      let none : nat_abs q ≡ 0 = small_product (nat_abs q) (nat_abs y) p (omega (arith, far, h.within)) in
      let z : q ≡ pos 0 = magnitude-zero q none in
      rw z (
        signed-zero (signs_differ x y),
        record { within = omega (arith, zero-mul (nat_abs y), far, h.within); even = λ _. refl },
      )

nearest-quotient : (x y q : ℤ) → zero < nat_abs y → IsNearest x y q → Quotient x y q
nearest-quotient x y q p h =
    ⊎_elim (alike-quotient x y q p h) (unlike-quotient x y q p h) (alike-or-not (is_negative x) (signs_differ q y))

-- no two numbers are nearest
pub nearest-alone : (x y q r : ℤ) → zero < nat_abs y → IsNearest x y q → IsNearest x y r → q ≡ r
nearest-alone x y q r p a b =
    let j = nearest-quotient x y q p a in
    let k = nearest-quotient x y r p b in
    let m = near-alone (nat_abs x) (nat_abs y) (nat_abs q) (nat_abs r) p j.1 k.1 in
    sym j.0 ∙ ap (signed (signs_differ x y)) m ∙ k.0

-- the one that operator 5 gives is
pub nearest-given : (x y : ℤ) → zero < nat_abs y → IsNearest x y (quotient_of to_nearest x y)
nearest-given x y p =
    let m = to_nearest (nat_abs x) (nat_abs y) in
    let near = to_nearest-near (nat_abs x) (nat_abs y) p in
    let far : nat_abs (x -ℤ quotient_of to_nearest x y *ℤ y) ≡ distance (nat_abs x) (m * nat_abs y) =
    (λ i. nat_abs (sym (signed-itself x) i -ℤ quotient-times x y m i))
    ∙ alike-apart (is_negative x) (nat_abs x) (m * nat_abs y) in
    record {
      within = rw far near.within;
      even = λ e. rw (magnitude-signed (signs_differ x y) m) (near.even (ap (λ (n : ℕ). 2 * n) (sym far) ∙ e));
    }

-- For every x and every y other than 0, operator 5 gives a q with 2·|x − q·y| ≤ |y|, even where that is an equality, and
-- no other number is so. That q ends 43 where it leaves 64 bits.
pub operator-5-gives-the-nearest : (live : Liveness) (x y : ℤ) → (y ≡ pos 0 → ⊥)
    → let q = quotient_of to_nearest x y in
    (operate live (operator_of 5) (Value.Integer x) (Value.Integer y) ≡ numbered (ranged q))
    × IsNearest x y q
    × ((r : ℤ) → IsNearest x y r → r ≡ q)
unfolding on_integers operate
operator-5-gives-the-nearest live x y z =
    let p = magnitude-positive y z in
    let given = nearest-given x y p in
    (ap numbered (sym (divided-is to_nearest x y z)), given, λ r h. nearest-alone x y r (quotient_of to_nearest x y) p h given)
