-- From the quotient toward zero to the nearest one.
use Prim.Native.Nat.{ℕ, zero, suc, ◌+◌, ◌*◌, ◌/◌, ◌%◌, ◌^◌, ◌≤◌, ◌<◌}
use native.Mathlib.Nat.{div-one, mod-one, mod-lt, div-lt_iff_lt-mul}
use native.Mathlib.Omega.{arith}
use mathlib.Core.Path.{◌≡◌, refl, sym, ap, ◌∙◌}
use mathlib.Core.Bool.{Bool, true, false, cond}
use borrow.Author.Tests.{eqb-true, eqb-false, ltb-true, lt-ltb, le-ltb}
use lib.Dec.{eqb, ltb}
use lib.IntN.{ℤ, pos, negsuc, neg_ℤ, nat_abs, ◌+ℤ◌, ◌-ℤ◌}
use lib.Signed.{rem_z, mag_rem, lt_z}
use mir.Syntax.{w64}
use mir.Val.{SFits}
use mir.ValLaws.{sfits_le}
use Rattle.std.specs.Prelude.{Ok, Err}
use Rattle.rules.specs.declared.{Stop.Stop}
use Rattle.rules.specs.Numbers.{in_range, ranged, is_negative, signed, signs_differ, quotient_of, divided}
use Rattle.rules.specs.Numbers.{toward_zero, rounds_up, to_nearest}
use Rattle.rules.proofs.Numbers.Signs.{magnitude-signed, divided-is}

-- ---- ranges
magnitude-limit : {z : ℤ} → SFits w64 z → nat_abs z ≤ 2 ^ 63
magnitude-limit {z = pos n} h = omega (arith, h.sfits)
magnitude-limit {z = negsuc n} h = omega (arith, h.sfits)

signed-fits : (s : Bool) (m : ℕ) → m < 2 ^ 63 → SFits w64 (signed s m)
signed-fits false m h = record { sfits = h }
signed-fits true zero h = record { sfits = h }
signed-fits true (suc m) h = record { sfits = omega arith }

ranged-is : {z : ℤ} → SFits w64 z → ranged z ≡ Ok z
ranged-is {z = pos n} h = rw (lt-ltb n (2 ^ 63) h.sfits) refl
ranged-is {z = negsuc n} h = rw (lt-ltb n (2 ^ 63) h.sfits) refl

-- ---- a quotient toward zero that is refused is refused to the nearest too
by-one : (a b : ℤ) → nat_abs b ≡ 1 → divided toward_zero a b ≡ divided to_nearest a b
by-one a b e = rw e (rw (div-one, mod-one) refl)

small : (m d : ℕ) → m ≤ 2 ^ 63 → 2 ≤ d → m / d < 2 ^ 63
small m d h k =
    let p : zero < d = omega arith in
    let l : m < 2 ^ 63 * d = omega arith in
    (div-lt_iff_lt-mul p).1 l

by-more : (a b : ℤ) → SFits w64 a → 2 ≤ nat_abs b
    → divided toward_zero a b ≡ Ok (signed (signs_differ a b) (nat_abs a / nat_abs b))
by-more a b f h =
    let z : b ≡ pos 0 → ⊥ = λ e. absurd (omega (arith, ap nat_abs e)) in
    sym (divided-is toward_zero a b z)
    ∙ ranged-is (signed-fits (signs_differ a b) _ (small (nat_abs a) (nat_abs b) (magnitude-limit f) h))

pub refused : (a b : ℤ) (s : Stop) → SFits w64 a → Err s ≡ divided toward_zero a b → Err s ≡ divided to_nearest a b
refused a b s f d = pick (nat_abs b) refl
  where
    pick : (n : ℕ) → nat_abs b ≡ n → Err s ≡ divided to_nearest a b
    pick zero e = rw e (rw e at d)
    pick (suc zero) e = d ∙ by-one a b e
    pick (suc (suc n)) e =
        let g = d ∙ by-more a b f (omega arith) in
        absurd (cc)

-- ---- a quotient that is given
pub record Divided (a b q : ℤ) : Type 0 where
  pub positive : zero < nat_abs b
  pub is : q ≡ signed (signs_differ a b) (nat_abs a / nat_abs b)

pub given : (a b q : ℤ) → Ok q ≡ divided toward_zero a b → Divided a b q
given a b q = pick (eqb (nat_abs b) 0) (in_range z) refl
  where
    z : ℤ
    z = quotient_of toward_zero a b

    pick : (none inside : Bool) → eqb (nat_abs b) 0 ≡ none
        → Ok q ≡ cond none (Err Stop.ZeroDivisor) (cond inside (Ok z) (Err Stop.Overflow)) → Divided a b q
    pick true inside e d = absurd (cc)
    pick false true e d = record { positive = omega (arith, eqb-false (nat_abs b) 0 e); is = cc }
    pick false false e d = absurd (cc)

remainder-magnitude : (a b : ℤ) → nat_abs (rem_z a b) ≡ nat_abs a % nat_abs b
remainder-magnitude (pos a) b = refl
remainder-magnitude (negsuc a) b = magnitude-signed true (suc a % nat_abs b)

pub remainder-fits : (a b : ℤ) → SFits w64 a → SFits w64 (rem_z a b)
remainder-fits a b f = sfits_le (mag_rem a b) f

pub negative-test : (z : ℤ) → lt_z z (pos 0) ≡ is_negative z
negative-test (pos n) = le-ltb n 0 (omega arith)
negative-test (negsuc n) = refl

-- where the quotient's magnitude is rounded up, the remainder is half of the divisor or more, and one more is in range
up-from-half : (q r d : ℕ) → rounds_up q r d ≡ true → d ≤ 2 * r
up-from-half q r d = pick (eqb (2 * r) d) refl
  where
    pick : (half : Bool) → eqb (2 * r) d ≡ half → cond half (eqb (q % 2) 1) (ltb d (2 * r)) ≡ true → d ≤ 2 * r
    pick true e u = omega (arith, eqb-true (2 * r) d e)
    pick false e u = omega (arith, ltb-true d (2 * r) u)

up-small : (m d : ℕ) → zero < d → m ≤ 2 ^ 63 → d ≤ 2 * (m % d) → m / d + 1 < 2 ^ 63
up-small m d p l h =
    let g : m < 9223372036854775807 * d = omega (arith, mod-lt m p) in
    let k : m / d < 9223372036854775807 = (div-lt_iff_lt-mul p).1 g in
    omega arith

less_one : (m : ℕ) → signed true m -ℤ pos 1 ≡ signed true (m + 1)
less_one zero = refl
less_one (suc m) = ap negsuc (omega arith) ∙ sym (ap (λ (k : ℕ). neg_ℤ (pos k)) (e m))
  where
    e : (m : ℕ) → suc m + 1 ≡ suc (suc m)
    e m = omega arith

module _ (a b q : ℤ) (f : SFits w64 a) (e : Ok q ≡ divided toward_zero a b) where
  toward : Divided a b q
  toward = given a b q e

  abbrev m : ℕ
  m = nat_abs a / nat_abs b

  abbrev up : Bool
  up = rounds_up (nat_abs q) (nat_abs (rem_z a b)) (nat_abs b)

  up-is : rounds_up m (nat_abs a % nat_abs b) (nat_abs b) ≡ up
  up-is i = rounds_up (sym q-magnitude i) (sym (remainder-magnitude a b) i) (nat_abs b)
    where
      q-magnitude : nat_abs q ≡ m
      q-magnitude = ap nat_abs toward.is ∙ magnitude-signed (signs_differ a b) m

  nonzero : b ≡ pos 0 → ⊥
  nonzero z = omega (arith, ap nat_abs z, toward.positive)

  nearest-is : {t : Bool} → up ≡ t → divided to_nearest a b ≡ ranged (signed (signs_differ a b) (cond t (m + 1) m))
  nearest-is t =
      sym (divided-is to_nearest a b nonzero)
      ∙ ap (λ (u : Bool). ranged (signed (signs_differ a b) (cond u (m + 1) m))) (up-is ∙ t)

  pub stays : up ≡ false → Ok q ≡ divided to_nearest a b
  stays t = e ∙ sym (divided-is toward_zero a b nonzero) ∙ sym (nearest-is t)

  -- the number next to the quotient, away from zero
  module _ (t : up ≡ true) where
    away-fits : SFits w64 (signed (signs_differ a b) (m + 1))
    away-fits =
        let half = up-from-half m (nat_abs a % nat_abs b) (nat_abs b) (up-is ∙ t) in
        signed-fits (signs_differ a b) _ (up-small (nat_abs a) (nat_abs b) toward.positive (magnitude-limit f) half)

    away : (z : ℤ) → z ≡ signed (signs_differ a b) (m + 1) → SFits w64 z × (Ok z ≡ divided to_nearest a b)
    away z g = (rw g away-fits, rw g (sym (nearest-is t ∙ ranged-is away-fits)))

    pub lowered : signs_differ a b ≡ true → SFits w64 (q -ℤ pos 1) × (Ok (q -ℤ pos 1) ≡ divided to_nearest a b)
    lowered s = away (q -ℤ pos 1) (rw toward.is (rw s (less_one m)))

    pub raised : signs_differ a b ≡ false → SFits w64 (q +ℤ pos 1) × (Ok (q +ℤ pos 1) ≡ divided to_nearest a b)
    raised s = away (q +ℤ pos 1) (rw toward.is (rw s refl))
