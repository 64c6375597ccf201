-- What the lowest number that passes a test is, and that there is none.
use Prim.Native.Nat.{ℕ, zero, suc, ◌+◌, ◌≤◌, ◌<◌}
use native.Mathlib.Omega.{arith}
use native.Mathlib.Decide.{dec_lt}
use mathlib.Core.Path.{◌≡◌, refl, ap, ◌∙◌}
use mathlib.Core.Bool.{Bool, true, false}
use Rattle.std.specs.Prelude.{None, Some}
use Rattle.rules.specs.Types.{Search}
use Rattle.rules.specs.Checker.{lowest}

-- one step
pub lowest-here : (p : ℕ → Bool) (j k : ℕ) → p j ≡ true → lowest p j (suc k) ≡ Some j
unfolding lowest
lowest-here p j k e = rw (e, lowest)

pub lowest-next : (p : ℕ → Bool) (j k : ℕ) → p j ≡ false → lowest p j (suc k) ≡ lowest p (suc j) k
unfolding lowest
lowest-next p j k e = rw (e, lowest)

pub lowest-nothing : (p : ℕ → Bool) (j k : ℕ) → ((i : ℕ) → j ≤ i → i < j + k → p i ≡ false)
    → lowest p j k ≡ None
unfolding lowest
lowest-nothing p j zero h = refl
lowest-nothing p j (suc k) h =
    lowest-next p j k (h j (omega arith) (omega arith))
    ∙ lowest-nothing p (suc j) k (λ i a b. h i (omega arith) (omega arith))

pub lowest-at : (p : ℕ → Bool) (j k n : ℕ) → j ≤ n → n < j + k → p n ≡ true → ((i : ℕ) → j ≤ i → i < n → p i ≡ false)
    → lowest p j k ≡ Some n
lowest-at p j zero n a b e h = absurd (omega arith)
lowest-at p j (suc k) n a b e h = go (dec_lt j n) (lowest-at p (suc j) k n)
  where
    go : Dec (j < n) → (suc j ≤ n → n < suc j + k → p n ≡ true → ((i : ℕ) → suc j ≤ i → i < n → p i ≡ false)
        → lowest p (suc j) k ≡ Some n) → lowest p j (suc k) ≡ Some n
    go (no q) f =
        let same : j ≡ n = omega arith in
        lowest-here p j k (ap p same ∙ e) ∙ ap Some same
    go (yes q) f =
        lowest-next p j k (h j (omega arith) q) ∙ f (omega arith) (omega arith) e (λ i c d. h i (omega arith) d)

-- and back: the test passes nowhere from j up to, not including, n; or first at n
abbrev pub NonePass : (ℕ → Bool) → ℕ → ℕ → Type 0
NonePass p j n = (i : ℕ) → j ≤ i → i < n → p i ≡ false

pub record Lowest (p : ℕ → Bool) (j k n : ℕ) : Type 0 where
  pub from : j ≤ n
  pub below : n < j + k
  pub passes : p n ≡ true
  pub none-lower : NonePass p j n

abbrev pub Found : (ℕ → Bool) → ℕ → ℕ → Search → Type 0
Found p j k None = NonePass p j (j + k)
Found p j k (Some n) = Lowest p j k n

pub lowest-found : (p : ℕ → Bool) (j k : ℕ) → Found p j k (lowest p j k)
unfolding lowest
lowest-found p j zero = λ i a b. absurd (omega arith)
lowest-found p j (suc k) = go (p j) refl (lowest p (suc j) k) (lowest-found p (suc j) k)
  where
    more : (n : ℕ) → p j ≡ false → NonePass p (suc j) n → (i : ℕ) → j ≤ i → i < n → Dec (j < i) → p i ≡ false
    more n e h i a b (no q) = ap p (omega arith) ∙ e
    more n e h i a b (yes q) = h i q b

    later : p j ≡ false → (s : Search) → Found p (suc j) k s → Found p j (suc k) s
    later e None h = λ i a b. more (j + suc k) e (λ i c d. h i c (omega arith)) i a b (dec_lt j i)
    later e (Some n) h = record {
      from = omega (arith, h.from);
      below = omega (arith, h.below);
      passes = h.passes;
      none-lower = λ i a b. more n e h.none-lower i a b (dec_lt j i);
    }

    go : (b : Bool) → p j ≡ b → (s : Search) → Found p (suc j) k s
        → Found p j (suc k) (elim b as (λ q. Search) [ true ↦ Some j | false ↦ s ])
    go true e s h = record {
      from = omega arith;
      below = omega arith;
      passes = e;
      none-lower = λ i a b. absurd (omega arith);
    }
    go false e s h = later e s h

-- the same without what is lower
abbrev pub Outcome : (ℕ → Bool) → ℕ → ℕ → Search → Type 0
Outcome p j k None = (i : ℕ) → j ≤ i → i < j + k → p i ≡ false
Outcome p j k (Some n) = (j ≤ n) × (n < j + k) × (p n ≡ true)

pub lowest-outcome : (p : ℕ → Bool) (j k : ℕ) → Outcome p j k (lowest p j k)
lowest-outcome p j k = of (lowest p j k) (lowest-found p j k)
  where
    of : (s : Search) → Found p j k s → Outcome p j k s
    of None h = h
    of (Some n) h = (h.from, h.below, h.passes)
