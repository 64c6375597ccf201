-- A search that goes down from the last record: what was found so far is the lowest of the records passed.
use Prim.Native.Nat.{ℕ, suc, ◌-◌, ◌<◌, ◌≤◌}
use native.Mathlib.Omega.{arith}
use mathlib.Core.Bool.{Bool, true, false, cond}
use mathlib.Core.Path.{◌≡◌, refl, sym, ap, ◌∙◌}
use Rattle.rules.specs.Checker.{lowest}
use Rattle.rules.specs.Types.{Search}
use Rattle.std.specs.Prelude.{None, Some}

-- of records n + 1 .. m
abbrev pub Lowest : (ℕ → Bool) → ℕ → ℕ → Search → Type 0
Lowest p m n found = lowest p (suc n) (m - n) ≡ found

pub lowest_start : (p : ℕ → Bool) (m : ℕ) → Lowest p m m None
unfolding lowest
lowest_start p m = let none : m - m ≡ 0 = omega arith in ap (λ (k : ℕ). lowest p (suc m) k) none

lowest-first : (p : ℕ → Bool) (n k : ℕ) (found : Search) (b : Bool) → b ≡ p n → lowest p (suc n) k ≡ found
    → lowest p n (suc k) ≡ cond b (Some n) found
unfolding lowest
lowest-first p n k found b e i = go b e
  where
    go : (b : Bool) → b ≡ p n
        → elim (p n) as (λ q. Search) [ true ↦ Some n | false ↦ lowest p (suc n) k ] ≡ cond b (Some n) found
    go true e = rw (sym e) refl
    go false e = rw (sym e) i

pub lowest-down : (p : ℕ → Bool) (m n : ℕ) (found r : Search) (b : Bool) → 0 < n → n ≤ m → b ≡ p n
    → r ≡ cond b (Some n) found → Lowest p m n found → Lowest p m (n - 1) r
lowest-down p m n found r b z q e h i =
    let same : suc (n - 1) ≡ n = omega arith in
    let more : m - (n - 1) ≡ suc (m - n) = omega arith in
    (λ j. lowest p (same j) (more j)) ∙ lowest-first p n (m - n) found b e i ∙ sym h
