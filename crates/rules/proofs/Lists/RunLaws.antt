-- Laws of `all_free`, `lowest` and `lowest_run`, and of the loops that look for the lowest run.
use Prim.Native.Nat.{ℕ, zero, suc, ◌+◌, ◌-◌, ◌<◌, ◌≤◌}
use native.Mathlib.Omega.{arith}
use native.Mathlib.Nat.{eq-or-lt_of_le}
use native.Mathlib.Decide.{dec_lt}
use mathlib.Core.Path.{◌≡◌, refl, sym, ap, ap₂, ◌∙◌}
use mathlib.Core.Logic.{⊎_elim, ◌≢◌, ◌⊎◌, inl, inr}
use mathlib.Core.Bool.{Bool, true, false, cond}
use lib.Dec.{eqb, ltb}
use borrow.Author.Tests.{eqb-true, ltb-true, ltb-false}
use Rattle.std.specs.Prelude.{None, Some}
use Rattle.rules.specs.Types.{Search}
use Rattle.rules.specs.Sizes.{cell_count}
use Rattle.rules.specs.Checker.{lowest}
use Rattle.rules.specs.Memory.{all_free, lowest_run}

lt-or-le : (a b : ℕ) → (a < b) ⊎ (b ≤ a)
lt-or-le a b = pick (dec_lt a b)
  where
    pick : Dec (a < b) → (a < b) ⊎ (b ≤ a)
    pick (yes h) = inl h
    pick (no f) = inr (omega arith)

-- ---- runs
step-free : (b : Bool) (r : Bool) → b ≡ true → elim b [ true ↦ r | false ↦ false ] ≡ r
step-free true r e = refl
step-free false r e = let z : ◌≡◌ {A = ℕ} 0 1 = cc in absurd (omega arith)

step-held : (b : Bool) (r : Bool) → b ≡ false → elim b [ true ↦ r | false ↦ false ] ≡ false
step-held true r e = let z : ◌≡◌ {A = ℕ} 0 1 = cc in absurd (omega arith)
step-held false r e = refl

step-later : (b : Bool) (r : Bool) → r ≡ false → elim b [ true ↦ r | false ↦ false ] ≡ false
step-later true r e = e
step-later false r e = refl

module _ (p : ℕ → Bool) where
  pub all-free : (n s : ℕ) → ((j : ℕ) → s ≤ j → j < s + n → p j ≡ true) → all_free p s n ≡ true
  unfolding all_free
  all-free zero s f = refl
  all-free (suc n) s f =
      step-free (p s) (all_free p (suc s) n) (f s (omega arith) (omega arith))
      ∙ all-free n (suc s) (λ j a b. f j (omega arith) (omega arith))

  pub blocked : (n s j : ℕ) → s ≤ j → j < s + n → p j ≡ false → all_free p s n ≡ false
  unfolding all_free
  blocked zero s j a b e = absurd (omega arith)
  blocked (suc n) s j a b e =
      ⊎_elim (λ q. step-held (p s) (all_free p (suc s) n) (ap p q ∙ e))
      (λ l. step-later (p s) (all_free p (suc s) n) (blocked n (suc s) j l (reach n s j b) e)) (eq-or-lt_of_le a)
    where
      reach : (n s j : ℕ) → j < s + suc n → j < suc s + n
      reach n s j b = omega arith

-- ---- the lowest
step-found : (b : Bool) (s r : Search) → b ≡ true → elim b [ true ↦ s | false ↦ r ] ≡ s
step-found true s r e = refl
step-found false s r e = let z : ◌≡◌ {A = ℕ} 0 1 = cc in absurd (omega arith)

step-on : (b : Bool) (s r : Search) → b ≡ false → elim b [ true ↦ s | false ↦ r ] ≡ r
step-on true s r e = let z : ◌≡◌ {A = ℕ} 0 1 = cc in absurd (omega arith)
step-on false s r e = refl

module _ (q : ℕ → Bool) where
  pub lowest-at : (k j m : ℕ) → ((i : ℕ) → j ≤ i → i < m → q i ≡ false) → q m ≡ true → j ≤ m → m < j + k
      → lowest q j k ≡ Some m
  unfolding lowest
  lowest-at zero j m f t a b = absurd (omega arith)
  lowest-at (suc k) j m f t a b =
      ⊎_elim (λ e. step-found (q j) (Some j) (lowest q (suc j) k) (ap q e ∙ t) ∙ ap Some e)
      (λ l. step-on (q j) (Some j) (lowest q (suc j) k) (f j (same j) l)
      ∙ lowest-at k (suc j) m (λ i x y. f i (less j i x) y) t l (reach k j m b)) (eq-or-lt_of_le a)
    where
      same : (j : ℕ) → j ≤ j
      same j = omega arith

      less : (j i : ℕ) → suc j ≤ i → j ≤ i
      less j i x = omega arith

      reach : (k j m : ℕ) → m < j + suc k → m < suc j + k
      reach k j m b = omega arith

  pub lowest-none : (k j : ℕ) → ((i : ℕ) → j ≤ i → i < j + k → q i ≡ false) → lowest q j k ≡ None
  unfolding lowest
  lowest-none zero j f = refl
  lowest-none (suc k) j f =
      step-on (q j) (Some j) (lowest q (suc j) k) (f j (omega arith) (omega arith))
      ∙ lowest-none k (suc j) (λ i x y. f i (omega arith) (omega arith))

-- two tests that agree on the cells find the same run
module _ (p q : ℕ → Bool) where
  all-free-same : (n s : ℕ) → ((j : ℕ) → j < s + n → p j ≡ q j) → all_free p s n ≡ all_free q s n
  unfolding all_free
  all-free-same zero s f = refl
  all-free-same (suc n) s f =
      let here : p s ≡ q s = f s (omega arith) in
      let rest : all_free p (suc s) n ≡ all_free q (suc s) n = all-free-same n (suc s) (λ j b. f j (omega arith)) in
      ap₂ (λ (b r : Bool). elim b [ true ↦ r | false ↦ false ]) here rest

  lowest-same : (k j : ℕ) → ((i : ℕ) → i < j + k → p i ≡ q i) → lowest p j k ≡ lowest q j k
  unfolding lowest
  lowest-same zero j f = refl
  lowest-same (suc k) j f =
      let here : p j ≡ q j = f j (omega arith) in
      let rest : lowest p (suc j) k ≡ lowest q (suc j) k = lowest-same k (suc j) (λ i b. f i (omega arith)) in
      ap₂ (λ (b : Bool) (r : Search). elim b [ true ↦ Some j | false ↦ r ]) here rest

pub run-same : (p q : ℕ → Bool) (n : ℕ) → ((j : ℕ) → j < cell_count → p j ≡ q j) → lowest_run p n ≡ lowest_run q n
unfolding lowest_run
run-same p q n f =
    lowest-same (λ s. all_free p s n) (λ s. all_free q s n) (suc cell_count - n) 0
    (λ s b. all-free-same p q n s (λ j c. f j (low s j b c)))
  where
    low : (s j : ℕ) → s < 0 + (suc cell_count - n) → j < s + n → j < cell_count
    low s j b c = omega arith

-- the bound of what is found
step-bound : (b : Bool) (j m : ℕ) (r : Search) → elim b [ true ↦ Some j | false ↦ r ] ≡ Some m
    → (j ≡ m) ⊎ (r ≡ Some m)
step-bound true j m r e = inl (cc)
step-bound false j m r e = inr e

lowest-bound : (q : ℕ → Bool) (k j m : ℕ) → lowest q j k ≡ Some m → m < j + k
unfolding lowest
lowest-bound q zero j m e = let z : ◌≡◌ {A = ℕ} 0 1 = cc in absurd (omega arith)
lowest-bound q (suc k) j m e =
    ⊎_elim (λ s. here k j m s) (λ r. there k j m (lowest-bound q k (suc j) m r))
    (step-bound (q j) j m (lowest q (suc j) k) e)
  where
    here : (k j m : ℕ) → j ≡ m → m < j + suc k
    here k j m s = omega arith

    there : (k j m : ℕ) → m < suc j + k → m < j + suc k
    there k j m h = omega arith

pub run-bound : (p : ℕ → Bool) (n first : ℕ) → lowest_run p n ≡ Some first → first + n ≤ cell_count
unfolding lowest_run
run-bound p n first e = omega (arith, lowest-bound (λ s. all_free p s n) (suc cell_count - n) 0 first e)

-- ---- where a search starts
-- no place below i passes
abbrev pub NoneBelow : (ℕ → Bool) → ℕ → Type 0
NoneBelow p i = (j : ℕ) → j < i → p j ≡ false

-- the place that a search starts at, once n places from first on are taken, and once they are given back
abbrev pub lowest_taken : ℕ → ℕ → ℕ → ℕ
lowest_taken first n lowest = cond (eqb first lowest) (first + n) lowest

abbrev pub lowest_given : ℕ → ℕ → ℕ
lowest_given first lowest = cond (ltb first lowest) first lowest

-- no place passes below it then either, p being the test before and q the one after
module _ (p q : ℕ → Bool) (first lowest : ℕ) (low : NoneBelow p lowest) where
  pub none-taken : (n : ℕ) → ((j : ℕ) → first ≤ j → j < first + n → q j ≡ false)
      → ((j : ℕ) → j < first → q j ≡ p j) → ((j : ℕ) → first + n ≤ j → j < lowest → q j ≡ p j)
      → NoneBelow q (lowest_taken first n lowest)
  none-taken n inside below above j b = go (eqb first lowest) refl b (lt-or-le j first) (lt-or-le j (first + n))
    where
      go : (t : Bool) → eqb first lowest ≡ t → j < cond t (first + n) lowest → (j < first) ⊎ (first ≤ j)
          → (j < first + n) ⊎ (first + n ≤ j) → q j ≡ false
      go t e b (inr x) (inl y) = inside j x y
      go true e b (inl x) y = below j x ∙ low j (omega (arith, eqb-true first lowest e))
      go false e b (inl x) y = below j x ∙ low j b
      go true e b (inr x) (inr y) = absurd (omega arith)
      go false e b (inr x) (inr y) = above j y b ∙ low j b

  pub none-given : ((j : ℕ) → j < first → q j ≡ p j) → NoneBelow q (lowest_given first lowest)
  none-given below j b = go (ltb first lowest) refl b
    where
      go : (t : Bool) → ltb first lowest ≡ t → j < cond t first lowest → q j ≡ false
      go true e b = below j b ∙ low j (omega (arith, ltb-true first lowest e))
      go false e b = below j (omega (arith, ltb-false first lowest e)) ∙ low j b

-- and it is no place past the last
pub taken-within : (first n lowest : ℕ) → first + n ≤ cell_count → lowest ≤ cell_count
    → lowest_taken first n lowest ≤ cell_count
taken-within first n lowest h k = go (eqb first lowest)
  where
    go : (t : Bool) → cond t (first + n) lowest ≤ cell_count
    go true = h
    go false = k

pub given-within : (first lowest : ℕ) → lowest ≤ cell_count → lowest_given first lowest ≤ cell_count
given-within first lowest k = go (ltb first lowest) refl
  where
    go : (t : Bool) → ltb first lowest ≡ t → cond t first lowest ≤ cell_count
    go true e = omega (arith, ltb-true first lowest e)
    go false e = k

-- none of the places from i on passes, up to a later one
pub record Held (p : ℕ → Bool) (i e : ℕ) : Type 0 where
  pub further : i < e
  pub within : e ≤ cell_count
  pub held : (j : ℕ) → i ≤ j → j < e → p j ≡ false

-- ---- the search in two loops: one passes the free places of a run, the other starts it anew behind a held one
-- the places from i on pass up to j, which is no place past e
pub record Passed (p : ℕ → Bool) (i e j : ℕ) : Type 0 where
  pub further : i ≤ j
  pub within : j ≤ e
  pub passed : (k : ℕ) → i ≤ k → k < j → p k ≡ true

-- and j is e, or does not pass: the first place from i on, below e, that does not pass, else e
pub record FreeTo (p : ℕ → Bool) (i e j : ℕ) : Type 0 where
  pub free : Passed p i e j
  pub stopped : j ≢ e → p j ≡ false

module _ (p : ℕ → Bool) (i e : ℕ) where
  -- nothing is passed at the start
  pub pass-none : i ≤ e → Passed p i e i
  pass-none h = record {
    further = omega arith;
    within = h;
    passed = λ k a b. absurd (no k a b);
  }
    where
      no : (k : ℕ) → i ≤ k → k < i → ⊥
      no k a b = omega arith

  module _ (j : ℕ) (s : Passed p i e j) where
    -- one place more passes
    pub pass-more : j < e → p j ≡ true → Passed p i e (j + 1)
    pass-more h t = record {
      further = omega (arith, s.further);
      within = omega arith;
      passed = λ k a b. ⊎_elim (λ q. ap p q ∙ t) (λ l. s.passed k a l) (last_of k b);
    }
      where
        last_of : (k : ℕ) → k < j + 1 → (k ≡ j) ⊎ (k < j)
        last_of k b = let m : k ≤ j = omega arith in eq-or-lt_of_le m

    -- the places pass up to one that does not
    pub free-to-held : p j ≡ false → FreeTo p i e j
    free-to-held f = record { free = s; stopped = λ d. f }

    -- the places pass up to the last
    pub free-to-end : e ≤ j → FreeTo p i e j
    free-to-end h = record { free = s; stopped = λ d. absurd (d (omega (arith, s.within))) }

-- no run of n places that pass starts below i
abbrev pub NoRunBelow : (ℕ → Bool) → ℕ → ℕ → Type 0
NoRunBelow p n i = (j : ℕ) → j < i → all_free p j n ≡ false

module _ (p : ℕ → Bool) (n i : ℕ) where
  -- no run starts below a place below which none passes
  pub run-start : 0 < n → NoneBelow p i → NoRunBelow p n i
  run-start h low j b = blocked p n j j (omega arith) (omega arith) (low j b)

  module _ (s : NoRunBelow p n i) where
    -- a held place among the n from i on: no run starts below the end of what holds it
    pub run-over : (j : ℕ) {e : ℕ} → i ≤ j → j < i + n → Held p j e → NoRunBelow p n e
    run-over j {e} a b o k c = go (lt-or-le k i) (lt-or-le k j)
      where
        go : (k < i) ⊎ (i ≤ k) → (k < j) ⊎ (j ≤ k) → all_free p k n ≡ false
        go (inl l) d = s k l
        go (inr l) (inl d) = blocked p n k j (omega arith) (omega arith) (o.held j (omega arith) o.further)
        go (inr l) (inr d) = blocked p n k k (omega arith) (omega arith) (o.held k d c)

    -- all n places from i on pass: the lowest run starts at i
    pub run-found : {j : ℕ} → i + n ≤ cell_count → FreeTo p i (i + n) j → j ≡ i + n → Some i ≡ lowest_run p n
    unfolding lowest_run
    run-found h f e =
        sym (lowest-at (λ (j : ℕ). all_free p j n) (suc cell_count - n) 0 i (λ k a b. s k b)
        (all-free p n i (λ k a b. f.free.passed k a (omega arith))) (omega arith) (omega arith))

    -- fewer than n places from i on: there is no run
    pub run_none : cell_count < i + n → None ≡ lowest_run p n
    unfolding lowest_run
    run_none h =
        sym (lowest-none (λ (j : ℕ). all_free p j n) (suc cell_count - n) 0 (λ k a b. s k (under k b)))
      where
        under : (k : ℕ) → k < 0 + (suc cell_count - n) → k < i
        under k b = omega arith
