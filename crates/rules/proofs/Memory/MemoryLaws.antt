-- Facts about lists by place and by name, runs of places and coverage.
use Prim.Native.Nat.{ℕ, zero, suc, ◌+◌, ◌≤◌, ◌<◌}
use native.Mathlib.Omega.{arith}
use native.Mathlib.Decide.{ℕ_discrete}
use mathlib.Core.Path.{◌≡◌, refl, sym, ap, ◌∙◌}
use mathlib.Core.Logic.{◌≢◌, ◌⊎◌, inl, inr}
use mathlib.Core.Bool.{Bool, true, false, ◌&&◌, true≢false}
use mathlib.Core.List.{List, [], ◌∷◌, map}
use lib.Dec.{leb, ltb}
use lib.ListN.{length, get_or, set, get_or-map}
use lib.Seq.{get_or-set_same, get_or-set_other}
use borrow.Author.Tests.{leb-true, leb-false, ltb-true, ltb-false}
use Rattle.rules.specs.Types.{Recorded}
use Rattle.rules.specs.Memory.{named, fill, all_free, one, set_named}
use Rattle.rules.specs.Observation.{covers, covered}

module _ {A B : Type 0} (g : A → B) where
  pub map-set : (l : List A) (i : ℕ) (x : A) → map g (set l i x) ≡ set (map g l) i (g x)
  map-set [] i x = refl
  map-set (y ∷ l) zero x = refl
  map-set (y ∷ l) (suc i) x = ap (λ r. g y ∷ r) (map-set l i x)

  pub map-set_named : (l : List A) (k : ℕ) (x : A) → map g (set_named l k x) ≡ set_named (map g l) k (g x)
  map-set_named l zero x = refl
  map-set_named l (suc k) x = map-set l k x

  pub map-fill : (l : List A) (s n : ℕ) (x : A) → map g (fill l s n x) ≡ fill (map g l) s n (g x)
  map-fill [] s n x = refl
  map-fill (y ∷ l) zero zero x = refl
  map-fill (y ∷ l) zero (suc n) x = ap (λ r. g x ∷ r) (map-fill l zero n x)
  map-fill (y ∷ l) (suc s) n x = ap (λ r. g y ∷ r) (map-fill l s n x)

  pub named-map : (l : List A) (k : ℕ) (d : A) → named (map g l) k (g d) ≡ g (named l k d)
  named-map l zero d = refl
  named-map l (suc k) d = get_or-map g l k d

module _ {A : Type 0} where
  -- a name that names more than what stands for none is the name of a record
  pub named_in : (l : List A) (k : ℕ) (d : A) → named l k d ≢ d → (1 ≤ k) × (k ≤ length l)
  named_in l zero d h = absurd (h refl)
  named_in [] (suc k) d h = absurd (h refl)
  named_in (x ∷ l) (suc zero) d h = (omega arith, omega arith)
  named_in (x ∷ l) (suc (suc k)) d h = let r = named_in l (suc k) d h in (omega arith, omega arith)

  pub named-set_named-same : (l : List A) (k : ℕ) (x d : A) → 1 ≤ k → k ≤ length l → named (set_named l k x) k d ≡ x
  named-set_named-same l zero x d h le = absurd (omega arith)
  named-set_named-same l (suc k) x d h le = get_or-set_same l k x d (omega arith)

  pub named-set_named-other : (l : List A) (k j : ℕ) (x d : A) → j ≢ k → named (set_named l k x) j d ≡ named l j d
  named-set_named-other l zero j x d h = refl
  named-set_named-other l (suc k) zero x d h = refl
  named-set_named-other l (suc k) (suc j) x d h = get_or-set_other l k j x d (λ e. h (ap suc e))

  -- what a name names after another was set: that, or what it named
  pub named-set_named : (l : List A) (k j : ℕ) (x d : A)
      → (named (set_named l k x) j d ≡ x) ⊎ (named (set_named l k x) j d ≡ named l j d)
  named-set_named l zero j x d = inr refl
  named-set_named l (suc k) zero x d = inr refl
  named-set_named l (suc k) (suc j) x d = go l k j
    where
      go : (l : List A) (k j : ℕ) → (get_or (set l k x) j d ≡ x) ⊎ (get_or (set l k x) j d ≡ get_or l j d)
      go [] k j = inr refl
      go (y ∷ l) zero zero = inl refl
      go (y ∷ l) zero (suc j) = inr refl
      go (y ∷ l) (suc k) zero = inr refl
      go (y ∷ l) (suc k) (suc j) = go l k j

  pub fill-inside : (l : List A) (s n : ℕ) (x : A) (i : ℕ) (d : A) → i < length l → s ≤ i → i < s + n
      → get_or (fill l s n x) i d ≡ x
  fill-inside [] s n x i d h p q = absurd (omega arith)
  fill-inside (y ∷ l) zero zero x i d h p q = absurd (omega arith)
  fill-inside (y ∷ l) zero (suc n) x zero d h p q = refl
  fill-inside (y ∷ l) zero (suc n) x (suc i) d h p q =
      fill-inside l zero n x i d (omega arith) (omega arith) (omega arith)
  fill-inside (y ∷ l) (suc s) n x zero d h p q = absurd (omega arith)
  fill-inside (y ∷ l) (suc s) n x (suc i) d h p q = fill-inside l s n x i d (omega arith) (omega arith) (omega arith)

  pub fill-below : (l : List A) (s n : ℕ) (x : A) (i : ℕ) (d : A) → i < s → get_or (fill l s n x) i d ≡ get_or l i d
  fill-below [] s n x i d h = refl
  fill-below (y ∷ l) zero n x i d h = absurd (omega arith)
  fill-below (y ∷ l) (suc s) n x zero d h = refl
  fill-below (y ∷ l) (suc s) n x (suc i) d h = fill-below l s n x i d (omega arith)

  pub fill-above : (l : List A) (s n : ℕ) (x : A) (i : ℕ) (d : A) → s + n ≤ i → get_or (fill l s n x) i d ≡ get_or l i d
  fill-above [] s n x i d h = refl
  fill-above (y ∷ l) zero zero x i d h = refl
  fill-above (y ∷ l) zero (suc n) x zero d h = absurd (omega arith)
  fill-above (y ∷ l) zero (suc n) x (suc i) d h = fill-above l zero n x i d (omega arith)
  fill-above (y ∷ l) (suc s) n x zero d h = absurd (omega arith)
  fill-above (y ∷ l) (suc s) n x (suc i) d h = fill-above l s n x i d (omega arith)

pub all_free-at : (p : ℕ → Bool) (s n i : ℕ) → all_free p s n ≡ true → s ≤ i → i < s + n → p i ≡ true
unfolding all_free
all_free-at p s zero i e a b = absurd (omega arith)
all_free-at p s (suc n) i e a b = go (p s) refl e (ℕ_discrete i s) (λ h c d. all_free-at p (suc s) n i h c d)
  where
    go : (c : Bool) → p s ≡ c → (elim c [ true ↦ all_free p (suc s) n | false ↦ false ]) ≡ true → Dec (i ≡ s)
        → (all_free p (suc s) n ≡ true → suc s ≤ i → i < suc s + n → p i ≡ true) → p i ≡ true
    go false g h d k = absurd (true≢false (sym h))
    go true g h (yes d) k = ap p d ∙ g
    go true g h (no d) k = k h (omega arith) (omega arith)

pub all_free-all : (p : ℕ → Bool) (s n : ℕ) → ((i : ℕ) → s ≤ i → i < s + n → p i ≡ true) → all_free p s n ≡ true
unfolding all_free
all_free-all p s zero h = refl
all_free-all p s (suc n) h =
    rw (h s (omega arith) (omega arith), all_free)
    (all_free-all p (suc s) n (λ i a b. h i (omega arith) (omega arith)))

pub all_free-taken : (p : ℕ → Bool) (s n : ℕ) → p s ≡ false → all_free p s (suc n) ≡ false
unfolding all_free
all_free-taken p s n e = rw (e, all_free)

-- where place i lies, by what `covers` says of n places from s on
pub data Covering (s n i : ℕ) : Bool → Type 0 where
  inside : s ≤ i → i < s + n → Covering s n i true
  below : i < s → Covering s n i false
  above : s + n ≤ i → Covering s n i false

pub covering : (s n i : ℕ) → Covering s n i (covers (Recorded.Live s n) i)
covering s n i = go (leb s i) (ltb i (s + n)) refl refl
  where
    go : (b c : Bool) → leb s i ≡ b → ltb i (s + n) ≡ c → Covering s n i (b && c)
    go false c p q = below (leb-false s i p)
    go true true p q = inside (leb-true s i p) (ltb-true i (s + n) q)
    go true false p q = above (ltb-false i (s + n) q)

pub covers-inside : (s n i : ℕ) → s ≤ i → i < s + n → covers (Recorded.Live s n) i ≡ true
covers-inside s n i p q = go (covering s n i)
  where
    go : {b : Bool} → Covering s n i b → b ≡ true
    go (inside p₁ q₁) = refl
    go (below p₁) = absurd (omega arith)
    go (above p₁) = absurd (omega arith)

-- how many live blocks cover place i
abbrev pub coverage : List Recorded → ℕ → ℕ
coverage [] i = 0
coverage (b ∷ bs) i = one (covers b i) + coverage bs i

coverage-set : (l : List Recorded) (k : ℕ) (x : Recorded) (i : ℕ) → k < length l
    → coverage (set l k x) i + one (covers (get_or l k Recorded.Dead) i) ≡ coverage l i + one (covers x i)
coverage-set [] k x i h = absurd (omega arith)
coverage-set (y ∷ l) zero x i h = omega arith
coverage-set (y ∷ l) (suc k) x i h = omega (arith, coverage-set l k x i (omega arith))

pub coverage-set_named : (l : List Recorded) (k : ℕ) (x : Recorded) (i : ℕ) → 1 ≤ k → k ≤ length l
    → coverage (set_named l k x) i + one (covers (named l k Recorded.Dead) i) ≡ coverage l i + one (covers x i)
coverage-set_named l zero x i h le = absurd (omega arith)
coverage-set_named l (suc k) x i h le = coverage-set l k x i (omega arith)

coverage-at : (l : List Recorded) (k i : ℕ) → one (covers (get_or l k Recorded.Dead) i) ≤ coverage l i
coverage-at [] k i = omega arith
coverage-at (y ∷ l) zero i = omega arith
coverage-at (y ∷ l) (suc k) i = omega (arith, coverage-at l k i)

pub coverage-named : (l : List Recorded) (k i : ℕ) → one (covers (named l k Recorded.Dead) i) ≤ coverage l i
coverage-named l zero i = omega arith
coverage-named l (suc k) i = coverage-at l k i

-- the blocks of two names cover a place at most as often as all blocks do
coverage-two : (l : List Recorded) (j k i : ℕ) → j ≢ k
    → one (covers (get_or l j Recorded.Dead) i) + one (covers (get_or l k Recorded.Dead) i) ≤ coverage l i
coverage-two [] j k i d = omega arith
coverage-two (b ∷ l) zero zero i d = absurd (d refl)
coverage-two (b ∷ l) zero (suc k) i d = omega (arith, coverage-named l (suc k) i)
coverage-two (b ∷ l) (suc j) zero i d = omega (arith, coverage-named l (suc j) i)
coverage-two (b ∷ l) (suc j) (suc k) i d = omega (arith, coverage-two l j k i (λ e. d (ap suc e)))

coverage-both : (l : List Recorded) (j k i : ℕ) → j ≢ k
    → one (covers (named l j Recorded.Dead) i) + one (covers (named l k Recorded.Dead) i) ≤ coverage l i
coverage-both l zero k i d = omega (arith, coverage-named l k i)
coverage-both l (suc j) zero i d = omega (arith, coverage-named l (suc j) i)
coverage-both l (suc j) (suc k) i d = coverage-two l j k i (λ e. d (ap suc e))

-- where no place is covered twice, the blocks of two names do not cover the same, and live ones share none
pub not-twice : (l : List Recorded) → ((i : ℕ) → coverage l i ≤ 1) → (j k i : ℕ) → j ≢ k
    → covers (named l j Recorded.Dead) i ≡ true → covers (named l k Recorded.Dead) i ≡ true → ⊥
not-twice l once j k i d e e₁ = let z = rw (e, e₁) at (coverage-both l j k i d) in omega (arith, z, once i)

pub separate : (l : List Recorded) → ((i : ℕ) → coverage l i ≤ 1) → (j k first n first₁ n₁ : ℕ) → j ≢ k
    → named l j Recorded.Dead ≡ Recorded.Live first n → named l k Recorded.Dead ≡ Recorded.Live first₁ n₁
    → (i : ℕ) → first ≤ i → i < first + n → first₁ ≤ i → i < first₁ + n₁ → ⊥
separate l once j k s n s₁ n₁ d e e₁ i p q p₁ q₁ =
    not-twice l once j k i d
    (ap (λ b. covers b i) e ∙ covers-inside s n i p q) (ap (λ b. covers b i) e₁ ∙ covers-inside s₁ n₁ i p₁ q₁)

-- covered: by one block at least
pub data Covered (l : List Recorded) (i : ℕ) : Bool → Type 0 where
  some : 1 ≤ coverage l i → Covered l i true
  none : coverage l i ≡ 0 → Covered l i false

pub covered-is : (l : List Recorded) (i : ℕ) → Covered l i (covered l i)
unfolding covered
covered-is [] i = none refl
covered-is (b ∷ l) i = go (covers b i) refl (covered-is l i)
  where
    more : {c : Bool} → covers b i ≡ false → Covered l i c → Covered (b ∷ l) i c
    more e (some h) = some (omega arith)
    more e (none h) = none (omega (arith, ap one e))

    go : (c : Bool) → covers b i ≡ c → Covered l i (covered l i)
        → Covered (b ∷ l) i (elim c [ true ↦ true | false ↦ covered l i ])
    go true e h = some (omega (arith, ap one e))
    go false e h = more e h
