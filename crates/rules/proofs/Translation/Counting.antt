-- Sums over the records of a table, and double counting: what the last one's tree has, from what each record adds.
use Prim.Native.Nat.{ℕ, zero, suc, ◌+◌, ◌-◌, ◌*◌, ◌≤◌, ◌<◌}
use native.Mathlib.Decide.{ℕ_discrete}
use native.Mathlib.Omega.{arith}
use mathlib.Core.Bool.{cond}
use mathlib.Core.Path.{◌≡◌, refl, sym, ap, ap₂, ◌∙◌}
use borrow.Author.Tests.{eq-eqb, ne_eqb}
use lib.Dec.{eqb}
use Rattle.rules.specs.Origins.{sum}

pub sum-equal : (k : ℕ) (f g : ℕ → ℕ) → ((j : ℕ) → 1 ≤ j → j ≤ k → f j ≡ g j) → sum k f ≡ sum k g
unfolding sum
sum-equal zero f g h = refl
sum-equal (suc k) f g h =
    ap₂ ◌+◌ (sum-equal k f g (λ j p q. h j p (omega arith))) (h (suc k) (omega arith) (omega arith))

pub sum-plus : (k : ℕ) (f g : ℕ → ℕ) → sum k (λ j. f j + g j) ≡ sum k f + sum k g
unfolding sum
sum-plus zero f g = refl
sum-plus (suc k) f g = omega (arith, sum-plus k f g)

pub sum-none : (k : ℕ) (f : ℕ → ℕ) → ((j : ℕ) → 1 ≤ j → j ≤ k → f j ≡ 0) → sum k f ≡ 0
unfolding sum
sum-none zero f h = refl
sum-none (suc k) f h =
    omega (arith, sum-none k f (λ j p q. h j p (omega arith)), h (suc k) (omega arith) (omega arith))

pub sum-times : (k x : ℕ) (f : ℕ → ℕ) → sum k (λ j. x * f j) ≡ x * sum k f
unfolding sum
sum-times zero x f = omega arith
sum-times (suc k) x f = omega (arith, sum-times k x f)

pub sum-most : (k x : ℕ) (f : ℕ → ℕ) → ((j : ℕ) → 1 ≤ j → j ≤ k → f j ≤ x) → sum k f ≤ x * k
unfolding sum
sum-most zero x f h = omega arith
sum-most (suc k) x f h =
    omega (arith, sum-most k x f (λ j p q. h j p (omega arith)), h (suc k) (omega arith) (omega arith))

-- one of them, c times
pub sum-pick : (k x c : ℕ) (f : ℕ → ℕ) → 1 ≤ x → x ≤ k → sum k (λ j. cond (eqb x j) c 0 * f j) ≡ c * f x
unfolding sum
sum-pick zero x c f p q = absurd (omega arith)
sum-pick (suc k) x c f p q = go (ℕ_discrete x (suc k)) (λ r. sum-pick k x c f p r)
  where
    other : (j : ℕ) → (x ≡ j → ⊥) → cond (eqb x j) c 0 * f j ≡ 0
    other j e = rw (ne_eqb x j e) (omega arith)

    go : Dec (x ≡ suc k) → (x ≤ k → sum k (λ j. cond (eqb x j) c 0 * f j) ≡ c * f x)
        → sum k (λ j. cond (eqb x j) c 0 * f j) + cond (eqb x (suc k)) c 0 * f (suc k) ≡ c * f x
    go (yes e) ih =
        let own : cond (eqb x (suc k)) c 0 * f (suc k) ≡ c * f x = rw (eq-eqb x (suc k) e, e) refl in
        omega (arith, own, sum-none k (λ j. cond (eqb x j) c 0 * f j) (λ j u v. other j (λ d. omega arith)))
    go (no e) ih = omega (arith, ih (omega arith), other (suc k) e)

-- the same where it may be none, which counts 0
pub sum-child : (k x c : ℕ) (f : ℕ → ℕ) → x ≤ k → f 0 ≡ 0 → sum k (λ j. cond (eqb x j) c 0 * f j) ≡ c * f x
sum-child k zero c f q z =
    let none : c * f 0 ≡ 0 = rw z (omega arith) in
    sum-none k _ (λ j u v. rw (ne_eqb 0 j (λ e. omega arith)) (omega arith)) ∙ sym none
sum-child k (suc x) c f q z = sum-pick k (suc x) c f (omega arith) q

-- the last of them apart
sum-last : (k : ℕ) (f : ℕ → ℕ) → 1 ≤ k → sum k f ≡ sum (k - 1) f + f k
unfolding sum
sum-last zero f p = absurd (omega arith)
sum-last (suc k) f p =
    let e : k ≡ suc k - 1 = omega arith in
    ap (λ (j : ℕ). sum j f + f (suc k)) e

-- The size of record m is its own and `times m j` times that of each record j. There are `copies m` of it: as many as
-- those that it stands in, each as often as it stands there, have together; the last stands in none.
module _ (N : ℕ) (size own copies : ℕ → ℕ) (times : ℕ → ℕ → ℕ)
    (made : (m : ℕ) → 1 ≤ m → m ≤ N → size m ≡ own m + sum N (λ j. times m j * size j))
    (handed : (j : ℕ) → 1 ≤ j → j < N → sum N (λ m. copies m * times m j) ≡ copies j)
    (last : sum N (λ m. copies m * times m N) ≡ 0) where
  sums : (k : ℕ) → k ≤ N
      → sum k (λ m. copies m * size m)
      ≡ sum k (λ m. copies m * own m) + sum N (λ j. sum k (λ m. copies m * times m j) * size j)
  unfolding sum
  sums zero q = omega (arith, sum-none N (λ j. 0 * size j) (λ j u v. omega arith))
  sums (suc k) q =
      let n = suc k in
      omega (
        arith,
        sums k (omega arith),
        ap (λ (z : ℕ). copies n * z) (made n (omega arith) q),
        sum-times N (copies n) (λ j. times n j * size j),
        sum-equal N (λ j. sum n (λ m. copies m * times m j) * size j)
            (λ j. sum k (λ m. copies m * times m j) * size j + copies n * (times n j * size j))
            (λ j u v. omega arith),
        sum-plus N (λ j. sum k (λ m. copies m * times m j) * size j) (λ j. copies n * (times n j * size j)),
      )

  pub count-all : 1 ≤ N → copies N * size N ≡ sum N (λ m. copies m * own m)
  count-all p =
      let handed_down : ℕ → ℕ = λ j. sum N (λ m. copies m * times m j) * size j in
      omega (
        arith,
        sums N (omega arith),
        sum-last N (λ m. copies m * size m) p,
        sum-last N handed_down p,
        sum-equal (N - 1) handed_down (λ j. copies j * size j) (λ j u v. rw (handed j u (omega arith)) refl),
        ap (λ (z : ℕ). z * size N) last,
      )
