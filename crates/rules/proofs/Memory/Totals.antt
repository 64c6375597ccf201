-- Free cells and the lengths of live blocks make 1,024, and so the occupied cells number those lengths.
use Prim.Native.Nat.{ℕ, zero, suc, ◌+◌, ◌≤◌, ◌<◌}
use native.Mathlib.Omega.{arith}
use mathlib.Core.Path.{◌≡◌, refl, sym, ◌∙◌}
use mathlib.Core.Bool.{Bool}
use mathlib.Core.List.{List, [], ◌∷◌}
use lib.ListN.{length, get_or}
use Rattle.rules.specs.Types.{Block, Recorded, Cell}
use Rattle.rules.specs.Sizes.{cell_count}
use Rattle.rules.specs.Memory.{Memory, recorded_of, one, count_free}
use Rattle.rules.specs.Observation.{covers}
use Rattle.rules.proofs.Memory.MemoryLaws.{named-map, Covering, inside, below, above, covering, coverage}
use Rattle.rules.proofs.Memory.Invariant.{occupied, records_of, Invariant}

-- the sum of the lengths of live blocks
abbrev pub length_of : Recorded → ℕ
length_of Recorded.Unused = 0
length_of (Recorded.Live first n) = n
length_of Recorded.Dead = 0

abbrev pub live_length : List Recorded → ℕ
live_length [] = 0
live_length (b ∷ bs) = length_of b + live_length bs

-- sums over the places below n
abbrev sum : ℕ → (ℕ → ℕ) → ℕ
sum zero g = 0
sum (suc n) g = g 0 + sum n (λ i. g (suc i))

sum_same : (n : ℕ) (g h : ℕ → ℕ) → ((i : ℕ) → g i ≡ h i) → sum n g ≡ sum n h
sum_same zero g h e = refl
sum_same (suc n) g h e = omega (arith, e 0, sum_same n (λ i. g (suc i)) (λ i. h (suc i)) (λ i. e (suc i)))

sum-add : (n : ℕ) (g h : ℕ → ℕ) → sum n (λ i. g i + h i) ≡ sum n g + sum n h
sum-add zero g h = refl
sum-add (suc n) g h = omega (arith, sum-add n (λ i. g (suc i)) (λ i. h (suc i)))

sum-zero : (n : ℕ) → sum n (λ i. 0) ≡ 0
sum-zero zero = refl
sum-zero (suc n) = omega (arith, sum-zero n)

-- is i one of n places from s on, as a number that computes
abbrev hit : ℕ → ℕ → ℕ → ℕ
hit zero zero i = 0
hit zero (suc n) zero = 1
hit zero (suc n) (suc i) = hit zero n i
hit (suc s) n zero = 0
hit (suc s) n (suc i) = hit s n i

hit-inside : (s n i : ℕ) → s ≤ i → i < s + n → hit s n i ≡ 1
hit-inside zero zero i p q = absurd (omega arith)
hit-inside zero (suc n) zero p q = refl
hit-inside zero (suc n) (suc i) p q = hit-inside zero n i (omega arith) (omega arith)
hit-inside (suc s) n zero p q = absurd (omega arith)
hit-inside (suc s) n (suc i) p q = hit-inside s n i (omega arith) (omega arith)

hit-below : (s n i : ℕ) → i < s → hit s n i ≡ 0
hit-below zero n i p = absurd (omega arith)
hit-below (suc s) n zero p = refl
hit-below (suc s) n (suc i) p = hit-below s n i (omega arith)

hit-above : (s n i : ℕ) → s + n ≤ i → hit s n i ≡ 0
hit-above zero zero i p = refl
hit-above zero (suc n) zero p = absurd (omega arith)
hit-above zero (suc n) (suc i) p = hit-above zero n i (omega arith)
hit-above (suc s) n zero p = absurd (omega arith)
hit-above (suc s) n (suc i) p = hit-above s n i (omega arith)

covers-hit : (s n i : ℕ) → one (covers (Recorded.Live s n) i) ≡ hit s n i
covers-hit s n i = go (covering s n i)
  where
    go : {b : Bool} → Covering s n i b → one b ≡ hit s n i
    go (inside p q) = sym (hit-inside s n i p q)
    go (below p) = sym (hit-below s n i p)
    go (above p) = sym (hit-above s n i p)

sum-hit : (N s n : ℕ) → s + n ≤ N → sum N (λ i. hit s n i) ≡ n
sum-hit N zero zero h = sum-zero N
sum-hit zero zero (suc n) h = absurd (omega arith)
sum-hit (suc N) zero (suc n) h = omega (arith, sum-hit N zero n (omega arith))
sum-hit zero (suc s) n h = absurd (omega arith)
sum-hit (suc N) (suc s) n h = omega (arith, sum-hit N s n (omega arith))

sum-covers : (N : ℕ) (b : Recorded) → ((s n : ℕ) → b ≡ Recorded.Live s n → s + n ≤ N)
    → sum N (λ i. one (covers b i)) ≡ length_of b
sum-covers N Recorded.Unused h = sum-zero N
sum-covers N (Recorded.Live s n) h = sum_same N _ _ (covers-hit s n) ∙ sum-hit N s n (h s n refl)
sum-covers N Recorded.Dead h = sum-zero N

sum-coverage : (N : ℕ) (l : List Recorded) → ((k s n : ℕ) → get_or l k Recorded.Dead ≡ Recorded.Live s n → s + n ≤ N)
    → sum N (λ i. coverage l i) ≡ live_length l
sum-coverage N [] h = sum-zero N
sum-coverage N (b ∷ l) h =
    omega (
      arith,
      sum-add N (λ i. one (covers b i)) (λ i. coverage l i),
      sum-covers N b (h 0),
      sum-coverage N l (λ k. h (suc k)),
    )

sum-occupied : (l : List Cell) → count_free l + sum (length l) (λ i. occupied (get_or l i Cell.Free)) ≡ length l
unfolding count_free
sum-occupied [] = refl
sum-occupied (Cell.Free ∷ l) = omega (arith, sum-occupied l)
sum-occupied (Cell.Holds o v ∷ l) = omega (arith, sum-occupied l)

-- the number of cells that are not free
abbrev pub count_occupied : List Cell → ℕ
count_occupied [] = 0
count_occupied (c ∷ cs) = occupied c + count_occupied cs

free-or-occupied : (l : List Cell) → count_free l + count_occupied l ≡ length l
unfolding count_free
free-or-occupied [] = refl
free-or-occupied (Cell.Free ∷ l) = omega (arith, free-or-occupied l)
free-or-occupied (Cell.Holds o v ∷ l) = omega (arith, free-or-occupied l)

-- at any number of cells
total_of : (N : ℕ) (l : List Recorded) (c : List Cell) → length c ≡ N
    → ((i : ℕ) → coverage l i ≡ occupied (get_or c i Cell.Free))
    → ((k s n : ℕ) → get_or l k Recorded.Dead ≡ Recorded.Live s n → s + n ≤ N) → count_free c + live_length l ≡ N
total_of N l c e h w =
    let q : count_free c + sum N (λ i. occupied (get_or c i Cell.Free)) ≡ N = rw e at (sum-occupied c) in
    omega (arith, q, sum_same N (λ i. coverage l i) (λ i. occupied (get_or c i Cell.Free)) h, sum-coverage N l w)

pub total : (m : Memory) → Invariant m → count_free m.cells + live_length (records_of m) ≡ cell_count
total m y = total_of cell_count (records_of m) m.cells y.size y.cover
    (λ k s n e. y.within (suc k) s n (sym (named-map recorded_of m.blocks (suc k) Block.Dead) ∙ e))

pub total-occupied : (m : Memory) → Invariant m → count_occupied m.cells ≡ live_length (records_of m)
total-occupied m y = omega (arith, free-or-occupied m.cells, y.size, total m y)
