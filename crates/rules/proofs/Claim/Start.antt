-- The memory's invariant holds at the start.
use Prim.Native.Nat.{ℕ, zero, suc, ◌+◌, ◌-◌, ◌≤◌, ◌<◌}
use native.Mathlib.Omega.{arith}
use mathlib.Core.Path.{◌≡◌, refl, sym, ap, ◌∙◌}
use mathlib.Core.Bool.{Bool, true, false, true≢false}
use mathlib.Core.List.{List, [], ◌∷◌, ◌++◌, map}
use lib.IntN.{ℤ}
use lib.ListN.{length, get_or, replicate, length-append, length-map, length-replicate}
use Rattle.rules.specs.Types.{Value, Block, Recorded, Cell}
use Rattle.rules.specs.Sizes.{name_count, cell_count, input_limit}
use Rattle.rules.specs.Memory.{recorded_of, block_of, cell_of, is_unused, one, start_memory}
use Rattle.rules.specs.Observation.{covers}
use Rattle.rules.proofs.Memory.MemoryLaws.{Covering, inside, below, above, covering, covers-inside, coverage}
use Rattle.rules.proofs.Memory.Invariant.{occupied, records_of, Rising, Owned, Invariant}
use Rattle.rules.proofs.Memory.BlockChanges.{live-parts, dead-is-not-live}

abbrev pub input_cells : List ℤ → ℕ → List Cell
input_cells is r = map (λ z. Cell.Holds 2 (Value.Integer z)) is ++ replicate r Cell.Free

unused-coverage : (r i : ℕ) → coverage (map recorded_of (replicate r Block.Unused)) i ≡ 0
unused-coverage zero i = refl
unused-coverage (suc r) i = omega (arith, unused-coverage r i)

unused-is-not-live : (r k a n : ℕ) → recorded_of (get_or (replicate r Block.Unused) k Block.Dead) ≡ Recorded.Live a n → ⊥
unused-is-not-live zero k a n e = let z : ◌≡◌ {A = ℕ} 0 1 = cc in omega arith
unused-is-not-live (suc r) zero a n e = let z : ◌≡◌ {A = ℕ} 0 1 = cc in omega arith
unused-is-not-live (suc r) (suc k) a n e = unused-is-not-live r k a n e

input-occupied : (is : List ℤ) (r i : ℕ) → i < length is → occupied (get_or (input_cells is r) i Cell.Free) ≡ 1
input-occupied [] r i h = absurd (omega arith)
input-occupied (z ∷ is) r zero h = refl
input-occupied (z ∷ is) r (suc i) h = input-occupied is r i (omega arith)

input-free : (is : List ℤ) (r i : ℕ) → length is ≤ i → occupied (get_or (input_cells is r) i Cell.Free) ≡ 0
input-free [] zero i h = refl
input-free [] (suc r) zero h = refl
input-free [] (suc r) (suc i) h = input-free [] r i (omega arith)
input-free (z ∷ is) r zero h = absurd (omega arith)
input-free (z ∷ is) r (suc i) h = input-free is r i (omega arith)

start-names : (is : List ℤ) → length (start_memory is).blocks ≡ name_count
unfolding start_memory
start-names is = ap (λ n. suc (suc n)) (length-replicate (name_count - 2) Block.Unused)

start-size : (is : List ℤ) → length is ≤ input_limit → length (start_memory is).cells ≡ cell_count
unfolding start_memory
start-size is h = simp (length-append, length-map, length-replicate) (omega arith)

start-within : (is : List ℤ) → length is ≤ input_limit → (k first n : ℕ)
    → recorded_of (block_of (start_memory is) k) ≡ Recorded.Live first n → first + n ≤ cell_count
unfolding start_memory
start-within is h zero a n e = absurd (dead-is-not-live a n e)
start-within is h (suc zero) a n e = omega (arith, live-parts 0 1 a n e)
start-within is h (suc (suc zero)) a n e = omega (arith, live-parts 1 (length is) a n e)
start-within is h (suc (suc (suc k))) a n e = absurd (unused-is-not-live (name_count - 2) k a n e)

start-cover : (is : List ℤ) (i : ℕ) → coverage (records_of (start_memory is)) i ≡ occupied (cell_of (start_memory is) i)
unfolding start_memory
start-cover is zero = omega (arith, unused-coverage (name_count - 2) 0)
start-cover is (suc i) =
    go (covers (Recorded.Live 0 1) (suc i)) refl (covering 0 1 (suc i))
    (covers (Recorded.Live 1 (length is)) (suc i)) refl (covering 1 (length is) (suc i))
  where
    go : (b : Bool) → covers (Recorded.Live 0 1) (suc i) ≡ b → Covering 0 1 (suc i) b
        → (c : Bool) → covers (Recorded.Live 1 (length is)) (suc i) ≡ c → Covering 1 (length is) (suc i) c
        → one (covers (Recorded.Live 0 1) (suc i))
        + (one (covers (Recorded.Live 1 (length is)) (suc i))
        + coverage (map recorded_of (replicate (name_count - 2) Block.Unused)) (suc i))
        ≡ occupied (get_or (input_cells is (cell_count - 1 - length is)) i Cell.Free)
    go true e (inside p q) c g w = absurd (omega arith)
    go false e (below p) c g w = absurd (omega arith)
    go false e (above p) true g (inside u v) =
        omega (
          arith,
          ap one e,
          ap one g,
          unused-coverage (name_count - 2) (suc i),
          input-occupied is (cell_count - 1 - length is) i (omega arith),
        )
    go false e (above p) false g (below u) = absurd (omega arith)
    go false e (above p) false g (above u) =
        omega (
          arith,
          ap one e,
          ap one g,
          unused-coverage (name_count - 2) (suc i),
          input-free is (cell_count - 1 - length is) i (omega arith),
        )

unused-at : (r k : ℕ) → k < r → is_unused (get_or (replicate r Block.Unused) k Block.Dead) ≡ true
unused-at zero k h = absurd (omega arith)
unused-at (suc r) zero h = refl
unused-at (suc r) (suc k) h = unused-at r k (omega arith)

start-rising : (is : List ℤ) → Rising (start_memory is).blocks
unfolding start_memory
start-rising is zero k a b c h = absurd (omega arith)
start-rising is (suc zero) k a b c h = refl
start-rising is (suc (suc zero)) k a b c h = refl
start-rising is (suc (suc (suc j))) (suc (suc (suc k))) a b c h =
    absurd (true≢false (sym (unused-at (name_count - 2) k (omega arith)) ∙ h))
start-rising is (suc (suc (suc j))) zero a b c h = absurd (omega arith)
start-rising is (suc (suc (suc j))) (suc zero) a b c h = absurd (omega arith)
start-rising is (suc (suc (suc j))) (suc (suc zero)) a b c h = absurd (omega arith)

-- what holds of a free cell, and of block 2's where there are inputs, holds of every cell from cell 1 on
input-cell : (C : Cell → Type 0) → C Cell.Free → (is : List ℤ) (r i : ℕ)
    → (i < length is → (z : ℤ) → C (Cell.Holds 2 (Value.Integer z))) → C (get_or (input_cells is r) i Cell.Free)
input-cell C f [] zero i h = f
input-cell C f [] (suc r) zero h = f
input-cell C f [] (suc r) (suc i) h = input-cell C f [] r i (λ p. absurd (omega arith))
input-cell C f (z ∷ is) r zero h = h (omega arith) z
input-cell C f (z ∷ is) r (suc i) h = input-cell C f is r i (λ p. h (omega arith))

start-owned : (is : List ℤ) (i : ℕ) → Owned (start_memory is).blocks i (cell_of (start_memory is) i)
unfolding start_memory
start-owned is zero = refl
start-owned is (suc i) =
    input-cell (Owned (start_memory is).blocks (suc i)) tt is (cell_count - 1 - length is) i
    (λ p z. covers-inside 1 (length is) (suc i) (omega arith) (omega arith))

pub start-invariant : (is : List ℤ) → length is ≤ input_limit → Invariant (start_memory is)
start-invariant is h = record {
  names = start-names is;
  size = start-size is h;
  within = start-within is h;
  cover = start-cover is;
  rising = start-rising is;
  owned = start-owned is;
}
