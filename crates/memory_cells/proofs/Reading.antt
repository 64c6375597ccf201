-- What bytes stand for, read record by record; past the last there is none.
use Prim.Native.Nat.{ℕ, zero, suc, ◌+◌, ◌-◌, ◌*◌, ◌<◌, ◌≤◌}
use native.Mathlib.Nat.{zero-add, le_trans, le_of_eq}
use native.Mathlib.Omega.{arith}
use mathlib.Core.Path.{◌≡◌, refl, sym, ap, ◌∙◌}
use mathlib.Core.List.{List}
use lib.Dec.{eqb, eqb-suc-zero}
use lib.IntN.{ℤ}
use lib.ListN.{length, get_or, get_or-eq_default}
use Rattle.rules.specs.Sizes.{name_count, cell_count}
use Rattle.rules.specs.Words.{word_at}
use Rattle.rules.specs.Memory.{block_of, cell_of, recorded_of, is_free}
use Rattle.rules.specs.Layout.{memory_of, block_at, cell_at, block_from, cell_from, block_place, cell_place}
use Rattle.rules.proofs.Lists.Rows.{length-tabulate, get_d_tabulate}
use Rattle.rules.specs.declared.{Value.Value, Block.Block, Cell.Cell, Recorded.Recorded}
use Rattle.memory_cells.specs.Starts.{StartsAt}

pub count-blocks : (l : List ℕ) → length (memory_of l).blocks ≡ name_count
unfolding memory_of
count-blocks l = length-tabulate name_count 0 (block_at l)

pub count-cells : (l : List ℕ) → length (memory_of l).cells ≡ cell_count
unfolding memory_of
count-cells l = length-tabulate cell_count 0 (cell_at l)

pub cell_in : (l : List ℕ) (i : ℕ) → i < cell_count → cell_at l i ≡ cell_of (memory_of l) i
unfolding memory_of
cell_in l i h = sym (get_d_tabulate cell_count 0 i (cell_at l) Cell.Free h ∙ ap (cell_at l) (zero-add i))

pub cell-past : (l : List ℕ) (i : ℕ) → cell_count ≤ i → Cell.Free ≡ cell_of (memory_of l) i
cell-past l i h = sym (get_or-eq_default (memory_of l).cells Cell.Free (le_trans (le_of_eq (count-cells l)) h))

pub block_in : (l : List ℕ) (k : ℕ) → k < name_count → block_at l k ≡ block_of (memory_of l) (suc k)
unfolding memory_of
block_in l k h = sym (get_d_tabulate name_count 0 k (block_at l) Block.Dead h ∙ ap (block_at l) (zero-add k))

pub block-named : (l : List ℕ) (k : ℕ) → 0 < k → k ≤ name_count → block_at l (k - 1) ≡ block_of (memory_of l) k
block-named l zero a b = absurd (omega arith)
block-named l (suc k) a b =
    let e : suc k - 1 ≡ k = omega arith in
    rw e (block_in l k (omega arith))

pub block-past : (l : List ℕ) (k : ℕ) → name_count < k → Block.Dead ≡ block_of (memory_of l) k
block-past l zero h = absurd (omega arith)
block-past l (suc k) h =
    let p : name_count ≤ k = omega arith in
    sym (get_or-eq_default (memory_of l).blocks Block.Dead (le_trans (le_of_eq (count-blocks l)) p))

pub ruleset blocks_by_name = (block-named, block-past)

pub ruleset cells_by_place = (cell_in, cell-past)

-- the kinds that no number below tells
pub other-cell : (k o n : ℕ) (z : ℤ) → (k ≡ 0 → ⊥) → (k ≡ 1 → ⊥) → (k ≡ 2 → ⊥)
    → Cell.Holds o (Value.Pointer (record { name = n; offset = z })) ≡ cell_from k o n z
other-cell zero o n z a b d = absurd (a refl)
other-cell (suc zero) o n z a b d = absurd (b refl)
other-cell (suc (suc zero)) o n z a b d = absurd (d refl)
other-cell (suc (suc (suc k))) o n z a b d = refl

-- where the block of a record starts, if it is live
live-first : (s f n first k : ℕ) → recorded_of (block_from s f n) ≡ Recorded.Live first k → f ≡ first
live-first zero f n first k e = cc
live-first (suc zero) f n first k e = cc
live-first (suc (suc zero)) f n first k e = cc
live-first (suc (suc (suc s))) f n first k e = cc

pub starts_at : (l : List ℕ) (k : ℕ) → 0 < k → k ≤ name_count → StartsAt (memory_of l) k (word_at 2 l (k * 8 - 6))
unfolding block_at
starts_at l k a b first n e =
    let at : k * 8 - 6 ≡ block_place (k - 1) + 2 = omega arith in
    ap (word_at 2 l) at
    ∙ live-first (get_or l (block_place (k - 1)) 0) (word_at 2 l (block_place (k - 1) + 2))
    (word_at 2 l (block_place (k - 1) + 4)) first n (ap recorded_of (block-named l k a b) ∙ e)

-- a free cell, by the first byte
free-kind : (k o n : ℕ) (z : ℤ) → eqb k 0 ≡ is_free (cell_from k o n z)
free-kind zero o n z = refl
free-kind (suc zero) o n z = refl
free-kind (suc (suc zero)) o n z = refl
free-kind (suc (suc (suc k))) o n z = eqb-suc-zero (suc (suc k))

pub free-byte : (l : List ℕ) (i : ℕ) → i < cell_count → eqb (get_or l (cell_place i) 0) 0 ≡ is_free (cell_of (memory_of l) i)
unfolding cell_at
free-byte l i h = free-kind (get_or l (cell_place i) 0) _ _ _ ∙ ap is_free (cell_in l i h)
