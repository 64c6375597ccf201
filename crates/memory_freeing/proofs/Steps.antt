-- What the steps of freeing a block and of ending a let's block come to.
use Prim.Native.Nat.{ℕ, ◌+◌, ◌≤◌, ◌<◌}
use native.Mathlib.Omega.{arith}
use mathlib.Core.Path.{◌≡◌, sym, ap, ◌∙◌, subst}
use mathlib.Core.List.{List}
use Rattle.rules.specs.Sizes.{cell_count}
use Rattle.rules.specs.Memory.{Memory, recorded_of, block_of, set_cell, without_cells, end_block}
use Rattle.rules.specs.Layout.{memory_of}
use Rattle.rules.specs.declared.{Block.Block, Cell.Cell, Recorded.Recorded, Counts.Counts}
use Rattle.memory_counts.specs.Counted.{Counted, after_end}
use Rattle.memory_counts.proofs.CountLaws.{counted_is, end-counted, counted-end}
use Rattle.memory_cells.specs.Changes.{Becomes, set_block}
use Rattle.memory_cells.specs.Starts.{StartsAt}
use Rattle.memory_cell_fills.specs.Filling.{fill_cells}
use Rattle.memory_cell_fills.proofs.Filling.{fill_one}
use Rattle.memory_cell_changes.proofs.Writing.{becomes-then, becomes-as}
use Rattle.memory_freeing.specs.LetBlocks.{LetBlock}

-- a live block: its cells are free, and its name is dead
pub counted-freed : {l l' l'' : List ℕ} (k first n : ℕ) {c c₁ : Counts} → Counted (memory_of l) c
    → recorded_of (block_of (memory_of l) k) ≡ Recorded.Live first n
    → Becomes l l' (fill_cells (memory_of l) first n Cell.Free) → Becomes l' l'' (set_block (memory_of l') k Block.Dead)
    → c₁ ≡ after_end c first n → Counted (memory_of l'') c₁
counted-freed k first n h e x y q =
    counted_is (becomes-then (λ (m : Memory). set_block m k Block.Dead) x y).view q (counted-end h k first n e)

-- a let's block, whose one cell is the one that its record says
module _ {m : Memory} {k at : ℕ} (b : LetBlock m k) (s : StartsAt m k at) where
  live : recorded_of (block_of m k) ≡ Recorded.Live b.first 1
  live = ap recorded_of b.is

  found : at ≡ b.first
  found = s b.first 1 live

  pub cell-inside : {c : Counts} → Counted m c → at < cell_count
  cell-inside h = omega (arith, found, h.invariant.within k b.first 1 live)

  without-one : set_block (set_cell m at Cell.Free) k Block.Dead ≡ end_block m k
  without-one =
      ap (λ (x : Memory). set_block x k Block.Dead) (fill_one m at Cell.Free)
      ∙ ap (λ (i : ℕ). without_cells m k (Recorded.Live i 1)) found
      ∙ ap (without_cells m k) (sym live)

  counted-without : {c : Counts} → Counted m c → Counted (end_block m k) (after_end c at 1)
  counted-without {c} h =
      rw found (subst (λ (r : Recorded). Counted (without_cells m k r) (after_end c b.first 1)) (sym live)
      (counted-end h k b.first 1 live))

pub one-counted : {m : Memory} {k : ℕ} {c : Counts} → Counted m c → LetBlock m k → c.free + 1 ≤ cell_count
one-counted {m} {k} h b = end-counted h k b.first 1 (ap recorded_of b.is)

pub ended : {l l' l'' : List ℕ} {k at : ℕ} → LetBlock (memory_of l) k → StartsAt (memory_of l) k at
    → Becomes l l' (set_cell (memory_of l) at Cell.Free) → Becomes l' l'' (set_block (memory_of l') k Block.Dead)
    → Becomes l l'' (end_block (memory_of l) k)
ended {k = k} b s x y =
    becomes-as (without-one b s) (becomes-then (λ (m : Memory). set_block m k Block.Dead) x y)

pub counted-ended : {l l' l'' : List ℕ} {k at : ℕ} {c c₁ : Counts} → Counted (memory_of l) c → LetBlock (memory_of l) k
    → StartsAt (memory_of l) k at → Becomes l l' (set_cell (memory_of l) at Cell.Free)
    → Becomes l' l'' (set_block (memory_of l') k Block.Dead) → c₁ ≡ after_end c at 1 → Counted (memory_of l'') c₁
counted-ended h b s x y q = counted_is (ended b s x y).view q (counted-without b s h)
