-- Filling, one cell more.
use Prim.Native.Nat.{ℕ, suc, ◌+◌, ◌-◌, ◌≤◌, ◌<◌}
use native.Mathlib.Omega.{arith}
use mathlib.Core.Path.{◌≡◌, sym}
use mathlib.Core.List.{List}
use lib.ListN.{length}
use Rattle.rules.specs.Sizes.{cell_count}
use Rattle.rules.specs.Memory.{Memory, set_cell}
use Rattle.rules.specs.Layout.{memory_of}
use Rattle.rules.specs.declared.{Cell.Cell}
use Rattle.rules.proofs.Lists.FillLaws as laws
use Rattle.memory_cells.specs.Changes.{Becomes}
use Rattle.memory_cells.proofs.Reading.{count-cells}
use Rattle.memory_cell_changes.proofs.Writing.{unchanged, becomes-then, becomes-as}
use Rattle.memory_cell_fills.specs.Filling.{fill_cells}

cells-none : (m : Memory) (s : ℕ) (c : Cell) → m ≡ fill_cells m s (s - s) c
cells-none m s c =
    let e : s - s ≡ 0 = omega arith in
    rw e (λ t. record { blocks = m.blocks; cells = sym (laws.fill_none c m.cells s) t })

cells-more : (m : Memory) (s i : ℕ) (c : Cell) → s ≤ i → i < length m.cells
    → set_cell (fill_cells m s (i - s) c) i c ≡ fill_cells m s (i + 1 - s) c
cells-more m s i c h b =
    let e : i + 1 - s ≡ suc (i - s) = omega arith in
    rw e (λ t. record { blocks = m.blocks; cells = laws.fill_more c m.cells s (i - s) i (omega arith) b t })

-- the loop: the cells from s up to i
pub fill-start : (l : List ℕ) (s : ℕ) (c : Cell) → Becomes l l (fill_cells (memory_of l) s (s - s) c)
fill-start l s c = unchanged l _ (cells-none (memory_of l) s c)

pub fill-turn : {l l' l'' : List ℕ} (s i : ℕ) (c : Cell) → s ≤ i → i < cell_count
    → Becomes l l' (fill_cells (memory_of l) s (i - s) c) → Becomes l' l'' (set_cell (memory_of l') i c)
    → Becomes l l'' (fill_cells (memory_of l) s (i + 1 - s) c)
fill-turn {l} s i c h b x y =
    becomes-as (cells-more (memory_of l) s i c h (omega (arith, count-cells l)))
    (becomes-then (λ (m : Memory). set_cell m i c) x y)

pub ruleset fill_loop = (fill-start, fill-turn)

pub fill_one : (m : Memory) (i : ℕ) (c : Cell) → set_cell m i c ≡ fill_cells m i 1 c
fill_one m i c = λ t. record { blocks = m.blocks; cells = sym (laws.fill_one c m.cells i) t }
