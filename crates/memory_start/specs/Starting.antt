-- The steps from an empty memory to the one that a run starts with.
use Rattle.std.specs.Prelude.{ℕ, zero, suc, ◌*◌, List, pos}
use Rattle.rules.specs.Memory.{Memory, set_cell}
use Rattle.rules.specs.Words.{integer_at}
use Rattle.rules.specs.declared.{Value.Value, Block.Block, Cell.Cell}
use Rattle.memory_cells.specs.Changes.{set_block}

-- the blocks of the start and the cell of block 1, and then the first n inputs
abbrev pub with_start : Memory → ℕ → Memory
with_start m n =
    set_cell (set_block (set_block m 1 (Block.Fixed 0 1)) 2 (Block.Fixed 1 n)) 0
    (Cell.Holds 1 (Value.Pointer (record { name = 2; offset = pos 0 })))

unfoldable pub with_inputs : Memory → List ℕ → ℕ → Memory
with_inputs m i zero = m
with_inputs m i (suc n) = set_cell (with_inputs m i n) (suc n) (Cell.Holds 2 (Value.Integer (integer_at i (n * 8))))
