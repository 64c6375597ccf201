-- Cells that become others.
use Rattle.std.specs.Prelude.{ℕ}
use Rattle.rules.specs.Memory.{Memory, fill}
use Rattle.rules.specs.declared.{Cell.Cell}

-- the n cells from s on are others
abbrev pub fill_cells : Memory → ℕ → ℕ → Cell → Memory
fill_cells m s n c = record { blocks = m.blocks; cells = fill m.cells s n c }
