-- The cells from the first up to i are filled.
use Rattle.std.proofs.Common.{◌-◌}
use Rattle.rules.specs.Layout.{memory_of}
use Rattle.memory_cells.specs.Changes.{Becomes}
use Rattle.memory_cell_fills.specs.Filling.{fill_cells}
use Rattle.memory_cell_fills.proofs.fill.Given as goal

abbrev pub invariant-loop-i : goal.invariant-loop-i
invariant-loop-i l = Becomes l.fn.mem l.mem (fill_cells (memory_of l.fn.mem) l.start (l.i - l.start) l.c)
