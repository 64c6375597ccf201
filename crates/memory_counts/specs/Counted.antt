-- A run's counts, and what they owe to its memory.
use Rattle.std.specs.Prelude.{ℕ, ◌+◌, ◌-◌, ◌≤◌, ◌≡◌}
use Rattle.rules.specs.declared.Counts.{Counts}
use Rattle.rules.specs.Sizes.{cell_count}
use Rattle.rules.specs.Memory.{Memory, cell_of, is_free, next_name, count_free}
use Rattle.rules.proofs.Lists.RunLaws.{NoneBelow, lowest_taken, lowest_given}
use Rattle.rules.proofs.Memory.Invariant.{Invariant}
use Rattle.rules_counting.specs.Counting.{name_from}

-- at the start on n inputs, after a new block of n cells from first on, and after the end of one
abbrev pub start_counts : ℕ → Counts
start_counts n = record { free = cell_count - 1 - n; lowest = 1 + n; next = 3 }

abbrev pub after_new : Counts → ℕ → ℕ → Counts
after_new c first n = record { free = c.free - n; lowest = lowest_taken first n c.lowest; next = c.next + 1 }

abbrev pub after_end : Counts → ℕ → ℕ → Counts
after_end c first n = record { free = c.free + n; lowest = lowest_given first c.lowest; next = c.next }

-- 02 §3: "after each step it is the number of cells of kind 0 in the execution memory"; and the next name is the one
-- that a new block gets; no cell below the lowest is free, and all cells from there on may be
pub record Counted (m : Memory) (c : Counts) : Type 0 where
  pub invariant : Invariant m
  pub free : c.free ≡ count_free m.cells
  pub next : next_name m ≡ name_from c.next
  pub lowest : NoneBelow (λ i. is_free (cell_of m i)) c.lowest
  pub within : c.lowest ≤ cell_count
