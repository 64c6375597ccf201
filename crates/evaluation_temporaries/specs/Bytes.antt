-- What the bytes of the temporaries stand for.
use Rattle.std.specs.Prelude.{ℕ, ◌+◌, ◌*◌, List, get_or}
use Rattle.rules.specs.Sizes.{temporary_count}
use Rattle.rules.specs.Words.{word_at, integer_at, tabulate}
use Rattle.rules.specs.Layout.{cell_from}
use Rattle.rules.specs.Watched.{Temporaries}
use Rattle.rules.specs.declared.{Cell.Cell}
use Rattle.rules.specs.Types.{Temporary}
use Rattle.std.specs.Prelude.{None, Some}

-- a free cell is an empty temporary; an owner counts for nothing
abbrev pub temporary_in : Cell → Temporary
temporary_in Cell.Free = None
temporary_in (Cell.Holds o v) = Some v

-- 64 cells of 16 bytes, laid out as the memory's
abbrev pub temporary_place : ℕ → ℕ
temporary_place n = n * 16

abbrev pub temporaries_length : ℕ
temporaries_length = temporary_place temporary_count

unfoldable pub temporary_at : List ℕ → ℕ → Temporary
temporary_at l n =
    temporary_in
    (cell_from (get_or l (temporary_place n) 0) 0 (word_at 2 l (temporary_place n + 4))
    (integer_at l (temporary_place n + 8)))

unfoldable pub temporaries_of : List ℕ → Temporaries
temporaries_of l = tabulate 0 temporary_count (temporary_at l)
