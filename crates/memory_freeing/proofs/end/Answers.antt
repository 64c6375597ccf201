-- The let's block is live, and its cell is where its record says.
use Rattle.memory_freeing.proofs.Steps.{cell-inside, one-counted, counted-ended}
use Rattle.memory_freeing.proofs.end.Goals as goal

pub replace_cell-requires : goal.replace_cell-requires
replace_cell-requires c = cell-inside c.requires.1 c.first_cell-first.ensures c.requires.0

pub give_back-requires : goal.give_back-requires
give_back-requires c = one-counted c.requires.0 c.requires.1

pub returns-clause-counts : goal.returns-clause-counts
returns-clause-counts c =
    counted-ended c.requires.0 c.requires.1 c.first_cell-first.ensures c.replace_cell.ensures c.replace_block.ensures
    c.give_back.ensures
