use Rattle.std.proofs.Common.{rules}
use Rattle.memory_cell_changes.proofs.Writing.{becomes_cell}
use Rattle.memory_cell_changes.proofs.replace_cell.Goals as goal

pub returns : goal.returns
returns c =
    becomes_cell c.args.i c.args.c c.write_cell.ensures.bytes (search rules) c.requires c.write_cell.ensures.held
