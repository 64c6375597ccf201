use Rattle.std.proofs.Common.{rules}
use Rattle.memory_cell_changes.proofs.Writing.{becomes_block}
use Rattle.memory_block_changes.proofs.replace_block.Goals as goal

pub returns : goal.returns
returns c =
    let w = c.write_block.ensures in
    becomes_block c.args.name c.args.b w.bytes (search rules) c.requires.0 c.requires.1 w.held
